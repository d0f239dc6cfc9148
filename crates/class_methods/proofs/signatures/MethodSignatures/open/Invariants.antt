use Rattle.std.proofs.Common.{[], map, take}
use Rattle.class_methods.specs.Filling.{HaveNumbers}
use Rattle.class_methods.proofs.Rows.{calls_of}
use Rattle.class_methods.proofs.signatures.MethodSignatures.open.Given as goal

-- the classes so far have their rows
abbrev pub invariant-loop-class : goal.invariant-loop-class
invariant-loop-class l =
    HaveNumbers l.filling (map (λ row. row.items) l.rows.items) (take l.class (map calls_of l.world.classes)) [] []
