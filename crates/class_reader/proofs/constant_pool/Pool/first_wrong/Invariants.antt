use Rattle.std.proofs.Common.{◌≡◌, drop}
use Rattle.jv_model.specs.ClassReading.{first_wrong}
use Rattle.class_reader.proofs.constant_pool.Pool.first_wrong.Given as goal

-- the entries so far name right ones
abbrev pub invariant-loop-index : goal.invariant-loop-index
invariant-loop-index l = first_wrong l.major l.self l.index (drop l.index l.self)
    ≡ first_wrong l.major l.self 0 l.self
