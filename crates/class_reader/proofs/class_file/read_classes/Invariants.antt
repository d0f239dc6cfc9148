use Rattle.std.proofs.Common.{◌≡◌, ◌-◌}
use Rattle.jv_model.specs.ClassReading.{classes_at}
use Rattle.jv_model.specs.Input.{in_front}
use Rattle.class_reader.proofs.class_file.read_classes.Given as goal

-- the indices so far, and those that are still to be read
abbrev pub invariant-loop : goal.invariant-loop
invariant-loop l = in_front l.classes.items (classes_at l.pool (l.count - l.counter) l.input)
    ≡ classes_at l.pool l.count l.fn.input
