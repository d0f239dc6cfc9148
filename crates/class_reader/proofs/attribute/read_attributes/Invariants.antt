use Rattle.std.proofs.Common.{◌≡◌, ◌-◌}
use Rattle.jv_model.specs.ClassReading.{attributes_at}
use Rattle.jv_types.specs.ClassData.{attrs_of}
use Rattle.jv_model.specs.Input.{in_front}
use Rattle.class_reader.specs.Owner.{owner_of}
use Rattle.class_reader.proofs.attribute.read_attributes.Given as goal

-- the attributes so far, and those that are still to be read
abbrev pub invariant-loop : goal.invariant-loop
invariant-loop l = in_front (attrs_of l.attributes.items)
    (attributes_at l.pool (owner_of l.owner) (l.count - l.counter) l.input)
    ≡ attributes_at l.pool (owner_of l.fn.owner) l.count l.fn.input
