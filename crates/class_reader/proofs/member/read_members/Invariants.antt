use Rattle.std.proofs.Common.{◌≡◌, ◌-◌}
use Rattle.jv_model.specs.ClassReading.{members_at}
use Rattle.jv_types.specs.ClassData.{members_of}
use Rattle.jv_model.specs.Input.{in_front}
use Rattle.class_reader.specs.MemberKind.{kind_of}
use Rattle.class_reader.proofs.member.read_members.Given as goal

-- the members so far, and those that are still to be read
abbrev pub invariant-loop : goal.invariant-loop
invariant-loop l = in_front (members_of l.members.items)
    (members_at l.pool (kind_of l.kind) (l.count - l.counter) l.input)
    ≡ members_at l.pool (kind_of l.kind) l.count l.fn.input
