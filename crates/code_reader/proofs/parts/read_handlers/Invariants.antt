use Rattle.std.proofs.Common.{◌≡◌, ◌-◌, map}
use Rattle.jv_model.specs.Input.{in_front}
use Rattle.jv_types.specs.Code.{handler_of}
use Rattle.code_model.specs.CodeShape.{handlers_at}
use Rattle.code_reader.proofs.parts.read_handlers.Given as goal

-- the rows so far, and those that are still to be read
abbrev pub invariant-loop : goal.invariant-loop
invariant-loop l = in_front (map handler_of l.rows.items)
    (handlers_at (l.count - l.counter) l.input) ≡ handlers_at l.count l.fn.input
