use Rattle.std.proofs.Common.{◌≡◌, ℕ, List, Some, length, slice_get}
use Rattle.jv_types.specs.Instruction.{value_kind_of}
use Rattle.machine_model.specs.Value.{taken_of}
use Rattle.jv_values.specs.declared.value.Value.{Value}
use Rattle.jv_values.specs.declared.operands.Taken.{Taken}
use Rattle.jv_values.specs.Values.{operands_in}
use Rattle.jv_values.specs.Taken.{taken_value_of}
use Rattle.jv_types.specs.declared.instruction.ValueKind.{ValueKind}
use Rattle.frame_stacks.specs.Threads.{Threads}
use Rattle.frame_operands.specs.Operands.{HasTwo, operands_in_newest}
use Rattle.frame_operands.proofs.Tops.{Hold, IsLooked, hold_all, can_look, looked}
use Rattle.frame_operands.proofs.Changes.{its_operands}
use Rattle.frame_operands.proofs.look.two_on_top.Goals as goal

module _ (stacks : Threads) (t : ℕ) (lower upper : ValueKind) (has : HasTwo stacks t (value_kind_of lower) (value_kind_of upper))
    (words : List Value) (are : operands_in_newest (slice_get stacks.threads t) ≡ Some words) where
  hold : Hold words (length words) has.frame.stack
  hold = hold_all words has.frame.stack (its_operands stacks t has.frame has.older words has.newest are)

  look_second : (taken : Taken) → taken_of (value_kind_of upper) (operands_in words (length words)) ≡ Some (taken_value_of words taken)
      → IsLooked words has.between has.second taken
  look_second taken is = looked words (length words) (value_kind_of upper) has.frame.stack has.between has.second taken hold has.top is

pub take-second-requires-clause-kind : goal.take-second-requires-clause-kind
take-second-requires-clause-kind c =
    let has = c.requires in
    let words = c.newest_operands-words.result.now in
    can_look words (length words) (value_kind_of c.args.upper) has.frame.stack has.between has.second
    (hold c.args.stacks.now c.args.t.0 c.args.lower c.args.upper has words c.newest_operands-words.ensures) has.top

pub take-first-requires-clause-kind : goal.take-first-requires-clause-kind
take-first-requires-clause-kind c =
    let has = c.requires in
    let words = c.newest_operands-words.result.now in
    let second = look_second c.args.stacks.now c.args.t.0 c.args.lower c.args.upper has words c.newest_operands-words.ensures
    c.take-second.result c.take-second.ensures.value in
    can_look words c.take-second.result.depth (value_kind_of c.args.lower) has.between has.below has.first second.rest has.next

pub returns-clause-first : goal.returns-clause-first
returns-clause-first c has =
    let words = c.newest_operands-words.result.now in
    let second = look_second c.args.stacks.now c.args.t.0 c.args.lower c.args.upper has words c.newest_operands-words.ensures
    c.take-second.result c.take-second.ensures.value in
    (looked words c.take-second.result.depth (value_kind_of c.args.lower) has.between has.below has.first c.take-first.result second.rest has.next
    c.take-first.ensures.value).value_is

pub returns-clause-second : goal.returns-clause-second
returns-clause-second c has =
    (look_second c.args.stacks.now c.args.t.0 c.args.lower c.args.upper has c.newest_operands-words.result.now c.newest_operands-words.ensures
    c.take-second.result c.take-second.ensures.value).value_is
