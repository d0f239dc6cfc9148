use Rattle.std.proofs.Common.{◌≡◌, ℕ, List, Some, length, slice_get}
use Rattle.jv_types.specs.Instruction.{value_kind_of}
use Rattle.jv_types.specs.declared.instruction.ValueKind.{ValueKind}
use Rattle.machine_model.specs.Value.{taken_of}
use Rattle.jv_values.specs.declared.value.Value.{Value}
use Rattle.jv_values.specs.declared.operands.Taken.{Taken}
use Rattle.jv_values.specs.Values.{operands_in}
use Rattle.jv_values.specs.Taken.{taken_value_of}
use Rattle.frame_stacks.specs.Threads.{Threads}
use Rattle.frame_operands.specs.Operands.{HasThree, operands_in_newest}
use Rattle.frame_operands.proofs.Tops.{Hold, IsLooked, hold_all, can_look, looked}
use Rattle.frame_operands.proofs.Changes.{its_operands}
use Rattle.frame_operands.proofs.look.three_on_top.Goals as goal

module _ (stacks : Threads) (t : ℕ) (lower middle upper : ValueKind)
    (has : HasThree stacks t (value_kind_of lower) (value_kind_of middle) (value_kind_of upper))
    (words : List Value) (are : operands_in_newest (slice_get stacks.threads t) ≡ Some words) where
  hold : Hold words (length words) has.frame.stack
  hold = hold_all words has.frame.stack (its_operands stacks t has.frame has.older words has.newest are)

  module _ (third : Taken) (third_is : taken_of (value_kind_of upper) (operands_in words (length words)) ≡ Some (taken_value_of words third)) where
    look_third : IsLooked words has.above has.third third
    look_third = looked words (length words) (value_kind_of upper) has.frame.stack has.above has.third third hold has.top third_is

    look_second : (second : Taken) → taken_of (value_kind_of middle) (operands_in words third.depth) ≡ Some (taken_value_of words second)
        → IsLooked words has.between has.second second
    look_second second is =
        looked words third.depth (value_kind_of middle) has.above has.between has.second second look_third.rest has.next is

pub take-third-requires-clause-kind : goal.take-third-requires-clause-kind
take-third-requires-clause-kind c =
    let has = c.requires in
    let words = c.newest_operands-words.result.now in
    can_look words (length words) (value_kind_of c.args.upper) has.frame.stack has.above has.third
    (hold c.args.stacks.now c.args.t.0 c.args.lower c.args.middle c.args.upper has words c.newest_operands-words.ensures) has.top

pub take-second-requires-clause-kind : goal.take-second-requires-clause-kind
take-second-requires-clause-kind c =
    let has = c.requires in
    let words = c.newest_operands-words.result.now in
    let third = look_third c.args.stacks.now c.args.t.0 c.args.lower c.args.middle c.args.upper has words c.newest_operands-words.ensures
    c.take-third.result c.take-third.ensures.value in
    can_look words c.take-third.result.depth (value_kind_of c.args.middle) has.above has.between has.second third.rest has.next

pub take-first-requires-clause-kind : goal.take-first-requires-clause-kind
take-first-requires-clause-kind c =
    let has = c.requires in
    let words = c.newest_operands-words.result.now in
    let second = look_second c.args.stacks.now c.args.t.0 c.args.lower c.args.middle c.args.upper has words c.newest_operands-words.ensures
    c.take-third.result c.take-third.ensures.value c.take-second.result c.take-second.ensures.value in
    can_look words c.take-second.result.depth (value_kind_of c.args.lower) has.between has.below has.first second.rest has.last

pub returns-clause-first : goal.returns-clause-first
returns-clause-first c has =
    let words = c.newest_operands-words.result.now in
    let second = look_second c.args.stacks.now c.args.t.0 c.args.lower c.args.middle c.args.upper has words c.newest_operands-words.ensures
    c.take-third.result c.take-third.ensures.value c.take-second.result c.take-second.ensures.value in
    (looked words c.take-second.result.depth (value_kind_of c.args.lower) has.between has.below has.first c.take-first.result second.rest has.last
    c.take-first.ensures.value).value_is

pub returns-clause-second : goal.returns-clause-second
returns-clause-second c has =
    (look_second c.args.stacks.now c.args.t.0 c.args.lower c.args.middle c.args.upper has c.newest_operands-words.result.now
    c.newest_operands-words.ensures c.take-third.result c.take-third.ensures.value c.take-second.result c.take-second.ensures.value).value_is

pub returns-clause-third : goal.returns-clause-third
returns-clause-third c has =
    (look_third c.args.stacks.now c.args.t.0 c.args.lower c.args.middle c.args.upper has c.newest_operands-words.result.now
    c.newest_operands-words.ensures c.take-third.result c.take-third.ensures.value).value_is
