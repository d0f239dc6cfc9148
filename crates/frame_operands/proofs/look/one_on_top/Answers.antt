use Rattle.std.proofs.Common.{length}
use Rattle.jv_types.specs.Instruction.{value_kind_of}
use Rattle.frame_operands.proofs.Tops.{hold_all, can_look, looked}
use Rattle.frame_operands.proofs.Changes.{has_frame, its_operands}
use Rattle.frame_operands.proofs.look.one_on_top.Goals as goal

pub newest_operands-words-requires : goal.newest_operands-words-requires
newest_operands-words-requires c =
    let has = c.requires in has_frame c.args.stacks.now c.args.t.0 has.frame has.older has.newest

pub take-requires-clause-kind : goal.take-requires-clause-kind
take-requires-clause-kind c =
    let has = c.requires in
    let words = c.newest_operands-words.result.now in
    can_look words (length words) (value_kind_of c.args.kind) has.frame.stack has.below has.value
    (hold_all words has.frame.stack (its_operands c.args.stacks.now c.args.t.0 has.frame has.older words has.newest c.newest_operands-words.ensures))
    has.top

pub returns : goal.returns
returns c has =
    let words = c.newest_operands-words.result.now in
    (looked words (length words) (value_kind_of c.args.kind) has.frame.stack has.below has.value c.take.result
    (hold_all words has.frame.stack (its_operands c.args.stacks.now c.args.t.0 has.frame has.older words has.newest c.newest_operands-words.ensures))
    has.top c.take.ensures.value).value_is
