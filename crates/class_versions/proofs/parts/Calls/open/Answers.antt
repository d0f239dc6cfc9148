use Rattle.std.proofs.Common.{◌∙◌}
use Rattle.class_versions.proofs.Selecting.{selects_by_slot}
use Rattle.class_versions.proofs.parts.Calls.open.Goals as goal

pub returns : goal.returns
returns c = record {
  method_counts = c.in_ok-slots.ensures.counts ∙ c.in_ok-signatures.ensures.counts;
  are_slots = c.in_ok-slots.ensures.are;
  dispatch_count = c.in_ok-dispatch.ensures.count;
  selects = selects_by_slot c.args.world.now c.in_ok-signatures.signatures c.in_ok-slots.slots c.in_ok-dispatch.dispatch
      c.in_ok-signatures.ensures c.in_ok-dispatch.ensures c.in_ok-slots.ensures;
}
