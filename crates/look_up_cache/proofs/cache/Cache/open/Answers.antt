use Rattle.std.proofs.Common.{map}
use Rattle.std.specs.Prelude.{Option}
use Rattle.look_up_cache.specs.declared.slot.Slot.{Slot}
use Rattle.jv_types.specs.Sequence.{Sequence}
use Rattle.look_up_cache.proofs.Kept.{begins_true}
use Rattle.look_up_cache.proofs.cache.Cache.open.Goals as goal

pub returns : goal.returns
returns c =
    let begins = begins_true c.args.world.now c.args.versions.now.slots c.args.versions.now.literals.texts
    (record { places = map (λ (row : Sequence (Option Slot)). row.items) c.in_ok-places.places.items; words = c.in_ok-words.words })
    c.in_ok-places.ensures c.in_ok-words.ensures in
    record { truth = begins.0; empty = begins.1 }
