use Rattle.std.proofs.Common.{◌≡◌, ◌<◌, List, length, set, sym, ap, ◌∙◌, arith}
use Rattle.std.specs.Prelude.{Option, Some, slice_get}
use Rattle.std.proofs.lemmas.List.{length-map}
use Rattle.std.proofs.lemmas.Option.{slice_get-get_or}
use Rattle.jv_types.specs.Sequence.{Sequence}
use Rattle.look_up_cache.specs.declared.slot.Slot.{Slot}
use Rattle.look_up_cache.specs.Kept.{Kept, Places, with_kept}
use Rattle.look_up_cache.proofs.Kept.{row_changed, row_there}
use Rattle.look_up_cache.proofs.cache.Cache.keep.Goals as goal

pub returns : goal.returns
returns c =
    let a = c.args in
    let rows = c.self.inside.places.items in
    let row = c.index_mut.result.now in
    let within : a.class.0 < length rows =
    omega (arith, row_there a.self.now.places a.class a.index c.requires, ap (λ (k : Kept). length k.places) c.self.view_is, length-map rows (λ (r : Sequence (Option Slot)). r.items)) in
    let there : slice_get rows a.class.0 ≡ Some row = slice_get-get_or rows a.class.0 row within ∙ ap Some (sym c.index_mut.ensures.value) in
    let change : List (Option Slot) → List (Option Slot) = λ items. set items a.index (Some a.slot) in
    ap (λ (p : Places). let k : Kept = record { places = p; words = c.self.inside.words } in k)
    (row_changed rows a.class.0 row c.set.new.self change there (c.set.ensures.items ∙ ap (λ n. set row.items n (Some a.slot)) c.from.ensures))
    ∙ ap (with_kept a.class a.index a.slot) c.self.view_is
