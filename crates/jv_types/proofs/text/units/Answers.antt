-- Every character was yielded, so the units are those of all of them.
use Rattle.std.proofs.Common.{ap, sym, ◌∙◌}
use Rattle.std.specs.List.{flat_map}
use Rattle.std.specs.Char.Escape.{encode_utf16}
use Rattle.std.proofs.lemmas.Iterator.{YieldsList-from_chars}
use Rattle.std.proofs.lemmas.Iterator.Consumers.{YieldsList-end}
use Rattle.std.proofs.lemmas.List.Folds.{flat_map-map}
use Rattle.jv_model.specs.Utf16.{units_of_utf8}
use Rattle.jv_types.proofs.text.units.Goals as goal

pub returns : goal.returns
unfolding units_of_utf8
returns c =
    let from = YieldsList-from_chars c.args.text.now c.utf8.text cc in
    let yielded = c.loop-character.yielded in
    let steps = c.next.ensures.steps in
    let all = YieldsList-end from yielded _ c.loop-character.yielded_by _ _ c.in-None.is steps in
    c.loop-character.invariant ∙ sym (flat_map-map encode_utf16 (λ x. x) yielded)
    ∙ ap (flat_map encode_utf16) all.0
