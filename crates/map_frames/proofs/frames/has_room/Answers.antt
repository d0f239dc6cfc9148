use Rattle.std.proofs.Common.{◌≡◌, ◌∙◌, leb, length, ap, sym}
use Rattle.typing_model.specs.VerificationType.{TypeFrame, top}
use Rattle.typing_model.specs.DescriptorFrame.{parameter_locals, filled}
use Rattle.map_frames.proofs.Places.{room-filled, max-locals}
use Rattle.std.proofs.lemmas.List.{length-map}
use Rattle.type_rules.specs.Types.{type_of}
use Rattle.map_frames.proofs.frames.has_room.Goals as goal

pub returns : goal.returns
returns c = λ w e has is.
    let start = c.args.start.now in
    let same : length (filled e (parameter_locals e)) ≡ length start.locals =
    ap (λ (f : TypeFrame). length f.locals) is ∙ length-map start.locals (type_of w) in
    ap (λ n. leb n c.from.result) (c.local_count.ensures ∙ sym same)
    ∙ ap (leb (length (filled e (parameter_locals e)))) (c.from.ensures ∙ sym (max-locals e _ _ _ has.body))
    ∙ room-filled (parameter_locals e) top e.body.max_locals
