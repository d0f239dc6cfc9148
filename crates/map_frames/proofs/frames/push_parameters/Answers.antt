use Rattle.std.proofs.Common.{◌++◌, [], ◌∷◌, List, map, take, get_or, sym, ap, ◌∙◌, arith}
use Rattle.std.proofs.lemmas.List.{take_all, take_more, map-append}
use Rattle.typing_model.specs.VerificationType as model
use Rattle.typing_model.specs.DescriptorFrame.{as_locals}
use Rattle.type_rules.specs.declared.types.ElementType.TheVariants.{Byte}
use Rattle.type_rules.specs.declared.types.FieldType.{FieldType}
use Rattle.type_rules.specs.Types.{field_type_of}
use Rattle.type_rules.specs.Frames.{types_of}
use Rattle.map_frames.proofs.Places.{one-more}
use Rattle.map_frames.proofs.frames.push_parameters.Goals as goal

pub loop-parameter-preserved : goal.loop-parameter-preserved
loop-parameter-preserved c =
    let xs = c.args.parameters.now in
    let n = c.loop-parameter.parameter-index in
    let d : FieldType = record { dimensions = 0; element = Byte } in
    record {
      same = λ w.
          let f : FieldType → model.VerificationType = λ (t : FieldType). model.type_of (field_type_of w t) in
          let old = types_of w c.args.locals.now.items in
          let so_far = types_of w c.loop-parameter.locals.items in
          c.in_ok-push_local.ensures.same w
          ∙ ap (λ (t : model.VerificationType). so_far ++ as_locals (t ∷ [])) (c.verification_type.ensures.same w)
          ∙ one-more old so_far (map f (take n xs)) (f (get_or xs n d)) (c.loop-parameter.invariant.same w)
          ∙ ap (λ (ts : List model.VerificationType). old ++ as_locals ts)
          (sym (map-append f (take n xs) (get_or xs n d ∷ [])) ∙ ap (map f) (sym (take_more xs n d c.loop-parameter-test.true)));
      known = λ w known fields.
          c.in_ok-push_local.ensures.known w (c.loop-parameter.invariant.known w known fields)
          (c.verification_type.ensures.known w (fields n d c.loop-parameter-test.true));
    }

pub returns-clause-same : goal.returns-clause-same
returns-clause-same c = λ w.
    let f : FieldType → model.VerificationType = λ (t : FieldType). model.type_of (field_type_of w t) in
    c.loop-parameter.invariant.same w
    ∙ ap (λ (ts : List FieldType). types_of w c.args.locals.now.items ++ as_locals (map f ts))
    (take_all c.loop-parameter.parameter-index c.args.parameters.now (omega arith))
