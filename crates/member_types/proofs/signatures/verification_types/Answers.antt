use Rattle.std.proofs.Common.{◌++◌, [], ◌∷◌, map, take, get_or, sym, subst, ap, ◌∙◌, arith}
use Rattle.std.proofs.lemmas.List.{take_all, take_more, map-append}
use Rattle.std.proofs.lemmas.List.Elements.{All-nil, All-cons, All-append}
use Rattle.typing_model.specs.VerificationType as model
use Rattle.type_rules.specs.declared.types.ElementType.TheVariants.{Byte}
use Rattle.type_rules.specs.declared.types.FieldType.{FieldType}
use Rattle.type_rules.specs.Types.{type_of, field_type_of, IsKnownType}
use Rattle.type_rules.specs.Frames.{types_of, AreKnown}
use Rattle.member_types.proofs.signatures.verification_types.Goals as goal

pub loop-field_type-preserved : goal.loop-field_type-preserved
loop-field_type-preserved c =
    let xs = c.args.types.now in
    let n = c.loop-field_type.field_type-index in
    let found = c.loop-field_type.found.items in
    let type = c.verification_type.result in
    let d : FieldType = record { dimensions = 0; element = Byte } in
    record {
      same = λ w.
          let f : FieldType → model.VerificationType = λ (t : FieldType). model.type_of (field_type_of w t) in
          ap (types_of w) c.in_ok-push.ensures.ok ∙ map-append (type_of w) found (type ∷ [])
          ∙ (λ i. c.loop-field_type.invariant.same w i ++ (c.verification_type.ensures.same w i ∷ []))
          ∙ sym (map-append f (take n xs) (get_or xs n d ∷ []))
          ∙ ap (map f) (sym (take_more xs n d c.loop-field_type-test.true));
      known = λ w known.
          subst (AreKnown w) (sym c.in_ok-push.ensures.ok)
          (All-append (IsKnownType w) found (type ∷ []) (c.loop-field_type.invariant.known w known)
          (All-cons (IsKnownType w) type [] (c.verification_type.ensures.known w (known n d c.loop-field_type-test.true)) (All-nil (IsKnownType w))));
    }

pub returns-clause-same : goal.returns-clause-same
returns-clause-same c = λ w.
    let xs = c.args.types.now in
    c.loop-field_type.invariant.same w
    ∙ ap (map (λ (type : FieldType). model.type_of (field_type_of w type))) (take_all c.loop-field_type.field_type-index xs (omega arith))
