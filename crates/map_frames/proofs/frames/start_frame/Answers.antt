use Rattle.std.proofs.Common.{◌≡◌, List, [], reverse, sym, subst, ap, ◌∙◌}
use Rattle.std.proofs.lemmas.List.Elements.{All-nil}
use Rattle.typing_model.specs.DescriptorFrame.{parameter_locals, filled}
use Rattle.type_rules.specs.declared.types.VerificationType.{VerificationType}
use Rattle.type_rules.specs.Types.{IsKnownType}
use Rattle.type_rules.specs.Frames.{types_of, AreKnown}
use Rattle.map_frames.proofs.Places.{max-locals, filled-types, filled-known}
use Rattle.map_frames.proofs.frames.start_frame.Goals as goal

pub returns-clause-same : goal.returns-clause-same
returns-clause-same c = λ w e is has.
    let locals = c.in_ok-locals.locals.items in
    let most = c.args.code.now.body.now.max_locals in
    let filled_is : filled e (parameter_locals e) ≡ types_of w c.new-2.result.locals =
    filled-types w locals most e (parameter_locals e) c.new-2.result.locals (max-locals e _ _ _ has.body) (c.in_ok-locals.ensures.same w e is has)
    (c.new-2.ensures.locals ∙ c.in_ok-fill.ensures) in
    let stack_is : [] ≡ types_of w c.new-2.result.stack =
    sym (ap (types_of w) (c.new-2.ensures.stack ∙ ap (λ (l : List VerificationType). reverse l) c.new.ensures)) in
    λ i. record { locals = filled_is i; stack = stack_is i }

pub returns-clause-known : goal.returns-clause-known
returns-clause-known c = λ w there fields. record {
  locals = filled-known w c.in_ok-locals.locals.items c.args.code.now.body.now.max_locals c.new-2.result.locals
      (c.in_ok-locals.ensures.known w there fields) (c.new-2.ensures.locals ∙ c.in_ok-fill.ensures);
  stack = subst (AreKnown w) (sym (c.new-2.ensures.stack ∙ ap (λ (l : List VerificationType). reverse l) c.new.ensures)) (All-nil (IsKnownType w));
}
