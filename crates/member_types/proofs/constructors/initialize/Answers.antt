use Rattle.std.proofs.Common.{Option, Some, map, sym, subst, ap, ◌∙◌}
use Rattle.jv_model.specs.Partial.{◌>>=◌}
use Rattle.typing_model.specs.VerificationType.{TypeFrame}
use Rattle.typing_model.specs.CallTypes.{with_each}
use Rattle.type_rules.specs.Types.{type_of}
use Rattle.type_rules.specs.Frames.{Types, frame_of, IsKnownFrame}
use Rattle.member_types.specs.Replacements.{replaced, type_of_uninitialized}
use Rattle.member_types.proofs.Replaced.{replaced-all, replaced-known}
use Rattle.member_types.proofs.constructors.initialize.Goals as goal

pub returns-clause-typed : goal.returns-clause-typed
returns-clause-typed g c = λ e is.
    let w = c.args.world.now in
    let rest = c.pop_all.new.frame in
    let old = type_of w (type_of_uninitialized c.args.old) in
    let fresh = type_of w c.args.object in
    let left = c.replace_operands.ensures
    ∙ ap (λ (t : Types). record { locals = t.locals; stack = map (replaced c.args.old c.args.object) t.stack }) c.replace_locals.ensures in
    ap (λ (o : Option TypeFrame). o >>= λ (frame : TypeFrame). Some (with_each old fresh frame)) (c.in_ok-pop_all.ensures.typed e is)
    ∙ (λ i. Some (record {
      locals = replaced-all w c.args.old c.args.object rest.locals i;
      stack = replaced-all w c.args.old c.args.object rest.stack i;
    }))
    ∙ ap (λ (t : Types). Some (frame_of w t)) (sym left)

pub returns-clause-known : goal.returns-clause-known
returns-clause-known g c =
    let w = c.args.world.now in
    let rest = c.pop_all.new.frame in
    let known = c.in_ok-pop_all.ensures.known in
    let left = c.replace_operands.ensures
    ∙ ap (λ (t : Types). record { locals = t.locals; stack = map (replaced c.args.old c.args.object) t.stack }) c.replace_locals.ensures in
    subst (IsKnownFrame w) (sym left)
    (record {
      locals = replaced-known w c.args.old c.args.object rest.locals c.requires.object known.locals;
      stack = replaced-known w c.args.old c.args.object rest.stack c.requires.object known.stack;
    })
