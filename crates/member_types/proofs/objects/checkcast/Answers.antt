use Rattle.std.proofs.Common.{[], ◌∷◌, List, ℕ, Option, sym, subst, ap, ◌∙◌}
use Rattle.std.proofs.lemmas.List.Elements.{All-nil, All-cons}
use Rattle.world_model.specs.BootNames.{java_object}
use Rattle.code_model.specs.Names.{operand_at}
use Rattle.typing_model.specs.VerificationType as model
use Rattle.typing_model.specs.VerificationType.{TypeFrame}
use Rattle.typing_model.specs.Environment.{named_type}
use Rattle.typing_model.specs.Transition.{to, changed}
use Rattle.jv_types.specs.ClassData.{pool_of}
use Rattle.type_rules.specs.declared.types.VerificationType.TheVariants.{Class}
use Rattle.type_rules.specs.Types.{IsKnownType}
use Rattle.type_rules.specs.Frames.{frame_of}
use Rattle.instruction_types.specs.declared.operands.Wanted.TheVariants.{To}
use Rattle.instruction_types.specs.Outcome.{Gives}
use Rattle.instruction_types.specs.Wanted.{IsKnownWanted}
use Rattle.instruction_types.proofs.Found.{found-name, found-known}
use Rattle.member_types.proofs.NamedTypes.{class-rule}
use Rattle.member_types.proofs.objects.checkcast.Goals as goal

pub change-requires-clause-wanted : goal.change-requires-clause-wanted
change-requires-clause-wanted g c =
    let w = c.args.world.now in
    let object = c.args.here.now.object in
    All-cons (IsKnownWanted w) (To (Class object)) [] (found-known w java_object object c.requires.here.object) (All-nil (IsKnownWanted w))

pub change-requires-clause-types : goal.change-requires-clause-types
change-requires-clause-types g c =
    let w = c.args.world.now in
    All-cons (IsKnownType w) c.verification_type.result [] (c.verification_type.ensures.known w c.in-Some.ensures.known) (All-nil (IsKnownType w))

pub returns-clause-typed : goal.returns-clause-typed
returns-clause-typed g c = λ e is.
    let w = c.args.world.now in
    let old = frame_of w c.args.frame.now in
    let object = found-name w java_object c.args.here.now.object c.requires.here.object in
    let named = c.in-Some.ensures in
    let checked : List ℕ → model.VerificationType → Option TypeFrame =
    λ (name : List ℕ) (type : model.VerificationType). changed e (to e (model.class name) ∷ []) (type ∷ []) old in
    let rule =
    class-rule (λ (name : List ℕ). checked java_object (model.type_of (named_type name))) (operand_at (pool_of c.args.pool.now) c.args.index) named.name named.is_name
    ∙ (λ i. checked (sym object i) ((ap model.type_of (sym named.is_type) ∙ sym (c.verification_type.ensures.same w)) i)) in
    subst (λ (o : Option TypeFrame). Gives {X = Unit {0}} c.change.result o (frame_of w c.change.new.frame)) (sym rule) (c.change.ensures.typed e is)
