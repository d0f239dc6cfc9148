-- When a method may return.
use Rattle.std.proofs.Common.{◌≡◌, Bool, true, false, ◌&&◌, not, if◌then◌else◌, Option, Some, None, option_map, is_none, ap, sym, ◌∙◌, refl}
use Rattle.std.specs.List.{list_any}
use Rattle.world_model.specs.World.{World}
use Rattle.typing_model.specs.VerificationType as model
use Rattle.typing_model.specs.VerificationType.{TypeFrame, has}
use Rattle.typing_model.specs.Environment as model_environment
use Rattle.typing_model.specs.ReturnTypes.{returned}
use Rattle.type_rules.specs.Types.{type_of}
use Rattle.type_rules.specs.Frames.{Types, frame_of, is_uninitialized_this}
use Rattle.type_rules.proofs.Assigned.{has_this-types}
use Rattle.instruction_types.specs.declared.environment.Environment.{Environment}
use Rattle.instruction_types.specs.Environment.{IsEnvironment}

none-map : {A B : Type 0} (f : A → B) (o : Option A) → is_none (option_map f o) ≡ is_none o
none-map f None = refl
none-map f (Some x) = refl

pub not_none : {A : Type 0} (o : Option A) → (o ≡ None → ⊥) → is_none o ≡ false
not_none None some = absurd (some refl)
not_none (Some x) some = refl

pub and_false : (b : Bool) → (b && false) ≡ false
and_false true = refl
and_false false = refl

-- what the rule comes to, where this much is known
pub returned-by : (world : World) (here : Environment) (e : model_environment.Environment) → IsEnvironment world here e
    → (old : Types) (no_result constructor uninitialized : Bool) → is_none here.result ≡ no_result → here.is_constructor ≡ constructor
    → list_any is_uninitialized_this old.locals ≡ uninitialized
    → returned e (frame_of world old)
    ≡ (if no_result && not (constructor && uninitialized) then Some (frame_of world old) else None)
returned-by world here e is old no_result constructor uninitialized none con left =
    let no = sym (none-map model.type_of e.type.result) ∙ ap is_none is.result_is ∙ none-map (type_of world) here.result ∙ none in
    let con_is = is.constructor ∙ con in
    let left_is = has_this-types world old.locals ∙ left in
    λ i. if (no i && not (con_is i && left_is i)) then Some (frame_of world old) else None
