-- In a world of which no method fails each method is well typed.
use Rattle.std.proofs.Common.{◌≡◌, ℕ, suc, Bool, true, false, cond, List, [], ◌∷◌, Option, Some, None, refl, sym, ◌∙◌, slice_get, if◌then◌else◌, ◌||◌}
use Rattle.std.specs.Prelude.{find, filter_map}
use Rattle.std.specs.List.{AllByRecursion, cons_option}
use Rattle.std.proofs.lemmas.Option.{slice_get_within}
use Rattle.jv_model.specs.Partial.{◌>>=◌}
use Rattle.jv_model.specs.Refusal.{Rule, not_verified}
use Rattle.jv_model.specs.Operand.{Operand, class_named}
use Rattle.jv_model.specs.Instruction.{Instruction, new}
use Rattle.jv_model.specs.Code.{Placed}
use Rattle.world_model.specs.World.{World, Class, Method, class_in, declared_method}
use Rattle.typing_model.specs.VerificationType.{TypeFrame, type_of, is_array, has, new_at}
use Rattle.typing_model.specs.Environment.{Environment, named_type}
use Rattle.typing_model.specs.InstructionTypes.{type_step}
use Rattle.typing_model.specs.Transition.{pushed}
use Rattle.typing_model.specs.ObjectTypes.{forgotten}
use Rattle.typing_model.specs.FailingPlace.{failing_place, method_failure, failures, world_failure}
use Rattle.typing_model.specs.WellTyped.{visit_to}
use Rattle.typing_laws.proofs.Passes.{Framed, framed, has-frame}
use Rattle.typing_laws.proofs.Instructions.{typed-applies}
use Rattle.machine_model.specs.Conforms.{frame_environment}
use Rattle.machine_model.specs.LocalStep.{instruction_at}
use Rattle.machine_model.specs.State.{Frame}
use Rattle.frame_laws.specs.Worlds.{IsVerified}
use Rattle.frame_laws.proofs.Standing.{typed_frame}
use Rattle.linked_laws.proofs.Lists.{found_holds}
use Rattle.linked_world_laws.specs.Laws.{MakesObjects}
use Rattle.linked_world_laws.proofs.Described.{each_none}

-- ---- methods that don't fail

none_first : {A : Type 0} (xs : List A) → slice_get xs 0 ≡ None → xs ≡ []
none_first [] e = refl
none_first (x ∷ xs) e = absurd cc

none_by : {B : Type 0} (o : Option B) (rest : List B) → cons_option o rest ≡ [] → (o ≡ None) × (rest ≡ [])
none_by None rest e = (refl, e)
none_by (Some b) rest e = absurd cc

none_kept : {A B : Type 0} (f : A → Option B) (xs : List A) → filter_map f xs ≡ [] → AllByRecursion (λ x. f x ≡ None) xs
none_kept f [] e = tt
none_kept f (x ∷ xs) e = let parts = none_by (f x) (filter_map f xs) e in (parts.0, none_kept f xs parts.1)

no_failing : {A B : Type 0} (o : Option A) (f : A → B) → (o >>= λ x. Some (f x)) ≡ None → o ≡ None
no_failing None f e = refl
no_failing (Some x) f e = absurd cc

pub none_fails : (world : World) → world_failure world ≡ None → (name : List ℕ) (class : Class) (m descriptor : List ℕ) (method : Method)
    → class_in world name ≡ Some class → declared_method m descriptor class ≡ Some method → failing_place world class method ≡ None
none_fails world none name class m descriptor method there declared =
    let classes = each_none (λ (c : Class). filter_map (method_failure world c) c.methods) world.classes (none_first (failures world) none) in
    let methods = (found_holds (λ (c : Class). filter_map (method_failure world c) c.methods ≡ []) _ world.classes class classes there).1 in
    let its = (found_holds (λ (x : Method). method_failure world class x ≡ None) _ class.methods method (none_kept (method_failure world class) class.methods methods) declared).1 in
    no_failing (failing_place world class method) (λ (place : ℕ × Rule). not_verified class.name method.name method.descriptor place.0 place.1) its

-- ---- instructions

found_at : {A : Type 0} (test : A → Bool) (xs : List A) (x : A) → find test xs ≡ Some x → (n : ℕ) × (slice_get xs n ≡ Some x)
found_at test [] x e = absurd cc
found_at test (y ∷ xs) x e = found_by test y xs x (test y) e (λ k. found_at test xs x k)
  where
    found_by : {A : Type 0} (test : A → Bool) (y : A) (xs : List A) (x : A) (b : Bool) → cond b (Some y) (find test xs) ≡ Some x
        → (find test xs ≡ Some x → (n : ℕ) × (slice_get xs n ≡ Some x)) → (n : ℕ) × (slice_get (y ∷ xs) n ≡ Some x)
    found_by test y xs x true e rest = (0, e)
    found_by test y xs x false e rest = let at = rest e in (suc at.0, at.1)

-- what typing makes of a `new` is of no array
pub makes_objects : (e : Environment) (pc : ℕ) (i : Instruction Operand) (frame after : TypeFrame) → type_step e pc i frame ≡ Some after → MakesObjects i
unfolding type_step
makes_objects e pc (new (class_named name)) frame after h = by (is_array (type_of (named_type name))) (has (new_at pc) frame.stack) h
  where
    by : (array again : Bool) → (if array || again then None else pushed e (new_at pc ∷ []) (record frame { locals = forgotten pc frame.locals })) ≡ Some after
        → array ≡ false
    by true again h = absurd cc
    by false again h = refl
makes_objects e pc other frame after h = tt

-- each instruction of a frame's method makes objects
pub frame_makes_objects : (world : World) → IsVerified world → (frame : Frame) (e : Environment) (pc : ℕ) (placed : Placed Operand)
    → frame_environment world frame ≡ Some e → instruction_at e.body pc ≡ Some placed → MakesObjects placed.instruction
frame_makes_objects world verified frame e pc placed is at =
    let typed = typed_frame world verified frame e is in
    let place = found_at _ e.body.instructions placed at in
    let here = typed.typing.typed place.0 placed (slice_get_within e.body.instructions place.0 placed place.1) place.1 in
    of (has-frame e (visit_to e typed.frames place.0 placed) here.right) (λ f same.
    (let applies = typed-applies e typed.frames place.0 placed f typed.typing place.1 (sym here.framed ∙ same) in
    makes_objects e placed.pc placed.instruction f applies.after applies.is_after))
  where
    of : {o : Option TypeFrame} → Framed o → ((f : TypeFrame) → o ≡ Some f → MakesObjects placed.instruction) → MakesObjects placed.instruction
    of (framed f same) next = next f same
