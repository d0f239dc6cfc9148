-- Calls of constructors, by number and by name.
use Rattle.std.proofs.Common.{◌≡◌, ℕ, Bool, true, false, ◌||◌, if◌then◌else◌, List, [], ◌∷◌, ◌++◌, Option, Some, None, is_none, is_some, not, map, option_map, length, slice_get, ap, sym, ◌∙◌, refl}
use Rattle.std.specs.List.{list_any}
use Rattle.std.proofs.lemmas.List.{length-map}
use Rattle.std.proofs.lemmas.Option.{slice_get-map}
use Rattle.jv_model.specs.Partial.{◌>>=◌}
use Rattle.jv_model.specs.ClassData.{Const}
use Rattle.jv_model.specs.Descriptors.{FieldType, MethodType}
use Rattle.jv_model.specs.Operand.{MemberReference}
use Rattle.jv_model.specs.Code.{Placed}
use Rattle.world_model.specs.World.{World}
use Rattle.code_model.specs.Names.{named_placed}
use Rattle.typing_model.specs.VerificationType as model
use Rattle.typing_model.specs.VerificationType.{TypeFrame, is_same}
use Rattle.typing_model.specs.Environment.{Environment}
use Rattle.typing_model.specs.Transition.{popped, operand_at}
use Rattle.typing_model.specs.CallTypes.{are_arguments, is_made_at, initialized, with_each, constructor_called}
use Rattle.type_rules.specs.declared.types.VerificationType.{VerificationType}
use Rattle.type_rules.specs.declared.types.VerificationType.TheVariants as types
use Rattle.type_rules.specs.Types.{type_of}
use Rattle.type_rules.specs.Frames.{types_of}
use Rattle.instruction_types.specs.Wanted.{test_of, IsKnownWanted}
use Rattle.member_types.specs.declared.replacements.Uninitialized.{Uninitialized}
use Rattle.member_types.specs.declared.replacements.Uninitialized.TheVariants.{This, New}
use Rattle.member_types.specs.Replacements.{type_of_uninitialized, uninitialized_of, wanted_of}
use Rattle.member_types.specs.Constructors.{makes, taken_and_replaced}

-- ---- where an object was made

any-map : {A B : Type 0} (p : B → Bool) (f : A → B) (xs : List A) → list_any p (map f xs) ≡ list_any (λ x. p (f x)) xs
any-map p f [] = refl
any-map p f (x ∷ xs) = ap (λ (b : Bool). p (f x) || b) (any-map p f xs)

pub made-at : (e : Environment) (name : List ℕ) (pc : ℕ) (pool : List Const) (instructions : List (Placed ℕ))
    → e.body.instructions ≡ map (named_placed pool) instructions
    → is_made_at e name pc ≡ list_any (λ placed. makes name pc (named_placed pool placed)) instructions
made-at e name pc pool instructions is =
    ap (list_any (makes name pc)) is ∙ any-map (makes name pc) (named_placed pool) instructions

-- ---- the receiver

pub uninitialized-some : (type : VerificationType) (old : Uninitialized) → uninitialized_of type ≡ Some old → type ≡ type_of_uninitialized old
uninitialized-some types.Top old is = absurd cc
uninitialized-some types.Int old is = absurd cc
uninitialized-some types.Long old is = absurd cc
uninitialized-some types.Null old is = absurd cc
uninitialized-some types.This old is = let same : This ≡ old = cc in ap type_of_uninitialized same
uninitialized-some (types.New pc) old is = let same : New pc ≡ old = cc in ap type_of_uninitialized same
uninitialized-some (types.Class class) old is = absurd cc
uninitialized-some (types.Array component) old is = absurd cc

module _ (world : World) where
  pub uninitialized-none : (e : Environment) (name : List ℕ) (type : VerificationType) → uninitialized_of type ≡ None
      → initialized e name (type_of world type) ≡ None
  uninitialized-none e name types.Top none = refl
  uninitialized-none e name types.Int none = refl
  uninitialized-none e name types.Long none = refl
  uninitialized-none e name types.Null none = refl
  uninitialized-none e name types.This none = absurd cc
  uninitialized-none e name (types.New pc) none = absurd cc
  uninitialized-none e name (types.Class class) none = refl
  uninitialized-none e name (types.Array component) none = refl

  pub wanted-test : (e : Environment) (old : Uninitialized) → test_of world e (wanted_of old) ≡ is_same (type_of world (type_of_uninitialized old))
  wanted-test e This = refl
  wanted-test e (New pc) = refl

  pub wanted-there : (old : Uninitialized) → IsKnownWanted world (wanted_of old)
  wanted-there This = tt
  wanted-there (New pc) = tt

  -- the operand below the arguments
  pub receiver-at : (parameters stack : List VerificationType) (type : MethodType) (number : ℕ) (receiver : VerificationType)
      → types_of world parameters ≡ map model.type_of type.parameters → number ≡ length parameters → slice_get stack number ≡ Some receiver
      → slice_get (types_of world stack) (length type.parameters) ≡ Some (type_of world receiver)
  receiver-at parameters stack type number receiver same is at =
      ap (slice_get (types_of world stack))
      (sym (is ∙ sym (length-map parameters (type_of world)) ∙ ap length same ∙ length-map type.parameters model.type_of))
      ∙ slice_get-map (type_of world) stack number ∙ ap (option_map (type_of world)) at

  -- whether something is returned
  pub result-none : (returned : Option VerificationType) (type : MethodType)
      → option_map (type_of world) returned ≡ option_map model.type_of type.result → is_none type.result ≡ not (is_some returned)
  result-none returned type same = sym (by-none type.result) ∙ ap is_none (sym same) ∙ by-some returned
    where
      by-none : (o : Option FieldType) → is_none (option_map model.type_of o) ≡ is_none o
      by-none None = refl
      by-none (Some t) = refl

      by-some : (o : Option VerificationType) → is_none (option_map (type_of world) o) ≡ not (is_some o)
      by-some None = refl
      by-some (Some t) = refl

-- ---- the call

module _ (e : Environment) (method : MemberReference) (type : MethodType) (frame : TypeFrame) where
  by_flag : model.VerificationType → model.VerificationType → Bool → Option TypeFrame
  by_flag receiver object without_result =
      popped (are_arguments e type ++ is_same receiver ∷ []) frame
      >>= λ (rest : TypeFrame). if without_result then Some (with_each receiver object rest) else None

  by_object : model.VerificationType → Option model.VerificationType → Option TypeFrame
  by_object receiver object = object >>= λ (o : model.VerificationType). by_flag receiver o (is_none type.result)

  by_receiver : Option model.VerificationType → Option TypeFrame
  by_receiver receiver = receiver >>= λ (r : model.VerificationType). by_object r (initialized e method.class r)

  pub no-object : (receiver : model.VerificationType) → operand_at (length type.parameters) frame ≡ Some receiver
      → initialized e method.class receiver ≡ None → constructor_called e method type frame ≡ None
  unfolding by_flag by_object by_receiver
  no-object receiver at none = ap by_receiver at ∙ ap (by_object receiver) none

  never : (receiver object : model.VerificationType) (taken : Option TypeFrame)
      → (taken >>= λ (rest : TypeFrame). if false then Some (with_each receiver object rest) else None) ≡ None
  never receiver object None = refl
  never receiver object (Some rest) = refl

  pub with-result : (receiver object : model.VerificationType) → operand_at (length type.parameters) frame ≡ Some receiver
      → initialized e method.class receiver ≡ Some object → is_none type.result ≡ false → constructor_called e method type frame ≡ None
  unfolding by_flag by_object by_receiver
  with-result receiver object at made returns =
      ap by_receiver at ∙ ap (by_object receiver) made ∙ ap (by_flag receiver object) returns
      ∙ never receiver object (popped (are_arguments e type ++ is_same receiver ∷ []) frame)

  pub without-result : (receiver object : model.VerificationType) → operand_at (length type.parameters) frame ≡ Some receiver
      → initialized e method.class receiver ≡ Some object → is_none type.result ≡ true
      → constructor_called e method type frame ≡ taken_and_replaced (are_arguments e type ++ is_same receiver ∷ []) receiver object frame
  unfolding by_flag by_object by_receiver
  without-result receiver object at made returns =
      ap by_receiver at ∙ ap (by_object receiver) made ∙ ap (by_flag receiver object) returns
