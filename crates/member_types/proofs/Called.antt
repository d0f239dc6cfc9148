-- What calls take and give, by number and by name.
use Rattle.std.proofs.Common.{◌≡◌, Bool, true, false, if◌then◌else◌, List, [], ◌∷◌, ◌++◌, Option, Some, None, map, reverse, option_map, option_to_list, ap, sym, ◌∙◌, refl}
use Rattle.std.proofs.lemmas.List.{map-append, reverse-append, reverse-reverse}
use Rattle.std.proofs.lemmas.List.Elements.{All-nil, All-cons, All-append, All-map}
use Rattle.std.specs.Option.{IfSome}
use Rattle.type_rules.proofs.Assigned.{All-reverse}
use Rattle.jv_model.specs.Partial.{◌>>=◌}
use Rattle.jv_model.specs.Descriptors.{MethodType}
use Rattle.world_model.specs.World.{World}
use Rattle.typing_model.specs.VerificationType as model
use Rattle.typing_model.specs.VerificationType.{TypeFrame}
use Rattle.typing_model.specs.Environment.{Environment}
use Rattle.typing_model.specs.Transition.{Test, to, changed}
use Rattle.typing_model.specs.CallTypes.{are_arguments, results}
use Rattle.type_rules.specs.declared.types.VerificationType.{VerificationType}
use Rattle.type_rules.specs.Types.{type_of, IsKnownType}
use Rattle.type_rules.specs.Frames.{types_of, AreKnown}
use Rattle.instruction_types.specs.declared.operands.Wanted.{Wanted}
use Rattle.instruction_types.specs.declared.operands.Wanted.TheVariants.{To}
use Rattle.instruction_types.specs.Wanted.{test_of, tests_of, IsKnownWanted, AreKnownWanted}
use Rattle.member_types.specs.Calls.{receiver_tests, called}

map-reverse : {A B : Type 0} (f : A → B) (xs : List A) → map f (reverse xs) ≡ reverse (map f xs)
map-reverse f [] = refl
map-reverse {A} {B} f (x ∷ xs) =
    ap (map f) (reverse-append (x ∷ []) xs) ∙ map-append f (reverse xs) (x ∷ [])
    ∙ ap (λ (l : List B). l ++ f x ∷ []) (map-reverse f xs) ∙ sym (reverse-append (f x ∷ []) (map f xs))

map-two : {A B C : Type 0} (f : B → C) (h : A → B) (xs : List A) → map f (map h xs) ≡ map (λ x. f (h x)) xs
map-two f h [] = refl
map-two {A} {B} {C} f h (x ∷ xs) = ap (λ (l : List C). f (h x) ∷ l) (map-two f h xs)

module _ (world : World) (e : Environment) where
  receiver-test : (receiver : Option Wanted) → tests_of world e (option_to_list receiver) ≡ receiver_tests world e receiver
  receiver-test None = refl
  receiver-test (Some wanted) = refl

  pub call-tests : (types : List VerificationType) (type : MethodType) (receiver : Option Wanted) (wanted : List Wanted)
      → types_of world types ≡ map model.type_of type.parameters → wanted ≡ map To (reverse types) ++ option_to_list receiver
      → tests_of world e wanted ≡ are_arguments e type ++ receiver_tests world e receiver
  call-tests types type receiver wanted same is =
      ap (tests_of world e) is ∙ map-append (test_of world e) (map To (reverse types)) (option_to_list receiver)
      ∙ (λ i. arguments i ++ receiver-test receiver i)
    where
      arguments : tests_of world e (map To (reverse types)) ≡ are_arguments e type
      arguments =
          map-two (test_of world e) To (reverse types) ∙ map-reverse (λ (t : VerificationType). to e (type_of world t)) types
          ∙ ap reverse (sym (map-two (to e) (type_of world) types) ∙ ap (map (to e)) same ∙ map-two (to e) model.type_of type.parameters)

  pub call-results : (returned : Option VerificationType) (type : MethodType) → option_map (type_of world) returned ≡ option_map model.type_of type.result
      → types_of world (option_to_list returned) ≡ results type
  call-results returned type same = by returned ∙ ap option_to_list same
    where
      by : (o : Option VerificationType) → types_of world (option_to_list o) ≡ option_to_list (option_map (type_of world) o)
      by None = refl
      by (Some t) = refl

-- ---- calls that a name forbids, and others

module _ (e : Environment) (receiver : List Test) (frame : TypeFrame) (type : Option MethodType) where
  unless_named : Bool → Option TypeFrame
  unless_named named = type >>= λ (t : MethodType). if named then None else changed e (are_arguments e t ++ receiver) (results t) frame

  pub named-none : (named : Bool) → named ≡ true
      → (type >>= λ (t : MethodType). if named then None else changed e (are_arguments e t ++ receiver) (results t) frame) ≡ None
  unfolding unless_named
  named-none named is = ap unless_named is ∙ by type
    where
      by : (o : Option MethodType) → (o >>= λ (t : MethodType). if true then None else changed e (are_arguments e t ++ receiver) (results t) frame) ≡ None
      by None = refl
      by (Some t) = refl

  pub named-called : (named : Bool) → named ≡ false
      → (type >>= λ (t : MethodType). if named then None else changed e (are_arguments e t ++ receiver) (results t) frame)
      ≡ called e type receiver frame
  unfolding unless_named
  named-called named is = ap unless_named is

-- what the operands have to be names classes that are there
pub wanted-known : (world : World) (types : List VerificationType) (receiver : Option Wanted) → AreKnown world types
    → IfSome receiver (IsKnownWanted world) → AreKnownWanted world (map To (reverse types) ++ option_to_list receiver)
wanted-known world types receiver known receiver_known =
    All-append (IsKnownWanted world) (map To (reverse types)) (option_to_list receiver)
    (All-map (IsKnownWanted world) To (reverse types)
    (All-reverse (IsKnownType world) (reverse types) types (reverse-reverse types) known))
    (by receiver receiver_known)
  where
    by : (o : Option Wanted) → IfSome o (IsKnownWanted world) → AreKnownWanted world (option_to_list o)
    by None there = All-nil (IsKnownWanted world)
    by (Some wanted) there = All-cons (IsKnownWanted world) wanted [] there (All-nil (IsKnownWanted world))
