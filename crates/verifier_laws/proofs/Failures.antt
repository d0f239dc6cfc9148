-- The first failure of a world, class by class and method by method.
use Rattle.std.proofs.Common.{◌≡◌, ℕ, List, [], ◌∷◌, Option, Some, None, slice_get, refl, ap, sym, ◌∙◌}
use Rattle.std.specs.List.{filter_map}
use Rattle.jv_model.specs.Partial.{◌>>=◌, or_else, first_of}
use Rattle.jv_model.specs.Refusal.{Rule, Cause, not_verified}
use Rattle.world_model.specs.World.{World, Class, Method}
use Rattle.typing_model.specs.Environment.{Environment, environment_of}
use Rattle.typing_model.specs.WellTyped.{FailsAt}
use Rattle.typing_model.specs.FailingPlace.{failing_place, method_failure, world_failure}
use Rattle.typing_laws.proofs.Passes.{no-place, typing-no-place, a-place, fails-a-place}
use Rattle.verifier_laws.specs.Failures.{IsWellTyped, IsWellTypedClass, IsFirstFailure}
use Rattle.verifier_laws.proofs.Firsts.{IsFirstAt, none_at, at_none, some_at, at_some, head_filter, head_flat}

-- what fails first in a class
abbrev pub class_failure : World → Class → Option Cause
class_failure world class = first_of (method_failure world class) class.methods

-- The failure of a world is the first one of a class.
pub failure_by_class : (world : World) → world_failure world ≡ first_of (class_failure world) world.classes
failure_by_class world =
    head_flat (λ (c : Class). filter_map (method_failure world c) c.methods) world.classes ∙ by world.classes
  where
    by : (classes : List Class)
        → first_of (λ (c : Class). slice_get (filter_map (method_failure world c) c.methods) 0) classes
        ≡ first_of (class_failure world) classes
    by [] = refl
    by (c ∷ cs) = λ i. or_else (head_filter (method_failure world c) c.methods i) (by cs i)

-- ---- one method

told : World → Class → Method → ℕ × Rule → Cause
told world class method place = not_verified class.name method.name method.descriptor place.0 place.1

no_failure : (world : World) (class : Class) (method : Method) → method_failure world class method ≡ None
    → failing_place world class method ≡ None
no_failure world class method none = by (failing_place world class method) none
  where
    by : (o : Option (ℕ × Rule))
        → (o >>= λ place. Some (not_verified class.name method.name method.descriptor place.0 place.1)) ≡ None → o ≡ None
    by None h = refl
    by (Some place) h = absurd cc

-- a method that doesn't fail is well typed,
pub typed_if_none : (world : World) (class : Class) (method : Method) → method_failure world class method ≡ None
    → IsWellTyped world class method
typed_if_none world class method none e is = no-place world class method e is (no_failure world class method none)

-- and the other way round.
pub none_if_typed : (world : World) (class : Class) (method : Method) → IsWellTyped world class method
    → method_failure world class method ≡ None
none_if_typed world class method typed = by (environment_of world class method) refl
  where
    by : (o : Option Environment) → environment_of world class method ≡ o → method_failure world class method ≡ None
    by None is = rw is refl
    by (Some e) is =
        let typing = typed e is in
        rw (typing-no-place world class method typing.0 typing.1) refl

-- ---- a class

pub class_typed : (world : World) (class : Class) → class_failure world class ≡ None → IsWellTypedClass world class
class_typed world class none i method at =
    typed_if_none world class method (none_at (method_failure world class) class.methods none i method at)

pub typed_class : (world : World) (class : Class) → IsWellTypedClass world class → class_failure world class ≡ None
typed_class world class typed =
    at_none (method_failure world class) class.methods (λ i method at. none_if_typed world class method (typed i method at))

-- ---- a world

pub world_typed : (world : World) → world_failure world ≡ None
    → (k : ℕ) (class : Class) → slice_get world.classes k ≡ Some class → IsWellTypedClass world class
world_typed world none k class at =
    class_typed world class (none_at (class_failure world) world.classes (sym (failure_by_class world) ∙ none) k class at)

pub typed_world : (world : World)
    → ((k : ℕ) (class : Class) → slice_get world.classes k ≡ Some class → IsWellTypedClass world class)
    → world_failure world ≡ None
typed_world world typed =
    failure_by_class world
    ∙ at_none (class_failure world) world.classes (λ k class at. typed_class world class (typed k class at))

-- ---- the first failure

-- the place at which a method fails, and what is told of it
MethodFails : World → Class → Method → Cause → Type 0
MethodFails world class method cause =
    (pc : ℕ) × (rule : Rule) × FailsAt world class method pc rule
    × (not_verified class.name method.name method.descriptor pc rule ≡ cause)

method_fails : (world : World) (class : Class) (method : Method) (cause : Cause)
    → method_failure world class method ≡ Some cause → MethodFails world class method cause
unfolding MethodFails
method_fails world class method cause some = by (environment_of world class method) refl
  where
    there : (e : Environment) → environment_of world class method ≡ Some e
        → (o : Option (ℕ × Rule)) → failing_place world class method ≡ o → MethodFails world class method cause
    there e is None none = absurd (let h = rw none at some in cc)
    there e is (Some place) at =
        let told = rw at at some in
        (place.0, place.1, a-place world class method e place.0 place.1 is at, cc)

    by : (o : Option Environment) → environment_of world class method ≡ o → MethodFails world class method cause
    by None is = absurd (let h = rw is at some in cc)
    by (Some e) is = there e is (failing_place world class method) refl

fails_method : (world : World) (class : Class) (method : Method) (pc : ℕ) (rule : Rule)
    → FailsAt world class method pc rule
    → method_failure world class method ≡ Some (not_verified class.name method.name method.descriptor pc rule)
fails_method world class method pc rule fails = rw (fails-a-place world class method pc rule fails) refl

pub failure_first : (world : World) (cause : Cause) → world_failure world ≡ Some cause → IsFirstFailure world cause
unfolding MethodFails
failure_first world cause some =
    let in_world : IsFirstAt (class_failure world) world.classes cause =
    some_at (class_failure world) world.classes cause (sym (failure_by_class world) ∙ some) in
    let class = in_world.item in
    let in_class : IsFirstAt (method_failure world class) class.methods cause =
    some_at (method_failure world class) class.methods cause in_world.has_it in
    let fails = method_fails world class in_class.item cause in_class.has_it in
    record {
      class_number = in_world.number;
      class = class;
      is_class = in_world.at;
      classes_before = λ k c low at. class_typed world c (in_world.before k c low at);
      method_number = in_class.number;
      method = in_class.item;
      is_method = in_class.at;
      methods_before = λ i m low at. typed_if_none world class m (in_class.before i m low at);
      pc = fails.0;
      rule = fails.1;
      fails = fails.2;
      told = fails.3;
    }

pub first_failure : (world : World) (cause : Cause) → IsFirstFailure world cause → world_failure world ≡ Some cause
first_failure world cause is =
    failure_by_class world
    ∙ at_some (class_failure world) world.classes cause (record {
      number = is.class_number;
      item = is.class;
      at = is.is_class;
      has_it = at_some (method_failure world is.class) is.class.methods cause (record {
        number = is.method_number;
        item = is.method;
        at = is.is_method;
        has_it = fails_method world is.class is.method is.pc is.rule is.fails ∙ ap Some is.told;
        before = λ i m low at. none_if_typed world is.class m (is.methods_before i m low at);
      });
      before = λ k c low at. typed_class world c (is.classes_before k c low at);
    })
