-- The frames of a method, or the place where it fails.
use Rattle.std.proofs.Common.{◌≡◌, ℕ, zero, suc, Bool, List, [], ◌∷◌, Option, Some, None, is_some, map, slice_get, ap, sym, subst, ◌∙◌, refl}
use Rattle.std.specs.Prelude.{IsSome}
use Rattle.std.specs.Option.{IfSome}
use Rattle.jv_model.specs.Refusal as model
use Rattle.jv_model.specs.Refusal.{not_verified}
use Rattle.world_model.specs.World.{World, Class, Method}
use Rattle.typing_model.specs.Environment.{Environment, environment_of}
use Rattle.typing_model.specs.WellTyped.{IsTyping, FailsAt}
use Rattle.typing_model.specs.FailingPlace.{failing_place, method_failure}
use Rattle.typing_laws.proofs.Passes.{a-place}
use Rattle.jv_types.specs.Boot.{boot_method_of}
use Rattle.jv_types.specs.Refusal.{rule_of}
use Rattle.jv_types.specs.declared.boot.BootClass.{BootClass}
use Rattle.jv_types.specs.declared.boot.BootMethod.{BootMethod}
use Rattle.jv_types.specs.declared.number.MethodNo.{MethodNo}
use Rattle.class_world.specs.World.{class_of_origin, method_at}
use Rattle.class_world.specs.declared.class_info.Origin.TheVariants.{Boot}
use Rattle.type_rules.specs.Frames.{Types}
use Rattle.stackmap_verify.specs.declared.error.VerifyError.{VerifyError}
use Rattle.stackmap_verify.specs.declared.error.VerifyError.TheVariants.{NotVerified, NoMemory}
use Rattle.stackmap_verify.specs.Outcome.{Tells}
use Rattle.stackmap_verify.specs.Passed.{AreFramesOf, frames_of, Keeps}
use Rattle.stackmap_verify.specs.Typings.{TellsPlace}

-- ---- frames

module _ (world : World) (class : Class) (method : Method) where
  abbrev AreKept : List Types → Type 0
  AreKept frames = AreFramesOf world class method (frames_of world frames)

  -- a method without code has none
  pub codeless : (frames : List Types) → method.code ≡ None → frames ≡ [] → AreKept frames
  codeless frames none empty = record { typing = λ has. absurd (let no = subst IsSome none has in cc); nothing = λ n. ap (frames_of world) empty }

  pub keeps_nothing : (kept : Option (List Types)) → method.code ≡ None → IfSome kept (λ (frames : List Types). frames ≡ [])
      → Keeps (is_some kept) AreKept kept
  keeps_nothing None none empty = refl
  keeps_nothing (Some frames) none empty = codeless frames none empty

  -- one with code has those of its instructions
  pub keeps_typing : (wanted : Bool) (kept : Option (List Types)) → IsSome method.code
      → Keeps wanted (λ frames. IsTyping world class method (frames_of world frames)) kept → Keeps wanted AreKept kept
  keeps_typing wanted None has keeps = keeps
  keeps_typing wanted (Some frames) has typing =
      record { typing = λ h. typing; nothing = λ none. absurd (let no = subst IsSome none has in cc) }

  -- those that were kept, where they were wanted
  pub frames_kept : (wanted kept : Option (List Types)) (frames : List Types) → wanted ≡ Some [] → Keeps (is_some wanted) AreKept kept
      → ((fs : List Types) → kept ≡ Some fs → frames ≡ fs) → AreKept frames
  frames_kept wanted None frames is keeps same = absurd (let both = sym (ap is_some is) ∙ keeps in cc)
  frames_kept wanted (Some fs) frames is keeps same = subst AreKept (sym (same fs refl)) keeps

  -- ---- failures

  -- it fails at the place
  fails_there : (pc : ℕ) (rule : model.Rule) → failing_place world class method ≡ Some (pc, rule) → FailsAt world class method pc rule
  fails_there pc rule fails = by (environment_of world class method) refl
    where
      by : (o : Option Environment) → environment_of world class method ≡ o → FailsAt world class method pc rule
      by None is = absurd (let none = rw is at fails in cc)
      by (Some e) is = a-place world class method e pc rule is fails

  -- what is told of it is its place
  pub place_told : (error : VerifyError) → Tells (method_failure world class method) error → TellsPlace world class method error
  place_told NoMemory told = tt
  place_told (NotVerified name called descriptor pc rule) told = by (failing_place world class method) refl
    where
      by : (o : Option (ℕ × model.Rule)) → failing_place world class method ≡ o
          → TellsPlace world class method (NotVerified name called descriptor pc rule)
      by None fails = absurd (let none = rw fails at told in cc)
      by (Some place) fails =
          let same : Some (not_verified class.name method.name method.descriptor place.0 place.1)
          ≡ Some (not_verified name.items called.items descriptor.items pc (rule_of rule)) = rw fails at told in
          let at : place.0 ≡ pc = cc in
          let by_rule : place.1 ≡ rule_of rule = cc in
          (cc, cc, cc, fails_there pc (rule_of rule) (fails ∙ (λ i. Some (at i, by_rule i))))

-- ---- methods by number

-- it's there
pub has_method : (world : World) (number : MethodNo) (class : Class) → IsSome (method_at world number)
    → slice_get world.classes number.class.0 ≡ Some class → (method : Method) × (slice_get class.methods number.index ≡ Some method)
has_method world number class there at = by (slice_get class.methods number.index) refl
  where
    by : (o : Option Method) → slice_get class.methods number.index ≡ o
        → (method : Method) × (slice_get class.methods number.index ≡ Some method)
    by (Some method) is = (method, is)
    by None is = absurd (let none : method_at world number ≡ None = rw (at, is) refl in let no = subst IsSome none there in cc)

-- that of a boot class has no code
pub boot_code : (names : List (List ℕ)) (boot : BootClass) (class : Class) (index : ℕ) (method : Method)
    → class_of_origin names (Boot boot) ≡ class → slice_get class.methods index ≡ Some method → method.code ≡ None
boot_code names boot class index method is at =
    by boot.methods.items index (ap (λ (c : Class). slice_get c.methods index) is ∙ at)
  where
    by : (methods : List BootMethod) (index : ℕ) → slice_get (map boot_method_of methods) index ≡ Some method → method.code ≡ None
    by [] index at = absurd cc
    by (m ∷ ms) zero at = let same : boot_method_of m ≡ method = cc in ap (λ (it : Method). it.code) (sym same)
    by (m ∷ ms) (suc index) at = by ms index at
