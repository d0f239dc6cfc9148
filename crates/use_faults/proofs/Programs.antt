-- The first fault of the classes of a program.
use Rattle.std.proofs.Common.{◌≡◌, Bool, true, false, List, [], ◌∷◌, Option, Some, None, filter, if◌then◌else◌, refl, ap, sym, ◌∙◌}
use Rattle.jv_model.specs.Partial.{first_of, or_else}
use Rattle.jv_model.specs.Refusal.{Cause}
use Rattle.jv_model.specs.LoadedClass.{LoadedClass}
use Rattle.world_model.specs.World.{Class, is_user, loaded_classes}
use Rattle.link_model.specs.WorldOf.{class_of}
use Rattle.class_faults.proofs.Firsts.{IsFirst}

or_none : (o : Option Cause) → or_else o None ≡ o
or_none None = refl
or_none (Some cause) = refl

or_assoc : (a b : Option Cause) → or_else a b ≡ or_else (or_else a None) b
or_assoc None b = refl
or_assoc (Some cause) b = refl

module _ (fault : LoadedClass → Option Cause) where
  -- what is wrong first with those of some classes that were read
  abbrev pub first_loaded : List Class → Option Cause
  first_loaded classes = first_of fault (loaded_classes (filter is_user classes))

  loaded_more : (user : Bool) (loaded : Option LoadedClass) (class : Class) (classes : List Class)
      → class.loaded ≡ loaded
      → first_of fault (loaded_classes (if user then class ∷ filter is_user classes else filter is_user classes))
      ≡ or_else (first_of fault (loaded_classes (if user then class ∷ [] else []))) (first_loaded classes)
  loaded_more false loaded class classes is = refl
  loaded_more true None class classes is = rw is refl
  loaded_more true (Some loaded) class classes is = rw is (or_assoc (fault loaded) (first_loaded classes))

  pub first_of_loaded : IsFirst (λ (c : Class). first_loaded (c ∷ [])) first_loaded
  first_of_loaded = record { none = refl; more = λ c cs. loaded_more (is_user c) c.loaded c cs refl }

  -- a class of the program has what it is as it was read, and any other has none
  pub loaded_class : (class : Class) (loaded : LoadedClass) → class ≡ class_of loaded
      → fault loaded ≡ first_loaded (class ∷ [])
  loaded_class class loaded is =
      sym (or_none (fault loaded)) ∙ ap (λ (c : Class). first_loaded (c ∷ [])) (sym is)

  pub no_program_class : (class : Class) → is_user class ≡ false → None ≡ first_loaded (class ∷ [])
  no_program_class class is = rw is refl

module _ (fault : Class → Option Cause) where
  abbrev pub first_user : List Class → Option Cause
  first_user classes = first_of fault (filter is_user classes)

  user_more : (user : Bool) (class : Class) (classes : List Class)
      → first_of fault (if user then class ∷ filter is_user classes else filter is_user classes)
      ≡ or_else (first_of fault (if user then class ∷ [] else [])) (first_user classes)
  user_more false class classes = refl
  user_more true class classes = or_assoc (fault class) (first_user classes)

  pub first_of_users : IsFirst (λ (c : Class). first_user (c ∷ [])) first_user
  first_of_users = record { none = refl; more = λ c cs. user_more (is_user c) c cs }

  pub user_class : (class : Class) (loaded : LoadedClass) → class ≡ class_of loaded
      → fault (class_of loaded) ≡ first_user (class ∷ [])
  user_class class loaded is =
      sym (or_none (fault (class_of loaded))) ∙ ap (λ (c : Class). first_user (c ∷ [])) (sym is)

  pub no_user_class : (class : Class) → is_user class ≡ false → None ≡ first_user (class ∷ [])
  no_user_class class is = rw is refl
