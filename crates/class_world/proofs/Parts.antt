-- Classes that say the same make the same world.
use Rattle.std.proofs.Common.{◌≡◌, ℕ, List, [], ◌∷◌, Option, Some, None, map, slice_get, option_map, option_and_then, bytes_eq, ap, sym, subst, ◌∙◌, refl}
use Rattle.std.specs.List.{IsDistinct}
use Rattle.std.proofs.lemmas.Option.{slice_get-map}
use Rattle.world_model.specs.World as model
use Rattle.class_world.specs.declared.class_info.ClassInfo.{ClassInfo}
use Rattle.class_world.specs.declared.class_info.Origin.{Origin}
use Rattle.class_world.specs.declared.class_info.Origin.TheVariants.{Boot, Program}
use Rattle.class_world.specs.MemberTable.{Members}
use Rattle.class_world.specs.Parts.{InfoParts, source_of, parts_of, class_of_source, names_of_parts, world_of_parts}
use Rattle.class_world.specs.World.{class_of_origin, names_of_infos, world_of_infos, names_of, number_of, numbers_of, IsInfo, AreInfos, IsWorld}

-- ---- the world

class_is : (names : List (List ℕ)) (origin : Origin) → class_of_origin names origin ≡ class_of_source names (source_of origin)
class_is names (Boot class) = refl
class_is names (Program loaded) = refl

names_are : (infos : List ClassInfo) → names_of_infos infos ≡ names_of_parts (map parts_of infos)
names_are [] = refl
names_are (info ∷ infos) = ap (λ (l : List (List ℕ)). info.name.items ∷ l) (names_are infos)

classes_are : (names : List (List ℕ)) (infos : List ClassInfo)
    → map (λ (i : ClassInfo). class_of_origin names i.origin) infos ≡ map (λ (p : InfoParts). class_of_source names p.source) (map parts_of infos)
classes_are names [] = refl
classes_are names (info ∷ infos) = λ i. class_is names info.origin i ∷ classes_are names infos i

pub world_is : (infos : List ClassInfo) → world_of_infos infos ≡ world_of_parts (map parts_of infos)
world_is infos =
    ap (λ (classes : List model.Class). record { classes = classes })
    (ap (λ (names : List (List ℕ)). map (λ (i : ClassInfo). class_of_origin names i.origin) infos) (names_are infos)
    ∙ classes_are (names_of_parts (map parts_of infos)) infos)

-- ---- the classes, each with the numbers of its supertypes

-- What `IsInfo` says, of what a class says.
pub record Fits (world : model.World) (class : model.Class) (parts : InfoParts) : Type 0 where
  pub name : parts.name ≡ class.name
  pub superclass : parts.superclass ≡ option_and_then (number_of world) class.superclass
  pub interfaces : parts.interfaces ≡ numbers_of world class.interfaces
  pub source : class_of_source (names_of world) parts.source ≡ class

-- What `AreInfos` says.
pub record AreParts (all : List InfoParts) : Type 0 where
  pub each : (k : ℕ) (parts : InfoParts) → slice_get all k ≡ Some parts
      → Fits (world_of_parts all) (class_of_source (names_of_parts all) parts.source) parts
  pub names_apart : IsDistinct bytes_eq (names_of (world_of_parts all))

info_fits : (world : model.World) (class : model.Class) (info : ClassInfo) → IsInfo world class info → Fits world class (parts_of info)
info_fits world class info is = record {
  name = is.name;
  superclass = is.superclass;
  interfaces = is.interfaces;
  source = sym (class_is (names_of world) info.origin) ∙ is.origin;
}

fits_info : (world : model.World) (class : model.Class) (info : ClassInfo) → Fits world class (parts_of info) → IsInfo world class info
fits_info world class info fits = record {
  name = fits.name;
  superclass = fits.superclass;
  interfaces = fits.interfaces;
  origin = class_is (names_of world) info.origin ∙ fits.source;
}

from_option_map : {A B : Type 0} (f : A → B) (found : Option A) (b : B) → option_map f found ≡ Some b → (a : A) × (found ≡ Some a) × (f a ≡ b)
from_option_map f None b is = absurd cc
from_option_map f (Some a) b is = (a, refl, cc)

class_in_parts : (infos : List ClassInfo) (origin : Origin) → class_of_origin (names_of_infos infos) origin ≡ class_of_source (names_of_parts (map parts_of infos)) (source_of origin)
class_in_parts infos origin =
    class_is (names_of_infos infos) origin ∙ ap (λ (names : List (List ℕ)). class_of_source names (source_of origin)) (names_are infos)

pub are_parts : (infos : List ClassInfo) → AreInfos infos → AreParts (map parts_of infos)
are_parts infos are = record {
  each = λ k parts at.
      let all = map parts_of infos in
      let found = from_option_map parts_of (slice_get infos k) parts (sym (slice_get-map parts_of infos k) ∙ at) in
      let here : Fits (world_of_infos infos) (class_of_origin (names_of_infos infos) found.0.origin) (parts_of found.0) =
      info_fits _ _ found.0 (are.each_info k found.0 found.1) in
      let there : Fits (world_of_parts all) (class_of_source (names_of_parts all) (source_of found.0.origin)) (parts_of found.0) =
      subst (λ (c : model.Class). Fits (world_of_parts all) c (parts_of found.0)) (class_in_parts infos found.0.origin)
      (subst (λ (w : model.World). Fits w (class_of_origin (names_of_infos infos) found.0.origin) (parts_of found.0)) (world_is infos) here) in
      subst (λ (p : InfoParts). Fits (world_of_parts all) (class_of_source (names_of_parts all) p.source) p) found.2 there;
  names_apart = subst (λ (w : model.World). IsDistinct bytes_eq (names_of w)) (world_is infos) are.names_apart;
}

pub are_infos : (infos : List ClassInfo) → AreParts (map parts_of infos) → AreInfos infos
are_infos infos are = record {
  each_info = λ k info at.
      let all = map parts_of infos in
      let here : Fits (world_of_parts all) (class_of_source (names_of_parts all) (source_of info.origin)) (parts_of info) =
      are.each k (parts_of info) (slice_get-map parts_of infos k ∙ ap (option_map parts_of) at) in
      fits_info _ _ info
      (subst (λ (w : model.World). Fits w (class_of_origin (names_of_infos infos) info.origin) (parts_of info)) (sym (world_is infos))
      (subst (λ (c : model.Class). Fits (world_of_parts all) c (parts_of info)) (sym (class_in_parts infos info.origin)) here));
  names_apart = subst (λ (w : model.World). IsDistinct bytes_eq (names_of w)) (sym (world_is infos)) are.names_apart;
}

-- ---- copies

module _ (infos copies : List ClassInfo) (same : map parts_of copies ≡ map parts_of infos) where
  pub same_world : world_of_infos copies ≡ world_of_infos infos
  same_world = world_is copies ∙ ap world_of_parts same ∙ sym (world_is infos)

  pub same_infos : AreInfos infos → AreInfos copies
  same_infos are = are_infos copies (subst AreParts (sym same) (are_parts infos are))

-- what a `World` keeps of its classes
pub keeps_infos : (infos : List ClassInfo) (names texts : List (List ℕ)) (fields methods : Members) → IsWorld infos names texts fields methods → AreInfos infos
keeps_infos infos names texts fields methods is = record {
  each_info = is.each_info;
  names_apart = subst (IsDistinct bytes_eq) is.names_are is.names_apart;
}
