-- The classes that boot classes and a program's classes make, each with the numbers of its supertypes.
use Rattle.std.proofs.Common.{◌≡◌, ℕ, zero, suc, ◌<◌, Bool, true, not, ◌&&◌, List, [], ◌∷◌, ◌++◌, Option, Some, None, length, map, slice_get, unwrap_or, nat_lt, bytes_eq, option_map, option_and_then, option_to_list, IsTrue, ap, sym, subst, ◌∙◌, refl, arith}
use Rattle.std.specs.List.{list_all, filter_map, cons_option, IsDistinct, AllByRecursion}
use Rattle.std.proofs.lemmas.Bool.{and_parts}
use Rattle.std.proofs.lemmas.Bool.Decides.{Decides-ltb}
use Rattle.std.proofs.lemmas.List.{map-append, length-append}
use Rattle.std.proofs.lemmas.Option.{slice_get_within, unwrap_or-slice_get}
use Rattle.std.proofs.Math.ListN.{get_or-append}
use Rattle.jv_model.specs.LoadedClass.{LoadedClass}
use Rattle.world_model.specs.World as model
use Rattle.world_model.specs.BootTable.{boot_table}
use Rattle.code_model.specs.Names.{class_name_at}
use Rattle.link_model.specs.WorldOf.{class_of, name_of, world_of}
use Rattle.jv_types.specs.Boot.{NumberedClass, numbered_class_of, name_of_number, named_class_of, boot_classes_of}
use Rattle.jv_types.specs.declared.boot.BootClass.{BootClass}
use Rattle.jv_types.specs.declared.number.ClassNo.{ClassNo}
use Rattle.class_world.specs.declared.class_info.ClassInfo.{ClassInfo}
use Rattle.class_world.specs.Parts.{InfoParts, parts_of, class_of_source, names_of_parts, world_of_parts}
use Rattle.class_world.specs.World.{names_of, number_in, number_of, numbers_of}
use Rattle.class_world.proofs.Parts.{Fits, AreParts, world_is, are_infos}
use Rattle.class_world.proofs.Numbers.{number}
use Rattle.class_world.proofs.Upwards.{own_place}
use Rattle.class_infos.specs.Numbered.{boot_names, program_names, boot_parts, program_parts, AreNumbered}

-- ---- the boot classes name each other

is_name : List ℕ → Bool
is_name name = not (bytes_eq name [])

names_supertypes : model.Class → Bool
names_supertypes class = list_all is_name (option_to_list class.superclass) && list_all is_name class.interfaces

-- each supertype of a boot class has a name
table_names_supertypes : IsTrue (list_all names_supertypes boot_table)
unfolding boot_table is_name names_supertypes
table_names_supertypes = refl

are_inside : ℕ → List ℕ → Bool
are_inside count numbers = list_all (λ n. nat_lt n count) numbers

has_inside : ℕ → NumberedClass → Bool
has_inside count class = are_inside count (option_to_list class.superclass) && are_inside count class.interfaces

named_inside : (names : List (List ℕ)) (n : ℕ) → IsTrue (is_name (name_of_number names n)) → IsTrue (nat_lt n (length names))
unfolding is_name
named_inside names n named = by (slice_get names n) refl named
  where
    by : (o : Option (List ℕ)) → slice_get names n ≡ o → IsTrue (not (bytes_eq (unwrap_or o []) [])) → IsTrue (nat_lt n (length names))
    by None is h = absurd cc
    by (Some name) is h = (Decides-ltb n (length names)).1 (slice_get_within names n name is)

all_named_inside : (names : List (List ℕ)) (ns : List ℕ) → IsTrue (list_all is_name (map (name_of_number names) ns)) → IsTrue (are_inside (length names) ns)
unfolding are_inside
all_named_inside names [] all = refl
all_named_inside names (n ∷ ns) all =
    let parts = and_parts (is_name (name_of_number names n)) (list_all is_name (map (name_of_number names) ns)) all in
    let first = named_inside names n parts.0 in
    let rest = all_named_inside names ns parts.1 in
    λ i. first i && rest i

option_map-list : {A B : Type 0} (f : A → B) (o : Option A) → option_to_list (option_map f o) ≡ map f (option_to_list o)
option_map-list f None = refl
option_map-list f (Some a) = refl

class_has_inside : (names : List (List ℕ)) (class : NumberedClass) → IsTrue (names_supertypes (named_class_of names class)) → IsTrue (has_inside (length names) class)
unfolding names_supertypes has_inside
class_has_inside names class named =
    let parts = and_parts (list_all is_name (option_to_list (option_map (name_of_number names) class.superclass))) (list_all is_name (map (name_of_number names) class.interfaces)) named in
    let superclass = all_named_inside names (option_to_list class.superclass)
    (subst (λ (l : List (List ℕ)). IsTrue (list_all is_name l)) (option_map-list (name_of_number names) class.superclass) parts.0) in
    let interfaces = all_named_inside names class.interfaces parts.1 in
    λ i. superclass i && interfaces i

all_have_inside : (names : List (List ℕ)) (classes : List NumberedClass) → IsTrue (list_all names_supertypes (map (named_class_of names) classes))
    → AllByRecursion (λ (c : NumberedClass). IsTrue (has_inside (length names) c)) classes
all_have_inside names [] all = tt
all_have_inside names (class ∷ classes) all =
    let parts = and_parts (names_supertypes (named_class_of names class)) (list_all names_supertypes (map (named_class_of names) classes)) all in
    (class_has_inside names class parts.0, all_have_inside names classes parts.1)

-- so the numbers of the boot table's supertypes are those of boot classes
boot_inside : (boot : List BootClass) → boot_classes_of boot ≡ boot_table
    → AllByRecursion (λ (c : NumberedClass). IsTrue (has_inside (length (boot_names boot)) c)) (map numbered_class_of boot)
boot_inside boot is =
    all_have_inside (boot_names boot) (map numbered_class_of boot)
    (subst (λ (l : List model.Class). IsTrue (list_all names_supertypes l)) (sym is) table_names_supertypes)

-- ---- what numbers name, with more names behind

module _ (names more : List (List ℕ)) where
  same_name : (n : ℕ) → n < length names → name_of_number (names ++ more) n ≡ name_of_number names n
  same_name n inside =
      unwrap_or-slice_get (names ++ more) n [] ∙ get_or-append names more [] n inside ∙ sym (unwrap_or-slice_get names n [])

  same_names : (ns : List ℕ) → IsTrue (are_inside (length names) ns) → map (name_of_number (names ++ more)) ns ≡ map (name_of_number names) ns
  unfolding are_inside
  same_names [] inside = refl
  same_names (n ∷ ns) inside =
      let parts = and_parts (nat_lt n (length names)) (are_inside (length names) ns) inside in
      let first = same_name n ((Decides-ltb n (length names)).0 parts.0) in
      let rest = same_names ns parts.1 in
      λ i. first i ∷ rest i

  same_option : (o : Option ℕ) → IsTrue (are_inside (length names) (option_to_list o)) → option_map (name_of_number (names ++ more)) o ≡ option_map (name_of_number names) o
  unfolding are_inside
  same_option None inside = refl
  same_option (Some n) inside =
      ap (λ (name : List ℕ). Some name) (same_name n ((Decides-ltb n (length names)).0 (and_parts (nat_lt n (length names)) true inside).0))

  same_class : (class : NumberedClass) → IsTrue (has_inside (length names) class) → named_class_of (names ++ more) class ≡ named_class_of names class
  unfolding has_inside
  same_class class inside =
      let parts = and_parts (are_inside (length names) (option_to_list class.superclass)) (are_inside (length names) class.interfaces) inside in
      let superclass = same_option class.superclass parts.0 in
      let interfaces = same_names class.interfaces parts.1 in
      λ i. record (named_class_of names class) { superclass = superclass i; interfaces = interfaces i }

  same_classes : (classes : List BootClass) → AllByRecursion (λ (c : NumberedClass). IsTrue (has_inside (length names) c)) (map numbered_class_of classes)
      → map (λ (p : InfoParts). class_of_source (names ++ more) p.source) (map boot_parts classes) ≡ map (named_class_of names) (map numbered_class_of classes)
  same_classes [] inside = refl
  same_classes (class ∷ classes) inside =
      let first = same_class (numbered_class_of class) inside.0 in
      let rest = same_classes classes inside.1 in
      λ i. first i ∷ rest i

-- ---- names of lists

named_boot : (names : List (List ℕ)) (classes : List NumberedClass) → map (λ (c : model.Class). c.name) (map (named_class_of names) classes) ≡ map (λ (c : NumberedClass). c.name) classes
named_boot names [] = refl
named_boot names (class ∷ classes) = ap (λ (l : List (List ℕ)). class.name ∷ l) (named_boot names classes)

named_programs : (classes : List LoadedClass) → map (λ (c : model.Class). c.name) (map class_of classes) ≡ program_names classes
named_programs [] = refl
named_programs (class ∷ classes) = ap (λ (l : List (List ℕ)). name_of class ∷ l) (named_programs classes)

boot_called : (classes : List BootClass) → names_of_parts (map boot_parts classes) ≡ boot_names classes
boot_called [] = refl
boot_called (class ∷ classes) = ap (λ (l : List (List ℕ)). class.name.items ∷ l) (boot_called classes)

programs_called : (names : List (List ℕ)) (classes : List LoadedClass) → names_of_parts (map (program_parts names) classes) ≡ program_names classes
programs_called names [] = refl
programs_called names (class ∷ classes) = ap (λ (l : List (List ℕ)). name_of class ∷ l) (programs_called names classes)

programs_are : (names others : List (List ℕ)) (classes : List LoadedClass) → map (λ (p : InfoParts). class_of_source names p.source) (map (program_parts others) classes) ≡ map class_of classes
programs_are names others [] = refl
programs_are names others (class ∷ classes) = ap (λ (l : List model.Class). class_of class ∷ l) (programs_are names others classes)

-- ---- the classes of a world

all_append : {A : Type 0} (P : A → Type 0) (xs ys : List A) → AllByRecursion P xs → AllByRecursion P ys → AllByRecursion P (xs ++ ys)
all_append P [] ys left right = right
all_append P (x ∷ xs) ys left right = (left.0, all_append P xs ys left.1 right)

some_same : {A : Type 0} (x y : A) → Some x ≡ Some y → x ≡ y
some_same x y e = cc

all_at : {A : Type 0} (P : A → Type 0) (xs : List A) (k : ℕ) (x : A) → AllByRecursion P xs → slice_get xs k ≡ Some x → P x
all_at P [] k x all at = absurd cc
all_at P (y ∷ xs) zero x all at = subst P (some_same y x at) all.0
all_at P (y ∷ xs) (suc k) x all at = all_at P xs k x all.1 at

module _ (boot : List BootClass) (loaded : List LoadedClass) (is_table : boot_classes_of boot ≡ boot_table)
    (apart : IsDistinct bytes_eq (names_of (world_of (boot_classes_of boot) loaded))) where
  abbrev all_names : List (List ℕ)
  all_names = boot_names boot ++ program_names loaded

  abbrev all_parts : List InfoParts
  all_parts = map boot_parts boot ++ map (program_parts all_names) loaded

  abbrev world : model.World
  world = world_of (boot_classes_of boot) loaded

  pub names_are : names_of (world_of (boot_classes_of boot) loaded) ≡ boot_names boot ++ program_names loaded
  names_are =
      map-append (λ (c : model.Class). c.name) (boot_classes_of boot) (map class_of loaded)
      ∙ (λ i. named_boot (boot_names boot) (map numbered_class_of boot) i ++ named_programs loaded i)

  -- the names are apart
  pub names_apart : IsDistinct bytes_eq (boot_names boot ++ program_names loaded)
  names_apart = subst (IsDistinct bytes_eq) names_are apart

  parts_called : names_of_parts all_parts ≡ all_names
  parts_called =
      map-append (λ (p : InfoParts). p.name) (map boot_parts boot) (map (program_parts all_names) loaded)
      ∙ (λ i. boot_called boot i ++ programs_called all_names loaded i)

  classes_are : map (λ (p : InfoParts). class_of_source all_names p.source) all_parts ≡ world.classes
  classes_are =
      map-append (λ (p : InfoParts). class_of_source all_names p.source) (map boot_parts boot) (map (program_parts all_names) loaded)
      ∙ (λ i. same_classes (boot_names boot) (program_names loaded) boot (boot_inside boot is_table) i ++ programs_are all_names all_names loaded i)

  parts_make : world_of_parts all_parts ≡ world
  parts_make =
      ap (λ (classes : List model.Class). record { classes = classes })
      (ap (λ (names : List (List ℕ)). map (λ (p : InfoParts). class_of_source names p.source) all_parts) parts_called ∙ classes_are)

  -- a name's number
  found_number : (n : ℕ) → n < length all_names → number_of world (name_of_number all_names n) ≡ Some (number n)
  found_number n inside =
      (λ i. number_in (names_are i) (unwrap_or-slice_get all_names n [] i))
      ∙ ap (option_map (λ (k : ℕ). number k)) (own_place all_names names_apart n inside)

  more_inside : (n : ℕ) → IsTrue (nat_lt n (length (boot_names boot))) → n < length all_names
  more_inside n inside = omega (arith, (Decides-ltb n (length (boot_names boot))).0 inside, length-append (boot_names boot) (program_names loaded))

  own_numbers : (numbers : List ClassNo) → IsTrue (are_inside (length (boot_names boot)) (map (λ (c : ClassNo). c.0) numbers))
      → numbers ≡ numbers_of world (map (name_of_number all_names) (map (λ (c : ClassNo). c.0) numbers))
  unfolding are_inside
  own_numbers [] inside = refl
  own_numbers (c ∷ numbers) inside =
      let parts = and_parts (nat_lt c.0 (length (boot_names boot))) (are_inside (length (boot_names boot)) (map (λ (d : ClassNo). d.0) numbers)) inside in
      let first = found_number c.0 (more_inside c.0 parts.0) in
      let rest = own_numbers numbers parts.1 in
      (λ i. c ∷ rest i)
      ∙ sym (ap (λ (o : Option ClassNo). cons_option o (numbers_of world (map (name_of_number all_names) (map (λ (d : ClassNo). d.0) numbers)))) first)

  own_superclass : (superclass : Option ClassNo) → IsTrue (are_inside (length (boot_names boot)) (option_to_list (option_map (λ (c : ClassNo). c.0) superclass)))
      → superclass ≡ option_and_then (number_of world) (option_map (name_of_number all_names) (option_map (λ (c : ClassNo). c.0) superclass))
  unfolding are_inside
  own_superclass None inside = refl
  own_superclass (Some c) inside =
      sym (found_number c.0 (more_inside c.0 (and_parts (nat_lt c.0 (length (boot_names boot))) true inside).0))

  abbrev FitsWorld : InfoParts → Type 0
  FitsWorld parts = Fits world (class_of_source all_names parts.source) parts

  boot_fits : (class : BootClass) → IsTrue (has_inside (length (boot_names boot)) (numbered_class_of class)) → FitsWorld (boot_parts class)
  unfolding has_inside
  boot_fits class inside =
      let parts = and_parts (are_inside (length (boot_names boot)) (option_to_list (option_map (λ (c : ClassNo). c.0) class.superclass)))
      (are_inside (length (boot_names boot)) (map (λ (c : ClassNo). c.0) class.interfaces.items)) inside in
      record {
        name = refl;
        superclass = own_superclass class.superclass parts.0;
        interfaces = own_numbers class.interfaces.items parts.1;
        source = ap (λ (names : List (List ℕ)). named_class_of names (numbered_class_of class)) names_are;
      }

  program_fits : (class : LoadedClass) → FitsWorld (program_parts all_names class)
  program_fits class = record {
    name = refl;
    superclass = ap (λ (names : List (List ℕ)). number_in names (class_name_at class.file.pool class.file.super_class)) (sym names_are);
    interfaces = ap (λ (names : List (List ℕ)). filter_map (number_in names) (map (class_name_at class.file.pool) class.file.interfaces)) (sym names_are);
    source = refl;
  }

  all_boot_fit : (classes : List BootClass) → AllByRecursion (λ (c : NumberedClass). IsTrue (has_inside (length (boot_names boot)) c)) (map numbered_class_of classes)
      → AllByRecursion FitsWorld (map boot_parts classes)
  all_boot_fit [] inside = tt
  all_boot_fit (class ∷ classes) inside = (boot_fits class inside.0, all_boot_fit classes inside.1)

  all_programs_fit : (classes : List LoadedClass) → AllByRecursion FitsWorld (map (program_parts all_names) classes)
  all_programs_fit [] = tt
  all_programs_fit (class ∷ classes) = (program_fits class, all_programs_fit classes)

  all_fit : AllByRecursion FitsWorld all_parts
  all_fit =
      all_append FitsWorld (map boot_parts boot) (map (program_parts all_names) loaded)
      (all_boot_fit boot (boot_inside boot is_table)) (all_programs_fit loaded)

  parts_fit : AreParts all_parts
  parts_fit = record {
    each = λ k parts at.
        let here : Fits world (class_of_source all_names parts.source) parts = all_at FitsWorld all_parts k parts all_fit at in
        subst (λ (w : model.World). Fits w (class_of_source (names_of_parts all_parts) parts.source) parts) (sym parts_make)
        (subst (λ (names : List (List ℕ)). Fits world (class_of_source names parts.source) parts) (sym parts_called) here);
    names_apart = subst (λ (w : model.World). IsDistinct bytes_eq (names_of w)) (sym parts_make) apart;
  }

  pub are_numbered : (names : List (List ℕ)) (infos : List ClassInfo) → names ≡ boot_names boot ++ program_names loaded
      → map parts_of infos ≡ map boot_parts boot ++ map (program_parts names) loaded → AreNumbered (world_of (boot_classes_of boot) loaded) names infos
  are_numbered names infos names_is parts_are =
      let same : map parts_of infos ≡ all_parts = parts_are ∙ ap (λ (l : List (List ℕ)). map boot_parts boot ++ map (program_parts l) loaded) names_is in
      record {
        infos_are = are_infos infos (subst AreParts (sym same) parts_fit);
        world_is = world_is infos ∙ ap world_of_parts same ∙ parts_make;
        names_are = names_is ∙ sym names_are;
      }
