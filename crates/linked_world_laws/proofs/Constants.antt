-- Static fields start with values of their descriptors (JVMS 4.7.2).
use Rattle.std.proofs.Common.{◌≡◌, ℕ, ℤ, Bool, true, false, cond, List, [], ◌∷◌, Option, Some, None, refl, sym, ap, ◌∙◌, inl, inr}
use Rattle.std.specs.Prelude.{◌&&◌, ◌||◌, not, ◌==◌, bytes_eq, codes, is_some, length, filter, filter_map, find, flat_map, option_map}
use Rattle.std.specs.List.{AllByRecursion, cons_option, list_all, list_any}
use Rattle.std.proofs.lemmas.Bool.{and_parts, or_cases}
use Rattle.byteorder.specs.Endian.{big_number}
use Rattle.jv_model.specs.ClassData.{Const, integer, long, string, Attr, Member}
use Rattle.jv_model.specs.ConstantPool.{const_at, has_tag, is_named, names_one_of, units_at}
use Rattle.jv_model.specs.Operand.{Operand, string_constant}
use Rattle.jv_model.specs.Partial.{passes}
use Rattle.jv_model.specs.Descriptors.{FieldType}
use Rattle.jv_model.specs.Profile.{IsField, constant_value, is_value_right, value_tags}
use Rattle.jv_model.specs.LoadedClass.{LoadedClass}
use Rattle.world_model.specs.World.{World, Class, Field, is_static_field}
use Rattle.world_model.specs.BootTable.{boot_table}
use Rattle.code_model.specs.Names.{operand_at, operand_by}
use Rattle.code_model.specs.TypeReading.{are_parts, before_semicolon, type_at, dimensions, field_type_of}
use Rattle.link_model.specs.UseFaults.{is_type_there}
use Rattle.link_model.specs.WorldOf.{class_of, field_of}
use Rattle.link_laws.proofs.Lists.{all_weaker, all_both, all_of_map}
use Rattle.link_laws.proofs.Names.{same_text}
use Rattle.frame_laws.proofs.Outcome.{both}
use Rattle.machine_model.specs.Value.{int, long as long_value}
use Rattle.machine_model.specs.TypedValues.{HeapTyping, is_declared}
use Rattle.machine_model.specs.Start.{first_value, StringConstant, string_of, string_constants}
use Rattle.machine_laws.proofs.Zeros.{zero_declared}
use Rattle.start_laws.specs.Startable.{nothing_in_use, starts_declared, is_for_string}
use Rattle.linked_laws.specs.Worlds.{IsLinkedWorld}
use Rattle.linked_laws.proofs.Classes.{IsOfProgram, each_class}
use Rattle.linked_laws.proofs.Lists.{all_pass, all_to_map, found_holds}
use Rattle.linked_laws.proofs.Types.{is_field_there, program_types}
use Rattle.linked_world_laws.specs.Laws.{StaticsStartDeclared, StringsAreForStrings}
use Rattle.linked_world_laws.proofs.Items.{all_flat, all_by}

-- ---- constants and descriptors

-- the tags that a descriptor wants, by the tests on it
abbrev tags_by : Bool → Bool → Bool → Bool → Bool → List ℕ
tags_by ints longs floats doubles strings =
    cond ints (3 ∷ []) (cond longs (5 ∷ []) (cond floats (4 ∷ []) (cond doubles (6 ∷ []) (cond strings (8 ∷ []) []))))

int_wanted : (value : ℤ) (a b c d e : Bool) → list_any (has_tag (integer value)) (tags_by a b c d e) ≡ true → a ≡ true
int_wanted value true b c d e h = refl
int_wanted value false true c d e h = absurd cc
int_wanted value false false true d e h = absurd cc
int_wanted value false false false true e h = absurd cc
int_wanted value false false false false true h = absurd cc
int_wanted value false false false false false h = absurd cc

long_wanted : (value : ℤ) (a b c d e : Bool) → list_any (has_tag (long value)) (tags_by a b c d e) ≡ true → b ≡ true
long_wanted value true b c d e h = absurd cc
long_wanted value false true c d e h = refl
long_wanted value false false true d e h = absurd cc
long_wanted value false false false true e h = absurd cc
long_wanted value false false false false true h = absurd cc
long_wanted value false false false false false h = absurd cc

string_wanted : (text : ℕ) (a b c d e : Bool) → list_any (has_tag (string text)) (tags_by a b c d e) ≡ true → e ≡ true
string_wanted text true b c d e h = absurd cc
string_wanted text false true c d e h = absurd cc
string_wanted text false false true d e h = absurd cc
string_wanted text false false false true e h = absurd cc
string_wanted text false false false false true h = refl
string_wanted text false false false false false h = absurd cc

-- an entry is one that a field of that descriptor may have as its constant
abbrev Fits : List ℕ → Const → Type 0
Fits descriptor entry = list_any (has_tag entry) (value_tags descriptor) ≡ true

abbrev of_ints : List ℕ → Bool
of_ints d = bytes_eq d (codes "Z") || bytes_eq d (codes "B") || bytes_eq d (codes "C") || bytes_eq d (codes "S") || bytes_eq d (codes "I")

module _ (heap : HeapTyping) where
  ints_hold : (value : ℤ) → (is_declared heap (codes "Z") (int value) ≡ true) × (is_declared heap (codes "B") (int value) ≡ true)
      × (is_declared heap (codes "C") (int value) ≡ true) × (is_declared heap (codes "S") (int value) ≡ true) × (is_declared heap (codes "I") (int value) ≡ true)
  unfolding type_at dimensions
  ints_hold value = (refl, refl, refl, refl, refl)

  long_holds : (value : ℤ) → is_declared heap (codes "J") (long_value value) ≡ true
  unfolding type_at dimensions
  long_holds value = refl

  int_declared : (descriptor : List ℕ) (value : ℤ) → of_ints descriptor ≡ true → is_declared heap descriptor (int value) ≡ true
  int_declared d value h =
      let Z = bytes_eq d (codes "Z") in
      let B = bytes_eq d (codes "B") in
      let C = bytes_eq d (codes "C") in
      let S = bytes_eq d (codes "S") in
      let I = bytes_eq d (codes "I") in
      elim (or_cases (Z || B || C || S) I h) [
        | inl h ↦ elim (or_cases (Z || B || C) S h) [
          | inl h ↦ elim (or_cases (Z || B) C h) [
            | inl h ↦ elim (or_cases Z B h) [
              | inl h ↦ at (codes "Z") h (ints_hold value).0
              | inr h ↦ at (codes "B") h (ints_hold value).1
            ]
            | inr h ↦ at (codes "C") h (ints_hold value).2
          ]
          | inr h ↦ at (codes "S") h (ints_hold value).3
        ]
        | inr h ↦ at (codes "I") h (ints_hold value).4
      ]
    where
      at : (text : List ℕ) → bytes_eq d text ≡ true → is_declared heap text (int value) ≡ true → is_declared heap d (int value) ≡ true
      at text same holds = ap (λ (t : List ℕ). is_declared heap t (int value)) (same_text d text same) ∙ holds

  -- what a field starts with by its constant is declared
  value_declared : (field : Field) (pool : List Const) (entry : Const) → is_some (field_type_of field.descriptor) ≡ true → Fits field.descriptor entry
      → is_declared heap field.descriptor (first_value field (Some (operand_by pool entry))) ≡ true
  value_declared field pool (integer value) typed fits = int_declared field.descriptor value (int_wanted value _ _ _ _ _ fits)
  value_declared field pool (long value) typed fits =
      ap (λ (t : List ℕ). is_declared heap t (long_value value)) (same_text field.descriptor (codes "J") (long_wanted value _ _ _ _ _ fits)) ∙ long_holds value
  value_declared field pool other typed fits = zero_declared heap field.descriptor typed

-- ---- fields

-- the attribute that a field's constant is of, where it has one
value_attribute : (pool : List Const) (member : Member) → IsField pool member → (a : Attr) → find (λ (a : Attr). is_named pool constant_value a.name) member.attributes ≡ Some a
    → Fits (units_at pool member.descriptor) (const_at pool (big_number 2 a.bytes))
value_attribute pool member is a found =
    let right = all_pass (is_value_right pool member.descriptor) member.attributes is.values in
    let its = found_holds (λ (x : Attr). is_value_right pool member.descriptor x ≡ true) _ member.attributes a right found in
    let sized = sym (ap (λ (b : Bool). not b || ((length a.bytes == 2) && names_one_of pool (value_tags (units_at pool member.descriptor)) (big_number 2 a.bytes))) its.0) ∙ its.1 in
    (and_parts (length a.bytes == 2) (names_one_of pool (value_tags (units_at pool member.descriptor)) (big_number 2 a.bytes)) sized).1

-- What linking and reading leave of a field of the program.
record StartsRightly (world : World) (field : Field) : Type 0 where
  declared : starts_declared world field ≡ true
  strings : (units : List ℕ) → field.constant ≡ Some (string_constant units) → bytes_eq field.descriptor (codes "Ljava/lang/String;") ≡ true

module _ (world : World) (pool : List Const) (member : Member) (is : IsField pool member) (there : is_field_there world (units_at pool member.descriptor) ≡ true) where
  typed : (o : Option FieldType) → passes (is_type_there world) o ≡ true → is_some o ≡ true
  typed None h = absurd cc
  typed (Some type) h = refl

  string_entry : (entry : Const) (units : List ℕ) → Fits (units_at pool member.descriptor) entry → Some (operand_by pool entry) ≡ Some (string_constant units)
      → bytes_eq (units_at pool member.descriptor) (codes "Ljava/lang/String;") ≡ true
  string_entry (string text) units fits e = string_wanted text _ _ _ _ _ fits
  string_entry other units fits e = absurd cc

  field_starts : StartsRightly world (field_of pool member)
  unfolding operand_at
  field_starts = by (find (λ (a : Attr). is_named pool constant_value a.name) member.attributes) refl
    where
      by : (o : Option Attr) → find (λ (a : Attr). is_named pool constant_value a.name) member.attributes ≡ o
          → StartsRightly world (record (field_of pool member) { constant = option_map (λ (a : Attr). operand_at pool (big_number 2 a.bytes)) o })
      by None found = record {
        declared = zero_declared (nothing_in_use world) (units_at pool member.descriptor) (typed _ there);
        strings = λ units e. absurd cc;
      }
      by (Some a) found =
          let fits = value_attribute pool member is a found in
          let entry = const_at pool (big_number 2 a.bytes) in
          record {
            declared = value_declared (nothing_in_use world) (record (field_of pool member) { constant = Some (operand_at pool (big_number 2 a.bytes)) }) pool entry (typed _ there) fits;
            strings = λ units e. string_entry entry units fits e;
          }

-- ---- classes

abbrev Statics : World → Class → Type 0
Statics world class = list_all (starts_declared world) (filter is_static_field class.fields) ≡ true

abbrev Strings : Class → Type 0
Strings class = list_all is_for_string (string_constants class) ≡ true

boot_statics : (world : World) → list_all (λ (c : Class). list_all (starts_declared world) (filter is_static_field c.fields)) boot_table ≡ true
unfolding boot_table are_parts before_semicolon type_at dimensions
boot_statics world = refl

boot_strings : list_all (λ (c : Class). list_all is_for_string (string_constants c)) boot_table ≡ true
unfolding boot_table
boot_strings = refl

-- what all pass those pass that are kept
kept_pass : {A : Type 0} (test p : A → Bool) (xs : List A) → AllByRecursion (λ x. test x ≡ true) xs → list_all test (filter p xs) ≡ true
kept_pass test p [] all = refl
kept_pass test p (x ∷ xs) all = by (p x) (kept_pass test p xs all.1)
  where
    by : (b : Bool) → list_all test (filter p xs) ≡ true → list_all test (cond b (x ∷ filter p xs) (filter p xs)) ≡ true
    by true rest = both (test x) (list_all test (filter p xs)) all.0 rest
    by false rest = rest

strings_kept : (class : Class) (fields : List Field)
    → AllByRecursion (λ (f : Field). (units : List ℕ) → f.constant ≡ Some (string_constant units) → bytes_eq f.descriptor (codes "Ljava/lang/String;") ≡ true) fields
    → list_all is_for_string (filter_map (λ (f : Field). string_of class f f.constant) (filter is_static_field fields)) ≡ true
strings_kept class [] all = refl
strings_kept class (f ∷ fields) all = by (is_static_field f) (strings_kept class fields all.1)
  where
    of : (constant : Option Operand) → f.constant ≡ constant → (rest : List StringConstant) → list_all is_for_string rest ≡ true
        → list_all is_for_string (cons_option (string_of class f constant) rest) ≡ true
    of (Some (string_constant units)) is rest h = both (bytes_eq f.descriptor (codes "Ljava/lang/String;")) (list_all is_for_string rest) (all.0 units is) h
    of other is rest h = h

    by : (b : Bool) → list_all is_for_string (filter_map (λ (g : Field). string_of class g g.constant) (filter is_static_field fields)) ≡ true
        → list_all is_for_string (filter_map (λ (g : Field). string_of class g g.constant) (cond b (f ∷ filter is_static_field fields) (filter is_static_field fields))) ≡ true
    by true rest = of f.constant refl _ rest
    by false rest = rest

module _ (world : World) (linked : IsLinkedWorld world) where
  fields_start : (l : LoadedClass) → IsOfProgram world l → AllByRecursion (StartsRightly world) (class_of l).fields
  fields_start l is =
      let pool = l.file.pool in
      let types = all_of_map (λ (f : Field). is_field_there world f.descriptor ≡ true) (field_of pool) l.file.fields (program_types world l is.uses).fields in
      all_to_map (StartsRightly world) (field_of pool) l.file.fields
      (all_both (IsField pool) (λ (m : Member). is_field_there world (units_at pool m.descriptor) ≡ true) (λ (m : Member). StartsRightly world (field_of pool m)) l.file.fields
      (field_starts world pool) is.read.in_profile.fields types)

  pub statics_start : list_all (λ (c : Class). list_all (starts_declared world) (filter is_static_field c.fields)) world.classes ≡ true
  statics_start =
      all_by (λ (c : Class). list_all (starts_declared world) (filter is_static_field c.fields)) world.classes
      (each_class world linked (Statics world) (all_pass (λ (c : Class). list_all (starts_declared world) (filter is_static_field c.fields)) boot_table (boot_statics world))
      (λ l is. kept_pass (starts_declared world) is_static_field (class_of l).fields
      (all_weaker (StartsRightly world) (λ (f : Field). starts_declared world f ≡ true) (class_of l).fields (λ f starts. starts.declared) (fields_start l is))))

  pub strings_for_strings : list_all is_for_string (flat_map string_constants world.classes) ≡ true
  strings_for_strings =
      all_flat is_for_string string_constants world.classes
      (all_by (λ (c : Class). list_all is_for_string (string_constants c)) world.classes
      (each_class world linked Strings (all_pass (λ (c : Class). list_all is_for_string (string_constants c)) boot_table boot_strings)
      (λ l is. strings_kept (class_of l) (class_of l).fields
      (all_weaker (StartsRightly world) _ (class_of l).fields (λ f starts. starts.strings) (fields_start l is)))))

pub statics_start_declared : StaticsStartDeclared
statics_start_declared = statics_start

pub strings_are_for_strings : StringsAreForStrings
strings_are_for_strings = strings_for_strings
