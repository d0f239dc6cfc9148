-- Whatever the code and the static fields of a class name is in its pool.
use Rattle.std.proofs.Common.{◌≡◌, ℕ, zero, suc, ◌+◌, ◌<◌, ◌≤◌, Bool, true, false, inl, inr, if◌then◌else◌, List, [], ◌∷◌, Option, Some, None, length, map, filter, find, slice_get, bytes_eq, flat_map, filter_map, option_to_list, option_map, unwrap_or, ap, sym, subst, ◌∙◌, refl, true≢false, arith}
use Rattle.std.specs.List.{list_all, list_any, cons_option}
use Rattle.std.proofs.lemmas.Bool.{and_from, or_left, or_right, cases_lt}
use Rattle.std.proofs.lemmas.List.{append-nil}
use Rattle.std.proofs.lemmas.List.Folds.{list_all-append, list_all-map, list_any-append}
use Rattle.std.proofs.lemmas.Option.{slice_get-map, slice_get_within}
use Rattle.std.proofs.lemmas.Cmp.{nat_list_eq_equiv}
use Rattle.byteorder.specs.Endian.{big_number}
use Rattle.jv_model.specs.ClassData.{Const, Attr, Member, gap, string}
use Rattle.jv_model.specs.ConstantPool.{units_at, is_named}
use Rattle.jv_model.specs.Profile.{constant_value}
use Rattle.jv_model.specs.Operand.{Operand, string_constant}
use Rattle.jv_model.specs.Instruction.{Instruction, ldc}
use Rattle.jv_model.specs.Code.{Placed, Body}
use Rattle.jv_model.specs.LoadedClass.{LoadedClass}
use Rattle.code_model.specs.MappedInstruction.{mapped_instruction}
use Rattle.code_model.specs.Names.{operand_at, operand_by, named, named_placed}
use Rattle.world_model.specs.World.{World, Class, Field, Method, is_static_field}
use Rattle.world_model.specs.Members as members
use Rattle.machine_model.specs.Start.{StringConstant, string_of, string_constants}
use Rattle.link_model.specs.WorldOf.{class_of, constant_in, field_of, methods_of}
use Rattle.class_graph.proofs.Passing.{and_left, and_right}
use Rattle.link_laws.proofs.Once.{seen_or_listed}
use Rattle.linked_laws.proofs.Methods.{method_read}
use Rattle.jv_types.specs.Boot.{boot_field_of, boot_method_of}
use Rattle.jv_types.specs.Loaded.{loaded_of}
use Rattle.class_world.specs.World.{class_of_origin}
use Rattle.class_world.specs.declared.class_info.Origin.{Origin}
use Rattle.class_world.specs.declared.class_info.Origin.TheVariants.{Boot, Program}
use Rattle.world_literals.specs.Literals.{string_in, pool_strings, class_strings, world_strings, literals_of, loaded_by, body_literals, method_literals, class_literals, named_literals, have}

-- ---- lists of what items have

-- what an item has is in the list of what all have
in_filter_map : {A : Type 0} (f : A → Option (List ℕ)) (xs : List A) (k : ℕ) (x : A) (b : List ℕ) → slice_get xs k ≡ Some x → f x ≡ Some b
    → list_any (bytes_eq b) (filter_map f xs) ≡ true
in_filter_map f [] k x b at is = absurd cc
in_filter_map f (y ∷ xs) zero x b at is =
    let same : y ≡ x = cc in
    ap (λ (o : Option (List ℕ)). list_any (bytes_eq b) (cons_option o (filter_map f xs))) (ap f same ∙ is)
    ∙ or_left (bytes_eq b b) (list_any (bytes_eq b) (filter_map f xs)) (nat_list_eq_equiv.refl b)
in_filter_map {A} f (y ∷ xs) (suc k) x b at is = by (f y) (in_filter_map f xs k x b at is)
  where
    by : (o : Option (List ℕ)) → list_any (bytes_eq b) (filter_map f xs) ≡ true
        → list_any (bytes_eq b) (cons_option o (filter_map f xs)) ≡ true
    by None rest = rest
    by (Some c) rest = or_right (bytes_eq b c) (list_any (bytes_eq b) (filter_map f xs)) rest

-- all of these lists pass
all_flat : {A B : Type 0} (p : B → Bool) (f : A → List B) (xs : List A)
    → ((k : ℕ) (x : A) → slice_get xs k ≡ Some x → list_all p (f x) ≡ true) → list_all p (flat_map f xs) ≡ true
all_flat p f [] each = refl
all_flat p f (x ∷ xs) each =
    list_all-append p (f x) (flat_map f xs)
    ∙ and_from (list_all p (f x)) (list_all p (flat_map f xs)) (each 0 x refl) (all_flat p f xs (λ k y at. each (suc k) y at))

abbrev Passes : {A B : Type 0} → (B → Bool) → (A → Option B) → A → Type 0
Passes {A} {B} p f x = (b : B) → f x ≡ Some b → p b ≡ true

one_passes : {A B : Type 0} (p : B → Bool) (f : A → Option B) (x : A) (rest : List B) → Passes p f x → list_all p rest ≡ true
    → list_all p (cons_option (f x) rest) ≡ true
one_passes {A} {B} p f x rest passes all = by (f x) (λ b is. passes b is)
  where
    by : (o : Option B) → ((b : B) → o ≡ Some b → p b ≡ true) → list_all p (cons_option o rest) ≡ true
    by None passes = all
    by (Some b) passes = and_from (p b) (list_all p rest) (passes b refl) all

all_filter_map : {A B : Type 0} (p : B → Bool) (f : A → Option B) (xs : List A)
    → ((k : ℕ) (x : A) → slice_get xs k ≡ Some x → Passes p f x) → list_all p (filter_map f xs) ≡ true
all_filter_map p f [] each = refl
all_filter_map p f (x ∷ xs) each =
    one_passes p f x (filter_map f xs) (each 0 x refl) (all_filter_map p f xs (λ k y at. each (suc k) y at))

all_filtered : {A B : Type 0} (p : B → Bool) (q : A → Bool) (f : A → Option B) (xs : List A)
    → ((k : ℕ) (x : A) → slice_get xs k ≡ Some x → Passes p f x) → list_all p (filter_map f (filter q xs)) ≡ true
all_filtered p q f [] each = refl
all_filtered p q f (x ∷ xs) each = by (q x) (all_filtered p q f xs (λ k y at. each (suc k) y at))
  where
    by : (b : Bool) → list_all p (filter_map f (filter q xs)) ≡ true
        → list_all p (filter_map f (if b then x ∷ filter q xs else filter q xs)) ≡ true
    by true rest = one_passes p f x (filter_map f (filter q xs)) (each 0 x refl) rest
    by false rest = rest

-- what stands in a list of what items give
given_at : {A B : Type 0} (f : A → B) (xs : List A) (k : ℕ) (y : B) → slice_get (map f xs) k ≡ Some y
    → (x : A) × (f x ≡ y)
given_at {A} {B} f xs k y at = by (slice_get xs k) (sym (slice_get-map f xs k) ∙ at)
  where
    by : (o : Option A) → option_map f o ≡ Some y → (x : A) × (f x ≡ y)
    by None is = absurd cc
    by (Some x) is = (x, cc)

-- ---- what an index of a class names

module _ (pool : List Const) where
  abbrev is_there : List ℕ → Bool
  is_there units = list_any (bytes_eq units) (pool_strings pool)

  entry_there : (index : ℕ) (units : List ℕ) → operand_at pool index ≡ string_constant units → is_there units ≡ true
  unfolding operand_at
  entry_there index units names = by (slice_get pool index) refl names
    where
      of : (c : Const) → slice_get pool index ≡ Some c → operand_by pool c ≡ string_constant units → is_there units ≡ true
      of (string text) at is =
          let same : units_at pool text ≡ units = cc in
          in_filter_map (string_in pool) pool index (string text) units at (ap (λ (u : List ℕ). Some u) same)
      of other at is = absurd cc

      by : (o : Option Const) → slice_get pool index ≡ o → operand_by pool (unwrap_or o gap) ≡ string_constant units → is_there units ≡ true
      by None at is = absurd cc
      by (Some c) at is = of c at is

  loaded_there : (i : Instruction ℕ) (units : List ℕ) → loaded_by (mapped_instruction (operand_at pool) i) ≡ Some units → is_there units ≡ true
  loaded_there (ldc index) units is = entry_there index units (by (operand_at pool index) is)
    where
      by : (o : Operand) → loaded_by (ldc o) ≡ Some units → o ≡ string_constant units
      by (string_constant u) same = cc
      by other same = absurd cc
  loaded_there other units is = absurd cc

  -- the code of a method
  body_there : (descriptor : List ℕ) (raw : Body ℕ) → list_all is_there (body_literals (named pool descriptor raw)) ≡ true
  unfolding named
  body_there descriptor raw =
      all_filter_map is_there (λ (p : Placed Operand). loaded_by p.instruction) (map (named_placed pool) raw.instructions)
      (λ k placed at units is.
      let own = given_at (named_placed pool) raw.instructions k placed at in
      loaded_there own.0.instruction units (ap (λ (p : Placed Operand). loaded_by p.instruction) own.1 ∙ is))

  method_there : (members : List Member) (codes : List (Option (Body ℕ))) (k : ℕ) (method : Method) → slice_get (methods_of pool members codes) k ≡ Some method
      → list_all is_there (method_literals method) ≡ true
  method_there members codes k method at = by method.code refl
    where
      by : (o : Option (Body Operand)) → method.code ≡ o → list_all is_there (flat_map body_literals (option_to_list o)) ≡ true
      by None is = refl
      by (Some body) is =
          let read = method_read pool members codes k method body at is in
          ap (list_all is_there) (append-nil (body_literals body))
          ∙ subst (λ (b : Body Operand). list_all is_there (body_literals b) ≡ true) read.is_body (body_there method.descriptor read.raw)

  -- the value of a field
  constant_there : (attributes : List Attr) (units : List ℕ) → constant_in pool attributes ≡ Some (string_constant units) → is_there units ≡ true
  constant_there attributes units is = by (find (λ (a : Attr). is_named pool constant_value a.name) attributes) is
    where
      by : (o : Option Attr) → option_map (λ (a : Attr). operand_at pool (big_number 2 a.bytes)) o ≡ Some (string_constant units) → is_there units ≡ true
      by None same = absurd cc
      by (Some a) same =
          let names : operand_at pool (big_number 2 a.bytes) ≡ string_constant units = cc in
          entry_there (big_number 2 a.bytes) units names

string_is : (class : Class) (field : Field) (o : Option Operand) (constant : StringConstant) → string_of class field o ≡ Some constant
    → o ≡ Some (string_constant constant.1)
string_is class field (Some (string_constant units)) constant is =
    let pair : (members.field_of class field, units) ≡ constant = cc in
    ap (λ (c : StringConstant). Some (string_constant c.1)) pair
string_is class field other constant is = absurd cc

-- ---- classes

-- the Strings of a class have whatever it names
abbrev pub covers : Class → Bool
covers class = have (class_strings class) (class_literals class)

read_covers : (loaded : LoadedClass) → covers (class_of loaded) ≡ true
read_covers loaded =
    let pool = loaded.file.pool in
    let class = class_of loaded in
    let own = λ (c : StringConstant). c.1 in
    let methods = all_flat (is_there pool) method_literals class.methods
    (λ k method at. method_there pool loaded.file.methods loaded.codes k method at) in
    let statics = list_all-map (is_there pool) own (string_constants class)
    ∙ all_filtered (λ (c : StringConstant). is_there pool c.1) is_static_field (λ (f : Field). string_of class f f.constant) class.fields
    (λ k field at constant is.
    let member = given_at (field_of pool) loaded.file.fields k field at in
    constant_there pool member.0.attributes constant.1
    (ap (λ (f : Field). f.constant) member.1 ∙ string_is class field field.constant constant is)) in
    subst (λ (s : List (List ℕ)). have s (class_literals class) ≡ true) (sym (append-nil (pool_strings pool)))
    (list_all-append (is_there pool) (flat_map method_literals class.methods) (map own (string_constants class))
    ∙ and_from (list_all (is_there pool) (flat_map method_literals class.methods)) (list_all (is_there pool) (map own (string_constants class))) methods statics)

-- a class without code and constants
none_named : (class : Class) → ((k : ℕ) (m : Method) → slice_get class.methods k ≡ Some m → m.code ≡ None)
    → ((k : ℕ) (f : Field) → slice_get class.fields k ≡ Some f → f.constant ≡ None) → covers class ≡ true
none_named class no_code no_constant =
    let there = λ (units : List ℕ). list_any (bytes_eq units) (class_strings class) in
    let own = λ (c : StringConstant). c.1 in
    let methods = all_flat there method_literals class.methods
    (λ k method at. subst (λ (o : Option (Body Operand)). list_all there (flat_map body_literals (option_to_list o)) ≡ true)
    (sym (no_code k method at)) refl) in
    let statics = list_all-map there own (string_constants class)
    ∙ all_filtered (λ (c : StringConstant). there c.1) is_static_field (λ (f : Field). string_of class f f.constant) class.fields
    (λ k field at constant is. absurd (let fails = sym (no_constant k field at) ∙ string_is class field field.constant constant is in cc)) in
    list_all-append there (flat_map method_literals class.methods) (map own (string_constants class))
    ∙ and_from (list_all there (flat_map method_literals class.methods)) (list_all there (map own (string_constants class))) methods statics

pub origin_covers : (names : List (List ℕ)) (origin : Origin) → covers (class_of_origin names origin) ≡ true
origin_covers names (Boot class) =
    none_named (class_of_origin names (Boot class))
    (λ k method at. ap (λ (m : Method). m.code) (sym (given_at boot_method_of class.methods.items k method at).1))
    (λ k field at. ap (λ (f : Field). f.constant) (sym (given_at boot_field_of class.fields.items k field at).1))
origin_covers names (Program loaded) = read_covers (loaded_of loaded)

-- ---- a world

-- those of the first so many classes
abbrev pub CoverSoFar : World → ℕ → Type 0
CoverSoFar world i = (k : ℕ) (c : Class) → k < i → slice_get world.classes k ≡ Some c → covers c ≡ true

pub one_covers : (world : World) (i : ℕ) (class : Class) (names : List (List ℕ)) (origin : Origin) → slice_get world.classes i ≡ Some class
    → class_of_origin names origin ≡ class → CoverSoFar world i → CoverSoFar world (i + 1)
one_covers world i class names origin there is so_far k c before at = elim (cases_lt k i) [
  | inl earlier ↦ so_far k c earlier at
  | inr last ↦
      let same : k ≡ i = omega arith in
      let both : Some class ≡ Some c = sym there ∙ ap (slice_get world.classes) (sym same) ∙ at in
      let own : class ≡ c = cc in
      subst (λ (d : Class). covers d ≡ true) (is ∙ own) (origin_covers names origin)
]

any_flat : (f : Class → List (List ℕ)) (xs : List Class) (k : ℕ) (x : Class) (text : List ℕ) → slice_get xs k ≡ Some x
    → list_any (bytes_eq text) (f x) ≡ true → list_any (bytes_eq text) (flat_map f xs) ≡ true
any_flat f [] k x text at is = absurd cc
any_flat f (y ∷ xs) zero x text at is =
    let same : y ≡ x = cc in
    list_any-append (bytes_eq text) (f y) (flat_map f xs)
    ∙ or_left (list_any (bytes_eq text) (f y)) (list_any (bytes_eq text) (flat_map f xs)) (ap (λ (z : Class). list_any (bytes_eq text) (f z)) same ∙ is)
any_flat f (y ∷ xs) (suc k) x text at is =
    list_any-append (bytes_eq text) (f y) (flat_map f xs)
    ∙ or_right (list_any (bytes_eq text) (f y)) (list_any (bytes_eq text) (flat_map f xs)) (any_flat f xs k x text at is)

weaker : (p q : List ℕ → Bool) (xs : List (List ℕ)) → ((x : List ℕ) → p x ≡ true → q x ≡ true) → list_all p xs ≡ true → list_all q xs ≡ true
weaker p q [] each all = refl
weaker p q (x ∷ xs) each all =
    and_from (q x) (list_all q xs) (each x (and_left (p x) (list_all p xs) all)) (weaker p q xs each (and_right (p x) (list_all p xs) all))

literal_there : (world : World) (text : List ℕ) → list_any (bytes_eq text) (world_strings world) ≡ true
    → list_any (bytes_eq text) (literals_of world) ≡ true
literal_there world text there = elim (seen_or_listed [] (world_strings world) text there) [
  | inl none ↦ absurd (true≢false (sym none))
  | inr listed ↦ listed
]

-- the literals of a world have whatever its classes name
pub all_named : (world : World) (texts : List (List ℕ)) (i : ℕ) → length world.classes ≤ i → CoverSoFar world i → texts ≡ literals_of world
    → have texts (named_literals world) ≡ true
all_named world texts i past cover is =
    subst (λ (t : List (List ℕ)). have t (named_literals world) ≡ true) (sym is)
    (all_flat (λ (units : List ℕ). list_any (bytes_eq units) (literals_of world)) class_literals world.classes
    (λ k c at. weaker (λ (units : List ℕ). list_any (bytes_eq units) (class_strings c))
    (λ (units : List ℕ). list_any (bytes_eq units) (literals_of world)) (class_literals c)
    (λ units own. literal_there world units (any_flat class_strings world.classes k c units at own))
    (cover k c (omega (arith, slice_get_within world.classes k c at)) at)))
