-- The types of declared members are ones that this machine has (JVMS 4.3).
use Rattle.std.proofs.Common.{◌≡◌, ℕ, Bool, true, false, cond, List, [], ◌∷◌, ◌++◌, None, refl, ap, ◌∙◌}
use Rattle.std.specs.Prelude.{◌&&◌, option_map, flat_map}
use Rattle.std.specs.List.{AllByRecursion, list_all}
use Rattle.std.proofs.lemmas.Bool.{and_parts}
use Rattle.jv_model.specs.Partial.{least}
use Rattle.jv_model.specs.Refusal.{Cause, wrong_descriptor}
use Rattle.jv_model.specs.ClassData.{Const, Member}
use Rattle.jv_model.specs.ConstantPool.{units_at}
use Rattle.jv_model.specs.Descriptors.{FieldType, byte_type, char_type, double_type, float_type, int_type, long_type, short_type, boolean_type, class_type, array_of}
use Rattle.jv_model.specs.LoadedClass.{LoadedClass}
use Rattle.world_model.specs.World.{Field, Method, Class}
use Rattle.world_model.specs.BootTable.{boot_table}
use Rattle.code_model.specs.TypeReading.{are_parts, before_semicolon, type_at, dimensions, parameters_within}
use Rattle.link_model.specs.WorldOf.{class_of, field_of, name_of}
use Rattle.link_model.specs.Uses.{Used, used, as_field_descriptor, as_method_descriptor, uses_of}
use Rattle.link_model.specs.DescriptorFaults.{is_supported, is_field_descriptor, is_method_descriptor, unless_text, wrong_text_of, wrong_texts, descriptor_fault}
use Rattle.link_laws.proofs.Lists.{all_of_map, all_weaker}
use Rattle.typing_model.specs.VerificationType.{type_of}
use Rattle.machine_laws.specs.Runnable.{is_operand}
use Rattle.linked_laws.proofs.Lists.{all_pass, all_to_map}
use Rattle.linked_laws.proofs.Types.{fields_in, methods_in, kept_by_methods}

-- The types of a class's members are supported.
pub record IsDescribed (class : Class) : Type 0 where
  pub fields : AllByRecursion (λ (f : Field). is_field_descriptor f.descriptor ≡ true) class.fields
  pub methods : AllByRecursion (λ (m : Method). is_method_descriptor m.descriptor ≡ true) class.methods

-- ---- boot classes

abbrev is_described : Class → Bool
is_described class =
    list_all (λ (f : Field). is_field_descriptor f.descriptor) class.fields && list_all (λ (m : Method). is_method_descriptor m.descriptor) class.methods

boot_described : list_all is_described boot_table ≡ true
unfolding boot_table is_supported are_parts before_semicolon type_at dimensions parameters_within
boot_described = refl

pub boot_are_described : AllByRecursion IsDescribed boot_table
boot_are_described =
    all_weaker _ IsDescribed boot_table
    (λ c h.
    (let parts = and_parts (list_all (λ (f : Field). is_field_descriptor f.descriptor) c.fields) (list_all (λ (m : Method). is_method_descriptor m.descriptor) c.methods) h in
    record { fields = all_pass _ c.fields parts.0; methods = all_pass _ c.methods parts.1 }))
    (all_pass is_described boot_table boot_described)

-- ---- classes of a program

none_least : (xs : List ℕ) (fault : ℕ → Cause) → option_map fault (least xs) ≡ None → xs ≡ []
none_least [] fault e = refl
none_least (x ∷ xs) fault e = absurd cc

both_none : {A : Type 0} (xs ys : List A) → xs ++ ys ≡ [] → (xs ≡ []) × (ys ≡ [])
both_none [] ys e = (refl, e)
both_none (x ∷ xs) ys e = absurd cc

-- where lists come to none, each is none
pub each_none : {A B : Type 0} (f : A → List B) (xs : List A) → flat_map f xs ≡ [] → AllByRecursion (λ x. f x ≡ []) xs
each_none f [] e = tt
each_none f (x ∷ xs) e = let parts = both_none (f x) (flat_map f xs) e in (parts.0, each_none f xs parts.1)

right_text : (test : List ℕ → Bool) (pool : List Const) (index : ℕ) → unless_text test pool index ≡ [] → test (units_at pool index) ≡ true
right_text test pool index = by (test (units_at pool index))
  where
    by : (b : Bool) → cond b [] (index ∷ []) ≡ [] → b ≡ true
    by true e = refl
    by false e = absurd cc

pub program_described : (l : LoadedClass) → descriptor_fault l ≡ None → IsDescribed (class_of l)
program_described l none =
    let pool = l.file.pool in
    let P = λ (u : Used). wrong_text_of pool u.index u.use_as ≡ [] in
    let each : AllByRecursion P (uses_of l) = each_none (λ (u : Used). wrong_text_of pool u.index u.use_as) (uses_of l) (none_least (wrong_texts l) (wrong_descriptor (name_of l)) none) in
    record {
      fields = all_to_map (λ (f : Field). is_field_descriptor f.descriptor ≡ true) (field_of pool) l.file.fields
          (all_weaker _ _ l.file.fields (λ m h. right_text is_field_descriptor pool m.descriptor h)
          (all_of_map P (λ (m : Member). used as_field_descriptor m.descriptor) l.file.fields (fields_in P l each)));
      methods = kept_by_methods (λ d. is_method_descriptor d ≡ true) pool l.file.methods l.codes
          (all_weaker _ _ l.file.methods (λ m h. right_text is_method_descriptor pool m.descriptor h)
          (all_of_map P (λ (m : Member). used as_method_descriptor m.descriptor) l.file.methods (methods_in P l each)));
    }

-- ---- what the verifier has of them

-- a supported type has values
pub has_values : (type : FieldType) → is_supported type ≡ true → is_operand (type_of type) ≡ true
unfolding is_supported type_of
has_values byte_type h = refl
has_values char_type h = refl
has_values double_type h = absurd cc
has_values float_type h = absurd cc
has_values int_type h = refl
has_values long_type h = refl
has_values short_type h = refl
has_values boolean_type h = refl
has_values (class_type name) h = refl
has_values (array_of component) h = refl

pub all_have_values : (types : List FieldType) → list_all is_supported types ≡ true → list_all (λ p. is_operand (type_of p)) types ≡ true
all_have_values [] h = refl
all_have_values (type ∷ types) h =
    let parts = and_parts (is_supported type) (list_all is_supported types) h in
    and_from (has_values type parts.0) (all_have_values types parts.1)
  where
    and_from : {a b : Bool} → a ≡ true → b ≡ true → (a && b) ≡ true
    and_from {a} {b} p q = ap (λ x. x && b) p ∙ q
