-- What the methods of a linked world's classes are: with code, abstract, or native ones of boot classes (JVMS 4.6).
use Rattle.std.proofs.Common.{◌≡◌, ℕ, zero, suc, ◌+◌, Bool, true, false, cond, List, [], ◌∷◌, Option, Some, None, refl, sym, ap, subst, ◌∙◌, inl, inr, if◌then◌else◌, arith}
use Rattle.std.specs.Prelude.{codes, ◌⊎◌, ◌&&◌, ◌||◌, not, ◌==◌, is_some, bytes_eq, slice_get, option_map, find, count_by, position, bit_and}
use Rattle.std.specs.Bool.{beq}
use Rattle.std.specs.List.{AllByRecursion, AllZip, list_all, list_any}
use Rattle.std.proofs.lemmas.Bool.{and_parts, or_cases, or_parts, both_ways, false_from_ne_true}
use Rattle.std.proofs.lemmas.List.Sums.{sum_by-cons}
use lib.Pointwise.{pointwise}
use Rattle.jv_model.specs.Partial.{passes}
use Rattle.jv_model.specs.Refusal.{Cause, wrong_method_kind}
use Rattle.jv_model.specs.ClassData.{Attr, Member, ClassData}
use Rattle.jv_model.specs.ConstantPool.{is_named, units_at}
use Rattle.jv_model.specs.Descriptors.{FieldType, MethodType}
use Rattle.jv_model.specs.Code.{Body}
use Rattle.jv_model.specs.Profile.{code, has_code, IsMethod}
use Rattle.jv_model.specs.LoadedClass.{LoadedClass}
use Rattle.world_model.specs.World.{Method, Class, World, has_flag, acc_native, acc_abstract, is_static_method, is_interface}
use Rattle.world_model.specs.BootNames.{java_string, java_thread, java_throwable, java_object}
use Rattle.world_model.specs.BootTable.{boot_table}
use Rattle.world_model.specs.Members.{method_of}
use Rattle.world_model.specs.Supertypes.{is_sub, each_once, field_order_within}
use Rattle.code_model.specs.CodeShape.{code_bytes}
use Rattle.code_model.specs.Names.{named}
use Rattle.code_model.specs.SpellsCode.{HasCode}
use Rattle.code_model.specs.TypeReading.{are_parts, before_semicolon, type_at, dimensions, parameters_within, method_type_of}
use Rattle.link_model.specs.WorldOf as linking
use Rattle.link_model.specs.WorldOf.{class_of, methods_of, name_of, world_of}
use Rattle.link_model.specs.ClassFaults.{is_wrong_method, is_clinit, has_body, method_fault}
use Rattle.typing_model.specs.Assignable.{names_interface}
use Rattle.typing_model.specs.VerificationType.{is_same_field_type}
use Rattle.machine_model.specs.Natives.{Native, native_of, native_rows, string_length, string_char_at, string_equals, string_concat, sets_target, starts_a_thread, joins_a_thread, sets_message, gets_message}
use Rattle.machine_laws.specs.Runnable.{native_type, is_static_native}
use Rattle.frame_laws.proofs.Subsumption.{same_field_type}
use Rattle.link_laws.proofs.Lists.{all_weaker, passes_some}
use Rattle.linked_laws.proofs.Lists.{all_pass, all_at, all_from}
use Rattle.linked_laws.specs.Worlds.{IsReadClass}
use Rattle.linked_world_laws.proofs.Items.{any_position}
use Rattle.linked_world_laws.proofs.Bodies.{methods_have_code}

-- ---- native methods

-- which classes have it
abbrev pub is_of_native : World → List ℕ → Native → Bool
is_of_native world class string_length = bytes_eq class java_string
is_of_native world class string_char_at = bytes_eq class java_string
is_of_native world class string_equals = bytes_eq class java_string
is_of_native world class string_concat = bytes_eq class java_string
is_of_native world class sets_target = bytes_eq class java_thread
is_of_native world class starts_a_thread = bytes_eq class java_thread
is_of_native world class joins_a_thread = bytes_eq class java_thread
is_of_native world class sets_message =
    is_sub world class java_throwable && not (names_interface world class) && not (bytes_eq class java_object)
is_of_native world class gets_message =
    is_sub world class java_throwable && not (names_interface world class) && not (bytes_eq class java_object)
is_of_native world class other = true

same_results : Option FieldType → Option FieldType → Bool
same_results None None = true
same_results (Some a) (Some b) = is_same_field_type a b
same_results a b = false

abbrev is_of_type : MethodType → MethodType → Bool
is_of_type a b = pointwise is_same_field_type a.parameters b.parameters && same_results a.result b.result

abbrev is_native_of : World → Class → Method → Native → Bool
is_native_of world class method native =
    passes (is_of_type (native_type native)) (method_type_of method.descriptor)
    && beq (is_static_native native) (is_static_method method) && is_of_native world class.name native

abbrev is_native : World → Class → Method → Bool
is_native world class method = passes (is_native_of world class method) (native_of (method_of class method))

abbrev is_whole : World → Class → Method → Bool
is_whole world class method = is_some method.code || has_flag acc_abstract method.flags || is_native world class method

boot_whole : (classes : List LoadedClass) → list_all (λ c. list_all (is_whole (world_of boot_table classes) c) c.methods) boot_table ≡ true
unfolding boot_table native_rows each_once field_order_within are_parts before_semicolon type_at dimensions parameters_within is_same_field_type same_results
boot_whole classes = refl

-- A native method of a class, with what it asks.
pub record IsNativeOf (world : World) (class : Class) (method : Method) : Type 0 where
  pub native : Native
  pub is_native : native_of (method_of class method) ≡ Some native
  pub is_type : method_type_of method.descriptor ≡ Some (native_type native)
  pub kind : is_static_native native ≡ is_static_method method
  pub of_class : is_of_native world class.name native ≡ true

-- What a method without code is.
abbrev pub WithoutCode : World → Class → Method → Type 0
WithoutCode world class method = method.code ≡ None → (has_flag acc_abstract method.flags ≡ true) ⊎ IsNativeOf world class method

same_types : (xs ys : List FieldType) → pointwise is_same_field_type xs ys ≡ true → xs ≡ ys
same_types [] [] h = refl
same_types [] (b ∷ ys) h = absurd cc
same_types (a ∷ xs) [] h = absurd cc
same_types (a ∷ xs) (b ∷ ys) h =
    let parts = and_parts (is_same_field_type a b) (pointwise is_same_field_type xs ys) h in
    λ i. same_field_type a b parts.0 i ∷ same_types xs ys parts.1 i

same_result : (a b : Option FieldType) → same_results a b ≡ true → a ≡ b
unfolding same_results
same_result None None h = refl
same_result None (Some b) h = absurd cc
same_result (Some a) None h = absurd cc
same_result (Some a) (Some b) h = ap Some (same_field_type a b h)

same_method_type : (a b : MethodType) → is_of_type a b ≡ true → a ≡ b
same_method_type a b h =
    let parts = and_parts (pointwise is_same_field_type a.parameters b.parameters) (same_results a.result b.result) h in
    λ i. record { parameters = same_types a.parameters b.parameters parts.0 i; result = same_result a.result b.result parts.1 i }

same_bool : (a b : Bool) → beq a b ≡ true → a ≡ b
same_bool true true h = refl
same_bool false false h = refl
same_bool true false h = absurd cc
same_bool false true h = absurd cc

native_is : (world : World) (class : Class) (method : Method) → is_native world class method ≡ true → IsNativeOf world class method
native_is world class method h =
    let native = passes_some (is_native_of world class method) (native_of (method_of class method)) h in
    let outer = and_parts (passes (is_of_type (native_type native.0)) (method_type_of method.descriptor) && beq (is_static_native native.0) (is_static_method method)) (is_of_native world class.name native.0) native.2 in
    let inner = and_parts (passes (is_of_type (native_type native.0)) (method_type_of method.descriptor)) (beq (is_static_native native.0) (is_static_method method)) outer.0 in
    let type = passes_some (is_of_type (native_type native.0)) (method_type_of method.descriptor) inner.0 in
    record {
      native = native.0;
      is_native = native.1;
      is_type = type.1 ∙ ap Some (sym (same_method_type (native_type native.0) type.0 type.2));
      kind = same_bool _ _ inner.1;
      of_class = outer.1;
    }

whole_is : (world : World) (class : Class) (method : Method) → is_whole world class method ≡ true → WithoutCode world class method
whole_is world class method h none = elim (or_cases (is_some method.code || has_flag acc_abstract method.flags) (is_native world class method) h) [
  | inl less ↦ elim (or_cases (is_some method.code) (has_flag acc_abstract method.flags) less) [
    | inl some ↦ absurd (let fails = sym (ap is_some none) ∙ some in cc)
    | inr abstract ↦ inl abstract
  ]
  | inr native ↦ inr (native_is world class method native)
]

pub boot_without_code : (classes : List LoadedClass) → AllByRecursion (λ c. AllByRecursion (WithoutCode (world_of boot_table classes) c) c.methods) boot_table
boot_without_code classes =
    let world = world_of boot_table classes in
    all_weaker _ (λ c. AllByRecursion (WithoutCode world c) c.methods) boot_table
    (λ c all. all_weaker _ (WithoutCode world c) c.methods (whole_is world c) (all_pass (is_whole world c) c.methods all))
    (all_pass (λ c. list_all (is_whole world c) c.methods) boot_table (boot_whole classes))

-- ---- methods of a program

-- A method is that of a member, with its code.
record OfMember (file : ClassData) (members : List Member) (k : ℕ) (method : Method) : Type 0 where
  member : Member
  is_member : slice_get members k ≡ Some member
  body : Option (Body ℕ)
  has : HasCode file member body
  same : linking.method_of file.pool member body ≡ method

of_member : (file : ClassData) (members : List Member) (codes : List (Option (Body ℕ))) (k : ℕ) (method : Method) → AllZip (HasCode file) members codes
    → slice_get (methods_of file.pool members codes) k ≡ Some method → OfMember file members k method
unfolding methods_of
of_member file [] [] k method all at = absurd cc
of_member file [] (body ∷ codes) k method all at = absurd all
of_member file (m ∷ members) [] k method all at = absurd all
of_member file (m ∷ members) (body ∷ codes) zero method all at =
    record { member = m; is_member = refl; body = body; has = all.0; same = cc }
of_member file (m ∷ members) (body ∷ codes) (suc k) method all at =
    let of = of_member file members codes k method all.1 at in
    record { member = of.member; is_member = of.is_member; body = of.body; has = of.has; same = of.same }

none_by : {A : Type 0} (x : A) (o : Option A) (b : Bool) (rest : ℕ) → cond b (Some x) o ≡ None → (o ≡ None → rest ≡ 0) → cond b 1 0 + rest ≡ 0
none_by x o true rest e none = absurd cc
none_by x o false rest e none = omega (arith, none e)

none_counted : {A : Type 0} (test : A → Bool) (xs : List A) → find test xs ≡ None → count_by test xs ≡ 0
none_counted test [] e = refl
none_counted test (x ∷ xs) e =
    sum_by-cons (λ y. cond (test y) 1 0) x xs ∙ none_by x (find test xs) (test x) (count_by test xs) e (none_counted test xs)

-- a member without a Code attribute is native or abstract
pub no_code : (file : ClassData) (member : Member) → IsMethod file.pool member → code_bytes file member ≡ None → has_code member.flags ≡ false
no_code file member is none =
    let test = λ (a : Attr). is_named file.pool code a.name in
    let count : ℕ = count_by test member.attributes in
    let zero_is : count ≡ 0 = none_counted test member.attributes (unmapped (find test member.attributes) none) in
    by (has_code member.flags) count zero_is is.one_code
  where
    unmapped : (o : Option Attr) → option_map (λ (a : Attr). a.bytes) o ≡ None → o ≡ None
    unmapped None e = refl
    unmapped (Some a) e = absurd cc

    by : (b : Bool) (n : ℕ) → n ≡ 0 → n ≡ (if b then 1 else 0) → b ≡ false
    by false n z e = refl
    by true n z e = absurd (omega (arith, z, e))

-- What linking and reading leave of a method of a program.
pub record IsProgramMethod (method : Method) : Type 0 where
  pub without_code : method.code ≡ None → has_flag acc_abstract method.flags ≡ true
  pub static_has_code : is_static_method method ≡ true → is_some method.code ≡ true

all_fail : {A : Type 0} (test : A → Bool) (xs : List A) → list_any test xs ≡ false → AllByRecursion (λ x. test x ≡ false) xs
all_fail test [] none = tt
all_fail test (x ∷ xs) none = let parts = or_parts (test x) (list_any test xs) none in (parts.0, all_fail test xs parts.1)

-- no test was passed
none_wrong : {A : Type 0} (test : A → Bool) (xs : List A) (fault : ℕ → Cause) → option_map fault (position test xs) ≡ None
    → AllByRecursion (λ x. test x ≡ false) xs
none_wrong test xs fault e = all_fail test xs (false_from_ne_true (list_any test xs) (λ h.
    (let found = any_position test xs h in let is = sym (ap (option_map fault) found.1) ∙ e in cc)))

right_flags : (flags : ℕ) → has_flag acc_native flags ≡ false → has_code flags ≡ false → has_flag acc_abstract flags ≡ true
right_flags flags = by (bit_and flags 0x100 == 0) (bit_and flags 0x400 == 0)
  where
    by : (native abstract : Bool) → not native ≡ false → (native && abstract) ≡ false → not abstract ≡ true
    by true true n h = absurd cc
    by true false n h = refl
    by false abstract n h = absurd cc

bytes_none : {B : Type 0} (file : ClassData) (member : Member) (f : Body ℕ → B) (body : Option (Body ℕ)) → HasCode file member body → option_map f body ≡ None
    → code_bytes file member ≡ None
bytes_none file member f None has e = has
bytes_none file member f (Some b) has e = absurd cc

coded_by : {B : Type 0} (o : Option B) → (o ≡ None → ⊥) → is_some o ≡ true
coded_by None fails = absurd (fails refl)
coded_by (Some b) fails = refl

pub program_methods : (l : LoadedClass) → IsReadClass l → method_fault (class_of l) ≡ None → AllByRecursion IsProgramMethod (class_of l).methods
program_methods l read none = all_from IsProgramMethod (class_of l).methods each
  where
    each : (k : ℕ) (method : Method) → slice_get (class_of l).methods k ≡ Some method → IsProgramMethod method
    each k method at =
        let of = of_member l.file l.file.methods l.codes k method (methods_have_code l read) at in
        let right = all_at _ (class_of l).methods k method (none_wrong (is_wrong_method (class_of l)) (class_of l).methods (wrong_method_kind (name_of l)) none) at in
        let native = has_flag acc_native method.flags in
        let abstract = is_static_method method && has_flag acc_abstract method.flags in
        let clinit = is_clinit method && bytes_eq method.descriptor (codes "()V") && not (is_static_method method) in
        let coded = is_interface (class_of l) && has_body method && not (is_clinit method) in
        let outer = or_parts (native || abstract || clinit) coded right in
        let middle = or_parts (native || abstract) clinit outer.0 in
        let inner = or_parts native abstract middle.0 in
        let is = all_at (IsMethod l.file.pool) l.file.methods k of.member read.in_profile.methods of.is_member in
        let bare : method.code ≡ None → has_flag acc_abstract method.flags ≡ true = λ no.
        (let flags = ap (λ (m : Method). m.flags) of.same in
        right_flags method.flags inner.0 (subst (λ (f : ℕ). has_code f ≡ false) flags (no_code l.file of.member is (bytes_none l.file of.member (named l.file.pool (units_at l.file.pool of.member.descriptor)) of.body of.has (ap (λ (m : Method). m.code) of.same ∙ no))))) in
        record {
          without_code = bare;
          static_has_code = λ static. coded_by method.code (λ no. both_ways _ inner.1 (ap (λ (b : Bool). b && has_flag acc_abstract method.flags) static ∙ bare no));
        }
