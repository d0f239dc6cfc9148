-- Methods that calls select on objects, and what they ask (JVMS 5.4.3.3, 6.5).
use Rattle.std.proofs.Common.{◌≡◌, ℕ, Bool, true, false, cond, List, ◌∷◌, Option, Some, None, refl, sym, ap, subst, ◌∙◌, inl, inr}
use Rattle.std.specs.Prelude.{IsTrue, ◌&&◌, ◌||◌, not, bytes_eq, take_while, take, drop}
use Rattle.std.specs.List.{list_any, prefix_len}
use Rattle.std.proofs.lemmas.List.{take-append-drop}
use Rattle.std.proofs.lemmas.Bool.{and_parts, not-true}
use Rattle.jv_model.specs.Partial.{passes}
use Rattle.jv_model.specs.Descriptors.{FieldType, class_type}
use Rattle.jv_model.specs.Operand.{MemberReference}
use Rattle.jv_model.specs.LoadedClass.{LoadedClass}
use Rattle.world_model.specs.World.{Method, Class, World, class_in, is_static_method, declared_method}
use Rattle.world_model.specs.BootNames.{java_object, java_string, java_thread, java_throwable}
use Rattle.world_model.specs.BootTable.{boot_table}
use Rattle.world_model.specs.Layout.{declared}
use Rattle.world_model.specs.LookUp.{Found}
use Rattle.world_model.specs.Members.{same_member}
use Rattle.world_model.specs.Selection.{is_private, selectable, select_in, selected_from}
use Rattle.world_model.specs.Supertypes.{chain, is_sub}
use Rattle.code_model.specs.TypeReading.{method_type_of}
use Rattle.link_model.specs.WorldOf.{world_of}
use Rattle.link_laws.specs.Above.{has, IsAtOrAbove}
use Rattle.link_laws.proofs.LookUps.{first_declared_is}
use Rattle.link_laws.proofs.Lists.{passes_some}
use Rattle.link_laws.proofs.Names.{same_text, has_head, has_left, has_right}
use Rattle.link_laws.proofs.Orders.{chain_above, sub_is_above}
use Rattle.typing_model.specs.Assignable.{names_interface}
use Rattle.machine_model.specs.Natives.{Native, native_of, native_rows, string_length, string_char_at, string_equals, string_concat, sets_target, starts_a_thread, joins_a_thread, sets_message, gets_message}
use Rattle.machine_model.specs.NativeSteps.{message_field}
use Rattle.machine_model.specs.ThreadNatives.{target_field, number_field, run_method, classes_below_thread}
use Rattle.machine_model.specs.TypedValues.{may_stand}
use Rattle.frame_laws.proofs.Outcome.{bind_is}
use Rattle.machine_laws.specs.Runnable.{is_object_type, class_of_type, PlaceUse, RunUse, Runs, ThreadUse, NativeAsks, MethodUse, Selects}
use Rattle.linked_laws.specs.Worlds.{IsLinkedWorld}
use Rattle.linked_laws.proofs.Classes.{is_linked, found_named}
use Rattle.linked_laws.proofs.Lists.{found_holds, found_passes}
use Rattle.linked_laws.proofs.Members.{declaring}
use Rattle.linked_world_laws.proofs.Above.{own_above, is_object}
use Rattle.linked_world_laws.proofs.Chains.{IsPlain, place_use}
use Rattle.linked_world_laws.proofs.Found.{found_is, has_environment}
use Rattle.linked_world_laws.proofs.MethodKinds.{WithoutCode, is_of_native}

-- ---- fields that the machine keeps

abbrev declares : MemberReference → Class → Bool
declares field class = list_any (same_member field) (declared false class)

kept_fields : (classes : List LoadedClass)
    → (passes (declares target_field) (class_in (world_of boot_table classes) java_thread) ≡ true)
    × (passes (declares number_field) (class_in (world_of boot_table classes) java_thread) ≡ true)
    × (passes (declares message_field) (class_in (world_of boot_table classes) java_throwable) ≡ true)
unfolding boot_table
kept_fields classes = (refl, refl, refl)

plain_boot : (classes : List LoadedClass)
    → (names_interface (world_of boot_table classes) java_thread ≡ false) × (names_interface (world_of boot_table classes) java_throwable ≡ false)
unfolding boot_table
plain_boot classes = (refl, refl)

-- no native method is one that a thread runs
no_native_run : (class : List ℕ) → native_of (run_method class) ≡ None
unfolding native_rows
no_native_run class = refl

-- ---- methods that are selected

-- A method that a class declares, which isn't static.
pub record IsSelected (world : World) (m : MemberReference) (classes : List (List ℕ)) (found : Found Method) : Type 0 where
  pub on : IsTrue (has classes found.class)
  pub class : Class
  pub there : class_in world found.class ≡ Some class
  pub declares : declared_method m.name m.descriptor class ≡ Some found.member
  pub kind : is_static_method found.member ≡ false

pub select_is : (world : World) (m : MemberReference) (classes : List (List ℕ)) (found : Found Method) → select_in world m classes ≡ Some found
    → IsSelected world m classes found
select_is world m classes found e =
    let first = first_declared_is (selectable m) world classes found e in
    let class = declaring (selectable m) world found.class found.member first.declares in
    let method = bind_is (λ (x : Method). cond (is_static_method x || is_private x) None (Some x)) (declared_method m.name m.descriptor class.0) found.member class.2 in
    let kept = by method.0 (is_static_method method.0) (is_private method.0) refl method.2 in
    record {
      on = subst (λ (names : List (List ℕ)). IsTrue (has names found.class)) (sym first.are) (has_right first.front (found.class ∷ first.rest) found.class (has_head found.class first.rest));
      class = class.0;
      there = class.1;
      declares = method.1 ∙ ap Some kept.1;
      kind = ap is_static_method (sym kept.1) ∙ kept.0;
    }
  where
    by : (x : Method) (static private : Bool) → is_static_method x ≡ static → cond (static || private) None (Some x) ≡ Some found.member
        → (is_static_method x ≡ false) × (x ≡ found.member)
    by x false false is e = (is, cc)
    by x false true is e = absurd cc
    by x true private is e = absurd cc

-- a method that was found has the name and the descriptor of its reference
pub record IsNamed (m : MemberReference) (method : Method) : Type 0 where
  pub name : method.name ≡ m.name
  pub descriptor : method.descriptor ≡ m.descriptor

pub named_is : (m : MemberReference) (class : Class) (method : Method) → declared_method m.name m.descriptor class ≡ Some method → IsNamed m method
named_is m class method declared =
    let parts = and_parts (bytes_eq method.name m.name) (bytes_eq method.descriptor m.descriptor) (found_passes _ class.methods method declared) in
    record { name = same_text method.name m.name parts.0; descriptor = same_text method.descriptor m.descriptor parts.1 }

pub own_declared : (m : MemberReference) (class : Class) (method : Method) → declared_method m.name m.descriptor class ≡ Some method
    → declared_method method.name method.descriptor class ≡ Some method
own_declared m class method declared =
    let is = named_is m class method declared in
    ap (λ (n : List ℕ). declared_method n method.descriptor class) is.name ∙ ap (λ (d : List ℕ). declared_method m.name d class) is.descriptor ∙ declared

-- what is taken from the front stands in the list
taken_has : (test : List ℕ → Bool) (names : List (List ℕ)) (name : List ℕ) → IsTrue (has (take_while test names) name) → IsTrue (has names name)
taken_has test names name h =
    let count = prefix_len test names in
    subst (λ (x : List (List ℕ)). IsTrue (has x name)) (take-append-drop count names) (has_left (take count names) (drop count names) name h)

module _ (world : World) (linked : IsLinkedWorld world) where
  -- ---- fields

  keeps : (class owner : List ℕ) (field : MemberReference) → IsPlain world class → IsAtOrAbove world class owner → IsPlain world owner
      → passes (declares field) (class_in world owner) ≡ true → PlaceUse world class field
  keeps class owner field plain above own h =
      let d = passes_some (declares field) (class_in world owner) h in
      place_use world linked class owner d.0 field plain above own d.1 d.2

  in_boot : (P : World → Type 0) → ((classes : List LoadedClass) → P (world_of boot_table classes)) → P world
  in_boot P all = subst P (sym (is_linked world linked).is) (all linked.classes)

  plain_thread : IsPlain world java_thread
  plain_thread = record {
    no_interface = in_boot (λ w. names_interface w java_thread ≡ false) (λ classes. (plain_boot classes).0);
    no_object = refl;
  }

  plain_throwable : IsPlain world java_throwable
  plain_throwable = record {
    no_interface = in_boot (λ w. names_interface w java_throwable ≡ false) (λ classes. (plain_boot classes).1);
    no_object = refl;
  }

  thread_target : PlaceUse world java_thread target_field
  thread_target = keeps java_thread java_thread target_field plain_thread (inl refl) plain_thread
      (in_boot (λ w. passes (declares target_field) (class_in w java_thread) ≡ true) (λ classes. (kept_fields classes).0))

  thread_number : PlaceUse world java_thread number_field
  thread_number = keeps java_thread java_thread number_field plain_thread (inl refl) plain_thread
      (in_boot (λ w. passes (declares number_field) (class_in w java_thread) ≡ true) (λ classes. (kept_fields classes).1))

  message_in : (class : List ℕ) → (is_sub world class java_throwable && not (names_interface world class) && not (bytes_eq class java_object)) ≡ true
      → PlaceUse world class message_field
  message_in class h =
      let outer = and_parts (is_sub world class java_throwable && not (names_interface world class)) (not (bytes_eq class java_object)) h in
      let inner = and_parts (is_sub world class java_throwable) (not (names_interface world class)) outer.0 in
      keeps class java_throwable message_field
      (record { no_interface = not-true _ inner.1; no_object = not-true _ outer.1 })
      (sub_is_above world class java_throwable inner.0) plain_throwable
      (in_boot (λ w. passes (declares message_field) (class_in w java_throwable) ≡ true) (λ classes. (kept_fields classes).2))

  -- ---- threads

  without_code : (m : MemberReference) (name : List ℕ) (class : Class) (method : Method) → class_in world name ≡ Some class
      → declared_method m.name m.descriptor class ≡ Some method → WithoutCode world class method
  without_code m name class method there declared =
      (found_holds (WithoutCode world class) _ class.methods method (found_is world linked name class there).whole declared).1

  run_use : (own : List ℕ) (classes : List (List ℕ)) (found : Found Method) → IsSelected world (run_method own) classes found → RunUse world found
  run_use own classes found is =
      let named = named_is (run_method own) is.class found.member is.declares in
      record {
        kind = is.kind;
        same_descriptor = named.descriptor;
        has_code = λ none. elim (without_code (run_method own) found.class is.class found.member is.there is.declares none) [
          | inl abstract ↦ abstract
          | inr native ↦ absurd
              (let there : native_of (run_method is.class.name) ≡ Some native.native =
              ap native_of (λ i. record { class = is.class.name; name = sym named.name i; descriptor = sym named.descriptor i }) ∙ native.is_native in
              let fails = sym (no_native_run is.class.name) ∙ there in cc)
        ];
        environment = has_environment world linked found is.class is.there (own_declared (run_method own) is.class found.member is.declares);
      }

  -- what a thread runs of an object, from among the classes at or above its own
  runs_of : (own : FieldType) (classes : List (List ℕ)) → is_object_type own ≡ true
      → ((name : List ℕ) → IsTrue (has classes name) → IsAtOrAbove world (class_of_type own) name)
      → Runs world own (select_in world (run_method (class_of_type own)) classes)
  runs_of own classes is above = by (select_in world (run_method (class_of_type own)) classes) refl
    where
      by : (o : Option (Found Method)) → select_in world (run_method (class_of_type own)) classes ≡ o → Runs world own o
      by None e = tt
      by (Some found) e =
          let selected = select_is world (run_method (class_of_type own)) classes found e in
          (run_use (class_of_type own) classes found selected, own_above world linked own found.class is (above found.class selected.on))

  thread_use : ThreadUse world java_thread
  thread_use = record {
    target = thread_target;
    number = thread_number;
    runs = λ own stands.
        runs_of own (classes_below_thread world (class_of_type own)) (is_object world linked own java_thread stands)
        (λ name on. chain_above _ world (class_of_type own) name (taken_has (λ n. not (bytes_eq n java_thread)) (chain world (class_of_type own)) name on));
    target_runs = λ own is sub. runs_of own (chain world (class_of_type own)) is (λ name on. chain_above _ world (class_of_type own) name on);
  }

  -- ---- native methods

  native_asks : (class : List ℕ) (native : Native) → is_of_native world class native ≡ true → NativeAsks world class native
  native_asks class string_length h = same_text class java_string h
  native_asks class string_char_at h = same_text class java_string h
  native_asks class string_equals h = same_text class java_string h
  native_asks class string_concat h = same_text class java_string h
  native_asks class sets_target h = subst (λ (c : List ℕ). PlaceUse world c target_field) (sym (same_text class java_thread h)) thread_target
  native_asks class starts_a_thread h = subst (ThreadUse world) (sym (same_text class java_thread h)) thread_use
  native_asks class joins_a_thread h = subst (λ (c : List ℕ). PlaceUse world c number_field) (sym (same_text class java_thread h)) thread_number
  native_asks class sets_message h = message_in class h
  native_asks class gets_message h = message_in class h
  native_asks class other h = tt

  -- ---- methods that references lead to

  pub method_use : (m : MemberReference) (static : Bool) (found : Found Method) (class : Class) → class_in world found.class ≡ Some class
      → declared_method m.name m.descriptor class ≡ Some found.member → is_static_method found.member ≡ static → MethodUse world m static found
  method_use m static found class there declared kind =
      let named = named_is m class found.member declared in
      let own = found_named world found.class class there in
      record {
        kind = kind;
        same_descriptor = named.descriptor;
        without_code = λ none. elim (without_code m found.class class found.member there declared none) [
          | inl abstract ↦ inl abstract
          | inr native ↦ inr (record {
            native = native.native;
            is_native = ap (λ (c : List ℕ). native_of (record { class = c; name = found.member.name; descriptor = found.member.descriptor })) (sym own) ∙ native.is_native;
            is_type = ap method_type_of (sym named.descriptor) ∙ native.is_type;
            kind = native.kind ∙ kind;
            asks = native_asks found.class native.native (ap (λ (c : List ℕ). is_of_native world c native.native) (sym own) ∙ native.of_class);
          })
        ];
        environment = has_environment world linked found class there (own_declared m class found.member declared);
      }

  -- what a call selects on an object, from among classes that it stands for
  pub selects_of : (m : MemberReference) (own : FieldType) (found : Found Method) (classes : List (List ℕ)) → MethodUse world m false found
      → may_stand world own (class_type found.class) ≡ true
      → ((name : List ℕ) → IsTrue (has classes name) → may_stand world own (class_type name) ≡ true)
      → Selects world m own (selected_from world found m classes)
  selects_of m own found classes used stands each = by (is_private found.member)
    where
      of : (o : Option (Found Method)) → select_in world m classes ≡ o → Selects world m own o
      of None e = tt
      of (Some f) e =
          let selected = select_is world m classes f e in
          (method_use m false f selected.class selected.there selected.declares selected.kind, each f.class selected.on)

      by : (private : Bool) → Selects world m own (cond private (Some found) (select_in world m classes))
      by true = (used, stands)
      by false = of (select_in world m classes) refl
