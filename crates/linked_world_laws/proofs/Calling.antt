-- What the calls of a linked world's code lead to (JVMS 5.4.3.3, 6.5).
use Rattle.std.proofs.Common.{◌≡◌, ℕ, Bool, true, false, cond, List, Option, Some, sym, ap, subst, ◌∙◌, inl, inr}
use Rattle.std.specs.Prelude.{IsTrue, ◌&&◌, not, bytes_eq, flat_map, option_to_list}
use Rattle.std.specs.List.{list_any}
use Rattle.std.proofs.lemmas.Bool.{or_cases}
use Rattle.std.proofs.lemmas.List.{append-nil}
use Rattle.jv_model.specs.Descriptors.{FieldType, class_type}
use Rattle.jv_model.specs.Operand.{MemberReference, is_array_name}
use Rattle.world_model.specs.World.{Method, Class, World, class_in, declared_method}
use Rattle.world_model.specs.BootNames.{java_object, is_constructor_name}
use Rattle.world_model.specs.LookUp.{Found}
use Rattle.world_model.specs.Resolution.{class_with_methods}
use Rattle.world_model.specs.Selection.{selected_from, specially_selected, classes_above}
use Rattle.world_model.specs.Supertypes.{superclass_of, interfaces_of, chain, is_sub}
use Rattle.link_laws.specs.Above.{has, IsAtOrAbove, directly}
use Rattle.link_laws.proofs.LookUps.{method_found_above}
use Rattle.link_laws.proofs.Names.{same_text, has_left}
use Rattle.link_laws.proofs.Orders.{chain_above, sub_is_above}
use Rattle.link_laws.proofs.UsedMembers.{MethodThere, method_resolved}
use Rattle.typing_model.specs.Environment.{Environment}
use Rattle.typing_model.specs.CallTypes.{is_own_or_super}
use Rattle.machine_model.specs.TypedValues.{may_stand}
use Rattle.machine_laws.specs.Runnable.{CallUse, MethodUse, StaticCallUse, VirtualCallUse, InterfaceCallUse, SpecialCallUse, IsReceived, Selects, class_of_type}
use Rattle.linked_laws.specs.Worlds.{IsLinkedWorld}
use Rattle.linked_laws.proofs.Classes.{found_named}
use Rattle.linked_laws.proofs.Members.{declaring}
use Rattle.linked_world_laws.proofs.Above.{stands_above, own_above, is_object, above_class}
use Rattle.linked_world_laws.proofs.Chains.{up_to}
use Rattle.linked_world_laws.proofs.Found.{found_is, call_use}
use Rattle.linked_world_laws.proofs.Referred.{AMethodThere}
use Rattle.linked_world_laws.proofs.Selecting.{method_use, selects_of}

module _ (world : World) (linked : IsLinkedWorld world) where
  -- A method that a reference finds: the class that declares it is at or above the one that is named.
  record IsReferred (m : MemberReference) (static : Bool) (found : Found Method) : Type 0 where
    above : IsAtOrAbove world m.class found.class
    used : MethodUse world m static found
    call : CallUse m
    no_array : is_array_name m.class ≡ false

  referred : (m : MemberReference) (of_interface static : Bool) (there : MethodThere world of_interface static m) → IsReferred m static there.found
  referred m of_interface static there =
      let found = method_found_above world m.class m.name m.descriptor there.found there.is in
      let class = declaring (declared_method m.name m.descriptor) world there.found.class there.found.member found.1 in
      record {
        above = found.0;
        used = method_use world linked m static there.found class.0 class.1 class.2 there.kind;
        call = call_use world linked m there.found.class class.0 there.found.member class.1 class.2;
        no_array = ap is_array_name (sym (found_named world m.class there.class there.class_there)) ∙ (found_is world linked m.class there.class there.class_there).plain_name;
      }

  pub static_call_use : (m : MemberReference) → AMethodThere world true m → StaticCallUse world m
  static_call_use m there =
      let is = referred m there.0 true there.1 in
      record { call = is.call; found = there.1.found; resolved = method_resolved world there.0 true m there.1 is.no_array; method = is.used }

  pub virtual_call_use : (m : MemberReference) → AMethodThere world false m → VirtualCallUse world m
  virtual_call_use m there =
      let is = referred m there.0 false there.1 in
      record {
        call = is.call;
        found = there.1.found;
        resolved = method_resolved world there.0 false m there.1 is.no_array;
        selects = λ own stands.
            selects_of world linked m own there.1.found (chain world (class_of_type own)) is.used (stands_above world linked own m.class there.1.found.class stands is.above)
            (λ name on. own_above world linked own name (is_object world linked own m.class stands) (chain_above _ world (class_of_type own) name on));
      }

  pub interface_call_use : (m : MemberReference) → AMethodThere world false m → InterfaceCallUse world m
  interface_call_use m there =
      let is = referred m there.0 false there.1 in
      record {
        call = is.call;
        found = there.1.found;
        resolved = method_resolved world there.0 false m there.1 is.no_array;
        selects = λ own object sub.
            (let named : class_with_methods m.class ≡ m.class = ap (λ (b : Bool). cond b java_object m.class) is.no_array in
            let below : is_sub world (class_of_type own) m.class ≡ true = ap (is_sub world (class_of_type own)) (sym named) ∙ sub in
            let way = up_to world (class_of_type own) m.class there.1.found.class (sub_is_above world (class_of_type own) m.class below) is.above in
            selects_of world linked m own there.1.found (chain world (class_of_type own)) is.used (own_above world linked own there.1.found.class object way)
            (λ name on. own_above world linked own name object (chain_above _ world (class_of_type own) name on)));
      }

  -- ---- `invokespecial`

  -- a class's own name is at it, and that of its superclass above it
  own_or_super : (e : Environment) (name : List ℕ) → class_in world e.class.name ≡ Some e.class → is_own_or_super e name ≡ true → IsAtOrAbove world e.class.name name
  own_or_super e name there h = elim (or_cases (bytes_eq name e.class.name) (list_any (bytes_eq name) (option_to_list e.class.superclass)) h) [
    | inl own ↦ inl (same_text name e.class.name own)
    | inr upper ↦
        let names : superclass_of world e.class.name ≡ option_to_list e.class.superclass =
        ap (λ (o : Option Class). flat_map (λ (c : Class). option_to_list c.superclass) (option_to_list o)) there ∙ append-nil (option_to_list e.class.superclass) in
        inr (directly e.class.name name (has_left (superclass_of world e.class.name) (interfaces_of world e.class.name) name
        (subst (λ (x : List (List ℕ)). IsTrue (has x name)) (sym names) upper)))
  ]

  -- on the way upwards, where it's an object of the current class
  upwards : (e : Environment) (m : MemberReference) (found : Found Method) → IsReferred m false found → (own : FieldType)
      → may_stand world own (class_type found.class) ≡ true → may_stand world own (class_type e.class.name) ≡ true
      → Selects world m own (selected_from world found m (classes_above world e.class.name))
  upwards e m found is own stands mine =
      selects_of world linked m own found (classes_above world e.class.name) is.used stands
      (λ name on. stands_above world linked own e.class.name name mine (above_class world linked e.class.name name on))

  either : (e : Environment) (m : MemberReference) (found : Found Method) → IsReferred m false found → (own : FieldType)
      → may_stand world own (class_type found.class) ≡ true → may_stand world own (class_type e.class.name) ≡ true
      → Selects world m own (specially_selected world e.class.name found m)
  either e m found is own stands mine = by (not (is_constructor_name m.name) && list_any (bytes_eq found.class) (classes_above world e.class.name))
    where
      by : (b : Bool) → Selects world m own (cond b (selected_from world found m (classes_above world e.class.name)) (Some found))
      by true = upwards e m found is own stands mine
      by false = (is.used, stands)

  special : (e : Environment) (m : MemberReference) (found : Found Method) → IsReferred m false found → class_in world e.class.name ≡ Some e.class
      → (own : FieldType) → IsReceived world e m own → Selects world m own (specially_selected world e.class.name found m)
  special e m found is there_is own (inl (stands, inl constructor)) =
      subst (λ (b : Bool). Selects world m own (cond (not b && list_any (bytes_eq found.class) (classes_above world e.class.name))
      (selected_from world found m (classes_above world e.class.name)) (Some found))) (sym constructor)
      (is.used, stands_above world linked own m.class found.class stands is.above)
  special e m found is there_is own (inl (stands, inr mine)) = either e m found is own (stands_above world linked own m.class found.class stands is.above) mine
  special e m found is there_is own (inr (super, mine)) =
      either e m found is own
      (stands_above world linked own e.class.name found.class mine (up_to world e.class.name m.class found.class (own_or_super e m.class there_is super) is.above)) mine

  pub special_call_use : (e : Environment) (m : MemberReference) → class_in world e.class.name ≡ Some e.class → AMethodThere world false m → SpecialCallUse world e m
  special_call_use e m there_is there =
      let is = referred m there.0 false there.1 in
      let found = there.1.found in
      record {
        call = is.call;
        found = found;
        resolved = method_resolved world there.0 false m there.1 is.no_array;
        selects = λ own received. special e m found is there_is own received;
      }
