-- Fields, methods and classes that code refers to are there, with their types (JVMS 5.4.3).
use Rattle.std.proofs.Common.{◌≡◌, ℕ, Bool, true, false, List, ◌∷◌, Option, Some, None, refl, sym, ap, subst, ◌∙◌, inl, inr}
use Rattle.std.specs.Prelude.{IsTrue}
use Rattle.jv_model.specs.Partial.{passes}
use Rattle.jv_model.specs.ClassData.{Const, ClassData, integer, long, string, fieldref, methodref, interface_methodref}
use Rattle.jv_model.specs.ConstantPool.{const_at}
use Rattle.jv_model.specs.Operand.{MemberReference, is_array_name}
use Rattle.world_model.specs.World.{Class, World, class_in, declared_field, declared_method}
use Rattle.world_model.specs.LookUp.{member_in}
use Rattle.code_model.specs.TypeReading.{field_type_of}
use Rattle.code_model.specs.Names.{name_of_class, class_name_at, member_by, member_at, operand_by, operand_at}
use Rattle.link_model.specs.Uses.{as_field, as_method, as_new, as_type}
use Rattle.link_model.specs.UseFaults.{is_class_where, names_type, can_be_new, is_type_there, resolves}
use Rattle.link_laws.specs.Above.{has, is_there, IsAtOrAbove}
use Rattle.link_laws.specs.FirstFound.{declared_in}
use Rattle.link_laws.proofs.Above.{first_step, below_is_there}
use Rattle.link_laws.proofs.Lists.{passes_some, some_passes}
use Rattle.link_laws.proofs.LookUps.{find_field_is_first, find_method_is_first}
use Rattle.link_laws.proofs.Names.{has_head, has_right}
use Rattle.link_laws.proofs.Orders.{sub_is_above}
use Rattle.link_laws.proofs.UsedMembers.{FieldThere, MethodThere, field_entry_there, method_entry_there}
use Rattle.linked_laws.specs.Operands.{IsLinkedField, IsLinkedMethod, FieldIsLinked, MethodIsLinked, ClassIsLinked}
use Rattle.linked_laws.specs.Worlds.{IsLinkedWorld}
use Rattle.linked_laws.proofs.Types.{field_declared, method_declared}

-- ---- classes

-- A class that declares a member is there.
pub declaring : {A : Type 0} (declared : Class → Option A) (world : World) (name : List ℕ) (member : A) → declared_in declared world name ≡ Some member
    → (class : Class) × (class_in world name ≡ Some class) × (declared class ≡ Some member)
declaring {A} declared world name member e = by (class_in world name) refl
  where
    by : (found : Option Class) → class_in world name ≡ found → (class : Class) × (class_in world name ≡ Some class) × (declared class ≡ Some member)
    by None is = absurd (let fails = sym e ∙ ap (member_in declared) is in cc)
    by (Some c) is = (c, is, sym (ap (member_in declared) is) ∙ e)

-- what something is above is there, where that is
at_or_below_there : (world : World) (below above : List ℕ) → IsAtOrAbove world below above → IsTrue (is_there world above) → IsTrue (is_there world below)
at_or_below_there world below above way there = elim way [
  | inl same ↦ ap (is_there world) (sym same) ∙ there
  | inr upwards ↦ below_is_there world below _ (first_step world below above upwards).1
]

-- ---- references

module _ (world : World) (linked : IsLinkedWorld world) where
  pub field_linked : (is_static : Bool) (reference : MemberReference) → FieldThere world is_static reference → IsLinkedField world reference
  field_linked is_static reference there =
      let first = (find_field_is_first world reference.class reference.name reference.descriptor there.found).0 there.is in
      let owner = declaring (declared_field reference.name reference.descriptor) world there.found.class there.found.member first.declares in
      let way = sub_is_above world reference.class there.found.class
      (subst (λ (names : List (List ℕ)). IsTrue (has names there.found.class)) (sym first.are)
      (has_right first.front (there.found.class ∷ first.rest) there.found.class (has_head there.found.class first.rest))) in
      record {
        class_there = at_or_below_there world reference.class there.found.class way (some_passes _ (class_in world there.found.class) owner.0 owner.1 refl);
        type_there = field_declared world linked there.found.class owner.0 reference.name reference.descriptor there.found.member owner.1 owner.2;
      }

  pub method_linked : (of_interface is_static : Bool) (reference : MemberReference) → MethodThere world of_interface is_static reference → IsLinkedMethod world reference
  method_linked of_interface is_static reference there =
      let first = (find_method_is_first world reference.class reference.name reference.descriptor there.found).0 there.is in
      let owner = declaring (declared_method reference.name reference.descriptor) world there.found.class there.found.member first.declares in
      record {
        class_there = some_passes _ (class_in world reference.class) there.class there.class_there refl;
        types_there = method_declared world linked there.found.class owner.0 reference.name reference.descriptor there.found.member owner.1 owner.2;
      }

-- ---- entries

-- an entry names a member as the operand that it is does
field_operand : (world : World) (pool : List Const) (entry : Const) → IsLinkedField world (member_by pool entry) → FieldIsLinked world (operand_by pool entry)
field_operand world pool (fieldref owner pair) is = is
field_operand world pool (methodref owner pair) is = is
field_operand world pool (interface_methodref owner pair) is = is
field_operand world pool other is = tt

method_operand : (world : World) (pool : List Const) (entry : Const) → IsLinkedMethod world (member_by pool entry) → MethodIsLinked world (operand_by pool entry)
method_operand world pool (fieldref owner pair) is = is
method_operand world pool (methodref owner pair) is = is
method_operand world pool (interface_methodref owner pair) is = is
method_operand world pool other is = tt

class_operand : (world : World) (pool : List Const) (entry : Const) → names_type world (λ (c : Class). true) (name_of_class pool entry) ≡ true
    → ClassIsLinked world (operand_by pool entry)
class_operand world pool (integer value) is = tt
class_operand world pool (long value) is = tt
class_operand world pool (string text) is = tt
class_operand world pool (fieldref owner pair) is = tt
class_operand world pool (methodref owner pair) is = tt
class_operand world pool (interface_methodref owner pair) is = tt
class_operand world pool other is = is

-- a class that passes is there
names_any : (world : World) (test : Class → Bool) (name : List ℕ) → IsTrue (names_type world test name) → names_type world (λ (c : Class). true) name ≡ true
names_any world test name h = by (is_array_name name) refl
  where
    by : (array : Bool) → is_array_name name ≡ array → names_type world (λ (c : Class). true) name ≡ true
    by true is = let there : passes (is_type_there world) (field_type_of name) ≡ true = rw is at h in rw is there
    by false is =
        let there : is_class_where world test name ≡ true = rw is at h in
        let found = passes_some test (class_in world name) there in
        rw is (some_passes (λ (c : Class). true) (class_in world name) found.0 found.1 refl)

module _ (world : World) (linked : IsLinkedWorld world) (file : ClassData) (index : ℕ) where
  pub field_entry : (is_static : Bool) → IsTrue (resolves world file index (as_field is_static)) → FieldIsLinked world (operand_at file.pool index)
  unfolding operand_at
  field_entry is_static h =
      field_operand world file.pool (const_at file.pool index)
      (field_linked world linked is_static (member_at file.pool index) (field_entry_there world file index is_static h))

  pub method_entry : (is_static : Bool) → IsTrue (resolves world file index (as_method is_static)) → MethodIsLinked world (operand_at file.pool index)
  unfolding operand_at
  method_entry is_static h =
      method_operand world file.pool (const_at file.pool index)
      (method_linked world linked _ is_static (member_at file.pool index) (method_entry_there world file index is_static h))

  pub new_entry : IsTrue (resolves world file index as_new) → ClassIsLinked world (operand_at file.pool index)
  unfolding operand_at resolves
  new_entry h = class_operand world file.pool (const_at file.pool index) (names_any world can_be_new (class_name_at file.pool index) h)

  pub type_entry : IsTrue (resolves world file index as_type) → ClassIsLinked world (operand_at file.pool index)
  unfolding operand_at resolves
  type_entry h = class_operand world file.pool (const_at file.pool index) h
