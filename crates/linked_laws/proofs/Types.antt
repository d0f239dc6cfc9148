-- The types of declared members are there (JVMS 4.3).
use Rattle.std.proofs.Common.{◌≡◌, ℕ, Bool, true, false, List, [], ◌∷◌, ◌++◌, Option, Some, refl, sym, ap, subst, ◌∙◌, map}
use Rattle.std.specs.Prelude.{IsTrue, ◌&&◌, not, find, option_to_list, flat_map, slice_get}
use Rattle.std.specs.List.{AllByRecursion, list_all}
use Rattle.std.proofs.lemmas.Bool.{and_parts, not-true}
use Rattle.jv_model.specs.Partial.{passes}
use Rattle.jv_model.specs.ClassData.{Const, Member}
use Rattle.jv_model.specs.ConstantPool.{units_at}
use Rattle.jv_model.specs.Code.{Body}
use Rattle.jv_model.specs.LoadedClass.{LoadedClass}
use Rattle.world_model.specs.World.{Field, Method, Class, World, class_in, is_stub, declared_field, declared_method}
use Rattle.world_model.specs.BootTable.{boot_table}
use Rattle.code_model.specs.TypeReading.{are_parts, before_semicolon, type_at, dimensions, parameters_within, field_type_of, method_type_of}
use Rattle.link_model.specs.WorldOf.{class_of, field_of, methods_of, world_of}
use Rattle.link_model.specs.Uses.{Used, used, as_interface, as_field_descriptor, as_method_descriptor, code_uses, uses_of}
use Rattle.link_model.specs.UseFaults.{is_type_there, are_types_there, resolves}
use Rattle.link_laws.specs.Linked.{UsesResolve}
use Rattle.link_laws.proofs.Lists.{all_left, all_right, all_of_map, all_weaker}
use Rattle.link_laws.proofs.Names.{same_text}
use Rattle.linked_laws.specs.Worlds.{IsLinkedWorld}
use Rattle.linked_laws.proofs.Lists.{all_pass, all_to_map, found_holds}
use Rattle.linked_laws.proofs.Classes.{IsOfProgram, is_linked, class_found, class_at}

abbrev pub is_field_there : World → List ℕ → Bool
is_field_there world descriptor = passes (is_type_there world) (field_type_of descriptor)

abbrev pub is_method_there : World → List ℕ → Bool
is_method_there world descriptor = passes (are_types_there world) (method_type_of descriptor)

-- A class of which the types of members are there; it's no old version of one.
pub record HasTypes (world : World) (class : Class) : Type 0 where
  pub fresh : is_stub class ≡ false
  pub fields : AllByRecursion (λ (f : Field). is_field_there world f.descriptor ≡ true) class.fields
  pub methods : AllByRecursion (λ (m : Method). is_method_there world m.descriptor ≡ true) class.methods

-- ---- boot classes

abbrev has_types : World → Class → Bool
has_types world class =
    not (is_stub class) && list_all (λ (f : Field). is_field_there world f.descriptor) class.fields
    && list_all (λ (m : Method). is_method_there world m.descriptor) class.methods

boot_types : (classes : List LoadedClass) → list_all (has_types (world_of boot_table classes)) boot_table ≡ true
unfolding boot_table is_type_there are_parts before_semicolon type_at dimensions parameters_within
boot_types classes = refl

types_of_class : (world : World) (class : Class) → has_types world class ≡ true → HasTypes world class
types_of_class world class is =
    let fields = list_all (λ (f : Field). is_field_there world f.descriptor) class.fields in
    let methods = list_all (λ (m : Method). is_method_there world m.descriptor) class.methods in
    let outer = and_parts (not (is_stub class) && fields) methods is in
    let inner = and_parts (not (is_stub class)) fields outer.0 in
    record {
      fresh = not-true (is_stub class) inner.0;
      fields = all_pass _ class.fields inner.1;
      methods = all_pass _ class.methods outer.1;
    }

-- ---- classes of a program

-- a use, which resolves
abbrev Resolves : World → LoadedClass → Used → Type 0
Resolves world loaded u = IsTrue (resolves world loaded.file u.index u.use_as)

-- the uses of a class apart
abbrev interface_list : LoadedClass → List Used
interface_list loaded = map (used as_interface) loaded.file.interfaces

abbrev field_list : LoadedClass → List Used
field_list loaded = map (λ (m : Member). used as_field_descriptor m.descriptor) loaded.file.fields

abbrev method_list : LoadedClass → List Used
method_list loaded = map (λ (m : Member). used as_method_descriptor m.descriptor) loaded.file.methods

abbrev code_list : LoadedClass → List Used
code_list loaded = flat_map (code_uses loaded.file.pool) (flat_map option_to_list loaded.codes)

module _ (P : Used → Type 0) (loaded : LoadedClass) (all : AllByRecursion P (uses_of loaded)) where
  pub interfaces_in : AllByRecursion P (interface_list loaded)
  unfolding uses_of
  interfaces_in =
      all_left P (interface_list loaded) (field_list loaded)
      (all_left P (interface_list loaded ++ field_list loaded) (method_list loaded)
      (all_left P (interface_list loaded ++ field_list loaded ++ method_list loaded) (code_list loaded) all.1))

  pub fields_in : AllByRecursion P (field_list loaded)
  unfolding uses_of
  fields_in =
      all_right P (interface_list loaded) (field_list loaded)
      (all_left P (interface_list loaded ++ field_list loaded) (method_list loaded)
      (all_left P (interface_list loaded ++ field_list loaded ++ method_list loaded) (code_list loaded) all.1))

  pub methods_in : AllByRecursion P (method_list loaded)
  unfolding uses_of
  methods_in =
      all_right P (interface_list loaded ++ field_list loaded) (method_list loaded)
      (all_left P (interface_list loaded ++ field_list loaded ++ method_list loaded) (code_list loaded) all.1)

-- what holds of the descriptors of members holds of those of methods
pub kept_by_methods : (Q : List ℕ → Type 0) (pool : List Const) (members : List Member) (bodies : List (Option (Body ℕ)))
    → AllByRecursion (λ (m : Member). Q (units_at pool m.descriptor)) members
    → AllByRecursion (λ (m : Method). Q m.descriptor) (methods_of pool members bodies)
unfolding methods_of
kept_by_methods Q pool [] bodies all = tt
kept_by_methods Q pool (m ∷ members) [] all = (all.0, kept_by_methods Q pool members [] all.1)
kept_by_methods Q pool (m ∷ members) (body ∷ bodies) all = (all.0, kept_by_methods Q pool members bodies all.1)

field_resolves : (world : World) (loaded : LoadedClass) (index : ℕ) → IsTrue (resolves world loaded.file index as_field_descriptor)
    → is_field_there world (units_at loaded.file.pool index) ≡ true
unfolding resolves
field_resolves world loaded index h = h

method_resolves : (world : World) (loaded : LoadedClass) (index : ℕ) → IsTrue (resolves world loaded.file index as_method_descriptor)
    → is_method_there world (units_at loaded.file.pool index) ≡ true
unfolding resolves
method_resolves world loaded index h = h

pub program_types : (world : World) (loaded : LoadedClass) → UsesResolve world loaded → HasTypes world (class_of loaded)
program_types world loaded uses =
    let pool = loaded.file.pool in
    record {
      fresh = refl;
      fields = all_to_map (λ (f : Field). is_field_there world f.descriptor ≡ true) (field_of pool) loaded.file.fields
          (all_weaker _ _ loaded.file.fields (λ m h. field_resolves world loaded m.descriptor h)
          (all_of_map (Resolves world loaded) (λ (m : Member). used as_field_descriptor m.descriptor) loaded.file.fields
          (fields_in (Resolves world loaded) loaded uses)));
      methods = kept_by_methods (λ d. is_method_there world d ≡ true) pool loaded.file.methods loaded.codes
          (all_weaker _ _ loaded.file.methods (λ m h. method_resolves world loaded m.descriptor h)
          (all_of_map (Resolves world loaded) (λ (m : Member). used as_method_descriptor m.descriptor) loaded.file.methods
          (methods_in (Resolves world loaded) loaded uses)));
    }

-- ---- classes of a linked world

module _ (world : World) (linked : IsLinkedWorld world) where
  boot_all : AllByRecursion (HasTypes world) boot_table
  boot_all =
      subst (λ (w : World). AllByRecursion (HasTypes w) boot_table) (sym (is_linked world linked).is)
      (all_weaker _ _ boot_table (λ c h. types_of_class (world_of boot_table linked.classes) c h)
      (all_pass (has_types (world_of boot_table linked.classes)) boot_table (boot_types linked.classes)))

  user : (l : LoadedClass) → IsOfProgram world l → HasTypes world (class_of l)
  user l is = program_types world l is.uses

  pub types_at : (n : ℕ) (class : Class) → slice_get world.classes n ≡ Some class → HasTypes world class
  types_at n class is = class_at world linked (HasTypes world) boot_all user n class is

  pub types_found : (name : List ℕ) (class : Class) → class_in world name ≡ Some class → HasTypes world class
  types_found name class is = (class_found world linked (HasTypes world) boot_all user name class is).1

  -- a declared member's type is there
  pub field_declared : (name : List ℕ) (class : Class) (field descriptor : List ℕ) (member : Field) → class_in world name ≡ Some class
      → declared_field field descriptor class ≡ Some member → is_field_there world descriptor ≡ true
  field_declared name class field descriptor member is declared =
      let types = types_found name class is in
      let plain : find _ class.fields ≡ Some member = rw types.fresh at declared in
      let found = found_holds (λ (f : Field). is_field_there world f.descriptor ≡ true) _ class.fields member types.fields plain in
      let same = and_parts _ _ found.0 in
      ap (is_field_there world) (sym (same_text member.descriptor descriptor same.1)) ∙ found.1

  pub method_declared : (name : List ℕ) (class : Class) (method descriptor : List ℕ) (member : Method) → class_in world name ≡ Some class
      → declared_method method descriptor class ≡ Some member → is_method_there world descriptor ≡ true
  method_declared name class method descriptor member is declared =
      let types = types_found name class is in
      let found = found_holds (λ (m : Method). is_method_there world m.descriptor ≡ true) _ class.methods member types.methods declared in
      let same = and_parts _ _ found.0 in
      ap (is_method_there world) (sym (same_text member.descriptor descriptor same.1)) ∙ found.1
