-- Which of the entries that a class uses name nothing, or something of the wrong kind (JVMS 4.9.1, 5.4.3).
use Rattle.std.specs.Prelude.{ℕ, List, Bool, true, ◌&&◌, ◌||◌, not, if◌then◌else◌, Option, option_map, option_to_list, codes, bytes_eq, map, filter}
use Rattle.std.specs.Bool.{beq}
use Rattle.std.specs.List.{list_all}
use Rattle.jv_model.specs.Partial.{passes, least}
use Rattle.jv_model.specs.Refusal.{Cause, unresolved}
use Rattle.jv_model.specs.ClassData.{ClassData}
use Rattle.jv_model.specs.ConstantPool.{units_at, names, interface_methodref_tag}
use Rattle.jv_model.specs.Descriptors.{FieldType, class_type, array_of, MethodType}
use Rattle.jv_model.specs.Operand.{MemberReference, is_array_name}
use Rattle.jv_model.specs.LoadedClass.{LoadedClass}
use Rattle.world_model.specs.World.{has_flag, acc_interface, acc_abstract, Field, Method, Class, World, class_in, is_static_field, is_static_method, is_interface}
use Rattle.world_model.specs.BootNames.{java_object, java_thread, is_constructor_name}
use Rattle.world_model.specs.LookUp.{Found, find_field, find_method}
use Rattle.code_model.specs.TypeReading.{field_type_of, method_type_of}
use Rattle.code_model.specs.Names.{class_name_at, member_at}
use Rattle.link_model.specs.WorldOf.{name_of}
use Rattle.link_model.specs.Uses.{Use, as_superclass, as_interface, as_field_descriptor, as_method_descriptor, as_field, as_method, as_new, as_type, Used, uses_of}

-- ---- types

-- the class of that name is there and passes
abbrev pub is_class_where : World → (Class → Bool) → List ℕ → Bool
is_class_where world test name = passes test (class_in world name)

-- its class, or the class in it, is there
unfoldable pub is_type_there : World → FieldType → Bool
is_type_there world (class_type name) = is_class_where world (λ class. true) name
is_type_there world (array_of component) = is_type_there world component
is_type_there world other = true

abbrev pub are_types_there : World → MethodType → Bool
are_types_there world type =
    list_all (is_type_there world) type.parameters && list_all (is_type_there world) (option_to_list type.result)

-- a class that passes, or an array type whose classes are there
abbrev pub names_type : World → (Class → Bool) → List ℕ → Bool
names_type world test name =
    if is_array_name name then passes (is_type_there world) (field_type_of name) else is_class_where world test name

-- an interface has java/lang/Object as its superclass, and any other class has a class
abbrev pub fits_superclass : ClassData → Class → Bool
fits_superclass file class =
    if has_flag acc_interface file.flags then bytes_eq class.name java_object
    else not (is_interface class)

abbrev pub can_be_new : Class → Bool
can_be_new class = not (is_interface class) && not (has_flag acc_abstract class.flags)

-- ---- members

-- static as asked, and an instance field isn't one of an interface
abbrev pub fits_field : World → Bool → Found Field → Bool
fits_field world is_static found =
    beq (is_static_field found.member) is_static && (is_static || not (is_class_where world is_interface found.class))

abbrev pub resolves_field : World → Bool → MemberReference → Bool
resolves_field world is_static reference =
    passes (fits_field world is_static) (find_field world reference.class reference.name reference.descriptor)

-- the method of Thread that no reference to Thread itself means
abbrev pub is_run_of_thread : MemberReference → Bool
is_run_of_thread reference =
    bytes_eq reference.class java_thread && bytes_eq reference.name (codes "run")
    && bytes_eq reference.descriptor (codes "()V")

-- static as asked, and a constructor is the named class's own
abbrev pub fits_method : Bool → MemberReference → Found Method → Bool
fits_method is_static reference found =
    beq (is_static_method found.member) is_static
    && (not (is_constructor_name reference.name) || bytes_eq found.class reference.class)

-- the reference is of the kind that its class is of, and what it names is there and fits
abbrev pub resolves_method : World → Bool → Bool → MemberReference → Bool
resolves_method world of_interface is_static reference =
    is_class_where world (λ class. beq (is_interface class) of_interface) reference.class
    && not (is_run_of_thread reference)
    && passes (fits_method is_static reference) (find_method world reference.class reference.name reference.descriptor)

-- ---- entries

-- the entry at an index names what its use wants
unfoldable pub resolves : World → ClassData → ℕ → Use → Bool
resolves world file index as_superclass = is_class_where world (fits_superclass file) (class_name_at file.pool index)
resolves world file index as_interface = is_class_where world is_interface (class_name_at file.pool index)
resolves world file index as_field_descriptor = passes (is_type_there world) (field_type_of (units_at file.pool index))
resolves world file index as_method_descriptor =
    passes (are_types_there world) (method_type_of (units_at file.pool index))
resolves world file index (as_field is_static) = resolves_field world is_static (member_at file.pool index)
resolves world file index (as_method is_static) =
    resolves_method world (names file.pool interface_methodref_tag index) is_static (member_at file.pool index)
resolves world file index as_new = names_type world can_be_new (class_name_at file.pool index)
resolves world file index as_type = names_type world (λ class. true) (class_name_at file.pool index)

abbrev pub wrong_uses : World → LoadedClass → List Used
wrong_uses world loaded = filter (λ (u : Used). not (resolves world loaded.file u.index u.use_as)) (uses_of loaded)

-- the least index of an entry of which some use is wrong
abbrev pub use_fault : World → LoadedClass → Option Cause
use_fault world loaded =
    option_map (unresolved (name_of loaded)) (least (map (λ (u : Used). u.index) (wrong_uses world loaded)))
