-- Which uses of the definitions the uses of entries are.
use Rattle.std.specs.Prelude.{◌≡◌, ℕ, List, Option, map, flat_map, option_to_list}
use Rattle.jv_model.specs.Partial.{least}
use Rattle.jv_model.specs.ClassData.{Const}
use Rattle.jv_model.specs.Code.{Body}
use Rattle.link_model.specs.Uses as model
use Rattle.class_faults.specs.declared.uses.Use.{Use}
use Rattle.class_faults.specs.declared.uses.Use.TheVariants.{Superclass, Interface, FieldDescriptor, MethodDescriptor, Field, Method, New, ReferenceType}
use Rattle.class_faults.specs.declared.uses.Used.{Used}

abbrev pub use_of : Use → model.Use
use_of Superclass = model.as_superclass
use_of Interface = model.as_interface
use_of FieldDescriptor = model.as_field_descriptor
use_of MethodDescriptor = model.as_method_descriptor
use_of (Field is_static) = model.as_field is_static
use_of (Method is_static) = model.as_method is_static
use_of New = model.as_new
use_of ReferenceType = model.as_type

abbrev pub used_of : Used → model.Used
used_of used = model.used (use_of used.use_as) used.index

abbrev pub uses_in : List Used → List model.Used
uses_in uses = map used_of uses

-- what the code of a method uses, where it has code
abbrev pub method_uses : List Const → Option (Body ℕ) → List model.Used
method_uses pool code = flat_map (model.code_uses pool) (option_to_list code)

-- the least number that one of some items has is that of others, whatever they have
abbrev pub HaveOneLeast : {A : Type 0} → List A → List A → Type 0
HaveOneLeast {A} some all = (has : A → List ℕ) → least (flat_map has some) ≡ least (flat_map has all)
