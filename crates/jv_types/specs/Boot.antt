-- Which classes of the definitions a list of boot classes is.
use Rattle.std.specs.Prelude.{ℕ, ◌+◌, List, [], Bool, if◌then◌else◌, Option, None, option_map, slice_get, unwrap_or, map}
use Rattle.world_model.specs.World as model
use Rattle.world_model.specs.World.{acc_static, acc_final, acc_native, acc_interface, acc_abstract}
use Rattle.jv_types.specs.declared.number.ClassNo.{ClassNo}
use Rattle.jv_types.specs.declared.boot.BootField.{BootField}
use Rattle.jv_types.specs.declared.boot.BootMethod.{BootMethod}
use Rattle.jv_types.specs.declared.boot.BootClass.{BootClass}

-- the flag, where the test holds
abbrev pub flag_if : Bool → ℕ → ℕ
flag_if test flag = if test then flag else 0

abbrev pub boot_field_of : BootField → model.Field
boot_field_of field = record {
  name = field.name.items;
  descriptor = field.descriptor.items;
  flags = flag_if field.is_static acc_static;
  constant = None;
}

abbrev pub boot_method_of : BootMethod → model.Method
boot_method_of method = record {
  name = method.name.items;
  descriptor = method.descriptor.items;
  flags = flag_if method.is_static acc_static + (if method.is_native then acc_native else acc_abstract);
  code = None;
}

-- A class whose supertypes are numbers.
pub record NumberedClass : Type 0 where
  pub name : List ℕ
  pub flags : ℕ
  pub superclass : Option ℕ
  pub interfaces : List ℕ
  pub fields : List model.Field
  pub methods : List model.Method

abbrev pub numbered_class_of : BootClass → NumberedClass
numbered_class_of class = record {
  name = class.name.items;
  flags = flag_if class.is_interface (acc_interface + acc_abstract) + flag_if class.is_final acc_final;
  superclass = option_map (λ (c : ClassNo). c.0) class.superclass;
  interfaces = map (λ (c : ClassNo). c.0) class.interfaces.items;
  fields = map boot_field_of class.fields.items;
  methods = map boot_method_of class.methods.items;
}

-- the name with that number
abbrev pub name_of_number : List (List ℕ) → ℕ → List ℕ
name_of_number names number = unwrap_or (slice_get names number) []

-- the class with names in place of numbers
abbrev pub named_class_of : List (List ℕ) → NumberedClass → model.Class
named_class_of names class = record {
  origin = model.boot;
  name = class.name;
  flags = class.flags;
  superclass = option_map (name_of_number names) class.superclass;
  interfaces = map (name_of_number names) class.interfaces;
  fields = class.fields;
  methods = class.methods;
  loaded = None;
}

abbrev pub named_classes_of : List NumberedClass → List model.Class
named_classes_of classes = map (named_class_of (map (λ (c : NumberedClass). c.name) classes)) classes

abbrev pub boot_classes_of : List BootClass → List model.Class
boot_classes_of classes = named_classes_of (map numbered_class_of classes)
