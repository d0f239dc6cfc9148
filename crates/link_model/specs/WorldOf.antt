-- The world of some boot classes and some classes that were read (JVMS 5.3): what indices name stands in their place.
use Rattle.std.specs.Prelude.{ℕ, List, [], ◌∷◌, ◌++◌, Option, Some, None, option_map, find, map}
use Rattle.byteorder.specs.Endian.{big_number}
use Rattle.jv_model.specs.ClassData.{Const, Attr, Member}
use Rattle.jv_model.specs.ConstantPool.{units_at, is_named}
use Rattle.jv_model.specs.Profile.{constant_value}
use Rattle.jv_model.specs.Operand.{Operand}
use Rattle.jv_model.specs.Code.{Body}
use Rattle.jv_model.specs.LoadedClass.{LoadedClass}
use Rattle.world_model.specs.World.{Field, Method, Class, user, World}
use Rattle.code_model.specs.Names.{class_name_at, operand_at, named}

-- the value that the first ConstantValue among some attributes names (JVMS 4.7.2)
abbrev pub constant_in : List Const → List Attr → Option Operand
constant_in pool attributes =
    option_map (λ (a : Attr). operand_at pool (big_number 2 a.bytes))
    (find (λ a. is_named pool constant_value a.name) attributes)

abbrev pub field_of : List Const → Member → Field
field_of pool member = record {
  name = units_at pool member.name;
  descriptor = units_at pool member.descriptor;
  flags = member.flags;
  constant = constant_in pool member.attributes;
}

abbrev pub method_of : List Const → Member → Option (Body ℕ) → Method
method_of pool member body = record {
  name = units_at pool member.name;
  descriptor = units_at pool member.descriptor;
  flags = member.flags;
  code = option_map (named pool (units_at pool member.descriptor)) body;
}

-- each method with its code
unfoldable pub methods_of : List Const → List Member → List (Option (Body ℕ)) → List Method
methods_of pool [] bodies = []
methods_of pool (member ∷ members) [] = method_of pool member None ∷ methods_of pool members []
methods_of pool (member ∷ members) (body ∷ bodies) = method_of pool member body ∷ methods_of pool members bodies

abbrev pub name_of : LoadedClass → List ℕ
name_of loaded = class_name_at loaded.file.pool loaded.file.this_class

abbrev pub class_of : LoadedClass → Class
class_of loaded = record {
  origin = user;
  name = name_of loaded;
  flags = loaded.file.flags;
  superclass = Some (class_name_at loaded.file.pool loaded.file.super_class);
  interfaces = map (class_name_at loaded.file.pool) loaded.file.interfaces;
  fields = map (field_of loaded.file.pool) loaded.file.fields;
  methods = methods_of loaded.file.pool loaded.file.methods loaded.codes;
  loaded = Some loaded;
}

abbrev pub world_of : List Class → List LoadedClass → World
world_of boot_classes classes = record { classes = boot_classes ++ map class_of classes }
