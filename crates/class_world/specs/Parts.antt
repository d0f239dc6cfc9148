-- What the classes of a world say, apart from where they lie.
use Rattle.std.specs.Prelude.{ℕ, List, Option, map}
use Rattle.world_model.specs.World as model
use Rattle.link_model.specs.WorldOf as linking
use Rattle.jv_model.specs.LoadedClass.{LoadedClass}
use Rattle.jv_types.specs.Boot.{NumberedClass, numbered_class_of, named_class_of}
use Rattle.jv_types.specs.Loaded.{loaded_of}
use Rattle.jv_types.specs.declared.number.ClassNo.{ClassNo}
use Rattle.class_world.specs.declared.class_info.ClassInfo.{ClassInfo}
use Rattle.class_world.specs.declared.class_info.Origin.{Origin}
use Rattle.class_world.specs.declared.class_info.Origin.TheVariants.{Boot, Program}

-- A boot class with its numbers, or a class as it was read.
pub data Source : Type 0 where
  of_boot : NumberedClass → Source
  of_program : LoadedClass → Source

abbrev pub source_of : Origin → Source
source_of (Boot class) = of_boot (numbered_class_of class)
source_of (Program loaded) = of_program (loaded_of loaded)

-- What a `ClassInfo` says.
pub record InfoParts : Type 0 where
  pub name : List ℕ
  pub superclass : Option ClassNo
  pub interfaces : List ClassNo
  pub source : Source

abbrev pub parts_of : ClassInfo → InfoParts
parts_of info = record {
  name = info.name.items;
  superclass = info.superclass;
  interfaces = info.interfaces.items;
  source = source_of info.origin;
}

abbrev pub class_of_source : List (List ℕ) → Source → model.Class
class_of_source names (of_boot class) = named_class_of names class
class_of_source names (of_program loaded) = linking.class_of loaded

abbrev pub names_of_parts : List InfoParts → List (List ℕ)
names_of_parts parts = map (λ (p : InfoParts). p.name) parts

abbrev pub world_of_parts : List InfoParts → model.World
world_of_parts parts =
    record { classes = map (λ (p : InfoParts). class_of_source (names_of_parts parts) p.source) parts }
