-- Tables with a row for each class of a world.
use Rattle.std.specs.Prelude.{List, map}
use Rattle.world_model.specs.World.{World, Class, Field}
use Rattle.world_model.specs.Supertypes.{chain}
use Rattle.jv_types.specs.declared.number.ClassNo.{ClassNo}
use Rattle.class_world.specs.World.{numbers_of}
use Rattle.class_world.specs.declared.class_info.Origin.{Origin}
use Rattle.class_world.specs.declared.class_info.Origin.TheVariants.{Boot, Program}
use Rattle.class_members.specs.Members.{Kept, field_kept, fields_of_boot, fields_of_loaded}

-- the class, its superclass, and so on upwards
abbrev pub chains_of : World → List (List ClassNo)
chains_of world = map (λ (c : Class). numbers_of world (chain world c.name)) world.classes

-- the fields of a class, by where it comes from
abbrev pub fields_in : Origin → List Field
fields_in (Boot class) = fields_of_boot class
fields_in (Program loaded) = fields_of_loaded loaded

-- what is kept of its fields
abbrev pub fields_kept : World → List (List Kept)
fields_kept world = map (λ (c : Class). map field_kept c.fields) world.classes
