-- The types of objects (JVMS 4.3.2), and whether an object is of a type, as checkcast, instanceof and aastore ask
-- (JVMS 6.5).
use Rattle.std.specs.Prelude.{Bool}
use Rattle.jv_model.specs.Descriptors.{FieldType, class_type, array_of}
use Rattle.world_model.specs.World.{World}
use Rattle.world_model.specs.BootNames.{java_string}
use Rattle.typing_model.specs.Assignable.{is_subtype}
use Rattle.machine_model.specs.Heap.{Contents, instance, array, string}

abbrev pub own_type : Contents → FieldType
own_type (instance name values) = class_type name
own_type (array type elements) = array_of type
own_type (string units) = class_type java_string

abbrev pub is_instance_of : World → FieldType → Contents → Bool
is_instance_of world type contents = is_subtype world (own_type contents) type
