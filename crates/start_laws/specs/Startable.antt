-- What is asked of a program so that its start conforms (JVMS 5.2, 5.5).
use Rattle.std.specs.Prelude.{◌≡◌, ◌≤◌, [], Bool, true, None, bytes_eq, codes, filter, flat_map}
use Rattle.std.specs.List.{list_all}
use Rattle.world_model.specs.World.{World, Class, Field, is_static_field}
use Rattle.world_model.specs.Layout.{layout}
use Rattle.machine_model.specs.Machine.{Program}
use Rattle.machine_model.specs.TypedValues.{HeapTyping, is_declared}
use Rattle.machine_model.specs.Conforms.{can_begin, is_present}
use Rattle.machine_model.specs.Start.{first_value, StringConstant, string_constants, first_methods}
use Rattle.machine_laws.specs.Runnable.{IsRunnable}

-- no object is in use
abbrev pub nothing_in_use : World → HeapTyping
nothing_in_use world = record { world = world; type_at = λ id. None }

-- a static field starts with a value of its descriptor, which names no object
abbrev pub starts_declared : World → Field → Bool
starts_declared world field = is_declared (nothing_in_use world) field.descriptor (first_value field field.constant)

-- a static field that starts with a string is a String's
abbrev pub is_for_string : StringConstant → Bool
is_for_string constant = bytes_eq constant.0.descriptor (codes "Ljava/lang/String;")

-- A program whose world's code runs; its main method and its classes' initializers can be begun; a static field starts
-- with a value of its descriptor, and is a String's where it starts with a string; the stream that prints has no field; and
-- there is room for the first two objects.
pub record IsStartable (program : Program) : Type 0 where
  pub runnable : IsRunnable program.world
  pub methods : list_all (can_begin program.world) (first_methods program) ≡ true
  pub statics : list_all (λ (c : Class). list_all (starts_declared program.world) (filter is_static_field c.fields)) program.world.classes ≡ true
  pub strings : list_all is_for_string (flat_map string_constants program.world.classes) ≡ true
  pub stream : is_present program.world (codes "java/io/PrintStream") ≡ true
  pub stream_fields : layout program.world (codes "java/io/PrintStream") ≡ []
  pub room : 16 ≤ program.half
