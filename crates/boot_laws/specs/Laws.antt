-- What the machine asks of boot classes (JVMS 5.3), in the world of a program that stands on the boot table.
use Rattle.std.specs.Prelude.{◌≡◌, ℕ, IsTrue, List, [], true, false, bytes_eq, codes}
use Rattle.std.specs.List.{list_any}
use Rattle.jv_model.specs.LoadedClass.{LoadedClass}
use Rattle.world_model.specs.World.{World}
use Rattle.world_model.specs.BootNames.{java_string, java_throwable}
use Rattle.world_model.specs.BootTable.{boot_table}
use Rattle.world_model.specs.Layout.{layout}
use Rattle.link_model.specs.WorldOf.{world_of}
use Rattle.typing_model.specs.Assignable.{names_interface}
use Rattle.machine_model.specs.Conforms.{is_present}
use Rattle.machine_laws.specs.Runnable.{IsThrowable, thrown_names}

pub record BootClasses (world : World) : Type 0 where
  -- the classes of which the machine throws objects are throwable
  pub throwables : (name : List ℕ) → IsTrue (list_any (bytes_eq name) thrown_names) → IsThrowable world name
  pub throwable : IsThrowable world java_throwable
  pub throwable_class : names_interface world java_throwable ≡ false
  pub strings : is_present world java_string ≡ true
  -- the stream that prints is there, and has no fields
  pub stream : is_present world (codes "java/io/PrintStream") ≡ true
  pub stream_fields : layout world (codes "java/io/PrintStream") ≡ []

abbrev pub BootClassesHold : Type 0
BootClassesHold = (classes : List LoadedClass) → BootClasses (world_of boot_table classes)
