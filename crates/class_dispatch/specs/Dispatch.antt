-- Which method a call of a signature selects.
use Rattle.std.specs.Prelude.{◌≡◌, ℕ, List, Option, Some, length, slice_get, option_map, option_and_then}
use Rattle.jv_model.specs.Operand.{MemberReference}
use Rattle.world_model.specs.World.{World, Class}
use Rattle.world_model.specs.Supertypes.{chain}
use Rattle.world_model.specs.Selection.{select_in}
use Rattle.jv_types.specs.declared.number.ClassNo.{ClassNo}
use Rattle.jv_types.specs.declared.number.MethodNo.{MethodNo}
use Rattle.selection_table.specs.Selection.{Selection, selected_in}
use Rattle.class_world.specs.World.{method_at}
use Rattle.class_methods.specs.Signatures.{Numbers, signature_at, called_at}
use Rattle.class_dispatch.specs.Tables.{key_of}

abbrev pub Tables : Type 0
Tables = List Selection

-- what the table of a class has for a signature
abbrev pub selected_by : Tables → ClassNo → ℕ → Option MethodNo
selected_by tables class signature =
    option_and_then (λ (table : Selection). selected_in table (key_of signature)) (slice_get tables class.0)

pub record Selects (world : World) (signatures : Numbers) (tables : Tables) : Type 0 where
  -- There is a table for each class.
  pub count : length tables ≡ length world.classes
  -- For the signature of any method with the name and descriptor of a call it selects what the definitions select.
  pub each : (class : ClassNo) (c : Class) (m : MemberReference) (method : MethodNo) (signature : ℕ)
      → slice_get world.classes class.0 ≡ Some c → called_at world method ≡ Some (m.name, m.descriptor)
      → signature_at signatures method ≡ Some signature
      → option_map (method_at world) (selected_by tables class signature) ≡ option_map Some (select_in world m (chain world c.name))
