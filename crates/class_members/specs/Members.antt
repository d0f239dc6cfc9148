-- What is kept of the members of a class.
use Rattle.std.specs.Prelude.{ℕ, List, Bool, Option, map, find, option_map}
use Rattle.byteorder.specs.Endian.{big_number}
use Rattle.jv_model.specs.ClassData.{Const, Attr}
use Rattle.jv_model.specs.ConstantPool.{is_named}
use Rattle.jv_model.specs.Profile.{constant_value}
use Rattle.jv_model.specs.Instruction.{ValueKind, of_int, of_long, of_reference}
use Rattle.world_model.specs.World.{Field, Method, is_static_field}
use Rattle.link_model.specs.WorldOf.{field_of}
use Rattle.machine_model.specs.Value.{Value, kind_of}
use Rattle.machine_model.specs.Start.{first_value}
use Rattle.heap_face.specs.declared.layout.Cell.{Cell}
use Rattle.heap_face.specs.declared.layout.Cell.TheVariants.{Int, Long, Ref}
use Rattle.jv_values.specs.Values.{value_of}
use Rattle.jv_types.specs.Boot.{boot_field_of}
use Rattle.jv_types.specs.ClassData.{pool_of, members_of}
use Rattle.jv_types.specs.declared.boot.BootClass.{BootClass}
use Rattle.jv_types.specs.declared.loaded.Loaded.{Loaded}
use Rattle.class_members.specs.declared.field.FieldRow.{FieldRow}

-- ---- fields

abbrev pub fields_of_boot : BootClass → List Field
fields_of_boot class = map boot_field_of class.fields.items

abbrev pub fields_of_loaded : Loaded → List Field
fields_of_loaded loaded = map (field_of (pool_of loaded.file.pool.items)) (members_of loaded.file.fields.items)

-- the cells of these values
abbrev pub cell_of_kind : ValueKind → Cell
cell_of_kind of_int = Int
cell_of_kind of_long = Long
cell_of_kind of_reference = Ref

abbrev pub cell_of : List ℕ → Cell
cell_of descriptor = cell_of_kind (kind_of descriptor)

-- What is kept of a field.
pub record Kept : Type 0 where
  pub is_static : Bool
  pub cell : Cell
  pub first : Value

abbrev pub kept_of : FieldRow → Kept
kept_of row = record { is_static = row.is_static; cell = row.cell; first = value_of row.first }

abbrev pub field_kept : Field → Kept
field_kept field = record {
  is_static = is_static_field field;
  cell = cell_of field.descriptor;
  first = first_value field field.constant;
}

-- the index in the first ConstantValue among some attributes (JVMS 4.7.2)
abbrev pub constant_index : List Const → List Attr → Option ℕ
constant_index pool attributes =
    option_map (λ (a : Attr). big_number 2 a.bytes) (find (λ a. is_named pool constant_value a.name) attributes)
