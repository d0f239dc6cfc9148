-- What is kept of a field, of a boot class and of a class that was read.
use Rattle.std.proofs.Common.{◌≡◌, ℕ, Bool, true, false, not, ◌==◌, List, Option, Some, None, option_map, find, bit_and, if◌then◌else◌, ap, sym, ◌∙◌, refl}
use Rattle.byteorder.specs.Endian.{big_number}
use Rattle.jv_model.specs.ClassData.{Const, Attr}
use Rattle.jv_model.specs.ConstantPool.{is_named}
use Rattle.jv_model.specs.Profile.{constant_value}
use Rattle.jv_model.specs.Operand.{Operand}
use Rattle.code_model.specs.Names.{operand_at}
use Rattle.world_model.specs.World.{has_flag, acc_static, Field, is_static_field}
use Rattle.link_model.specs.WorldOf.{constant_in, field_of}
use Rattle.machine_model.specs.Value as model
use Rattle.machine_model.specs.Start.{first_value}
use Rattle.heap_face.specs.declared.layout.Cell.{Cell}
use Rattle.jv_values.specs.declared.value.Value.{Value}
use Rattle.jv_values.specs.Values.{value_of}
use Rattle.jv_types.specs.Boot.{boot_field_of, flag_if}
use Rattle.jv_types.specs.ClassData.{pool_of, member_of, attrs_of}
use Rattle.jv_types.specs.declared.boot.BootField.{BootField}
use Rattle.jv_types.specs.declared.class_data.Member.{Member}
use Rattle.class_members.specs.Members.{cell_of, kept_of, field_kept, constant_index}

static_boot : (b : Bool) → b ≡ has_flag acc_static (flag_if b acc_static)
static_boot true = refl
static_boot false = refl

pub kept-boot : (field : BootField) (cell : Cell) (first : Value) → cell ≡ cell_of field.descriptor.items
    → value_of first ≡ first_value (boot_field_of field) None
    → kept_of (record { is_static = field.is_static; cell = cell; first = first }) ≡ field_kept (boot_field_of field)
kept-boot field cell first is_cell is_first =
    λ i. record { is_static = static_boot field.is_static i; cell = is_cell i; first = is_first i }

-- what the index in a ConstantValue names
named_constant : (pool : List Const) (attributes : List Attr)
    → option_map (operand_at pool) (constant_index pool attributes) ≡ constant_in pool attributes
named_constant pool attributes = by (find (λ (a : Attr). is_named pool constant_value a.name) attributes)
  where
    by : (found : Option Attr)
        → option_map (operand_at pool) (option_map (λ (a : Attr). big_number 2 a.bytes) found)
        ≡ option_map (λ (a : Attr). operand_at pool (big_number 2 a.bytes)) found
    by None = refl
    by (Some attribute) = refl

pub kept-read : (pool : List Const) (field : Member) (is_static : Bool) (cell : Cell) (first : Value)
    → is_static ≡ has_flag acc_static field.flags → cell ≡ cell_of (field_of pool (member_of field)).descriptor
    → value_of first ≡ first_value (field_of pool (member_of field))
    (option_map (operand_at pool) (constant_index pool (attrs_of field.attributes.items)))
    → kept_of (record { is_static = is_static; cell = cell; first = first }) ≡ field_kept (field_of pool (member_of field))
kept-read pool field is_static cell first is_flag is_cell is_first =
    let constant = ap (first_value (field_of pool (member_of field))) (named_constant pool (attrs_of field.attributes.items)) in
    let named : value_of first ≡ first_value (field_of pool (member_of field)) (field_of pool (member_of field)).constant = is_first ∙ constant in
    λ i. record { is_static = is_flag i; cell = is_cell i; first = named i }
