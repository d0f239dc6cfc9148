-- The formats of instructions: what stands behind an opcode (JVMS 6.5).
use Rattle.std.specs.Prelude.{ℕ, Bool, if◌then◌else◌, ◌==◌, Option, Some, None}
use Rattle.std.specs.Int.{Width, w8, w16, w32}
use Rattle.jv_model.specs.Instruction.{Instruction, PrimitiveType, booleans_of, chars_of, bytes_of, shorts_of, ints_of, longs_of, Comparison, if_zero, if_ints, if_references, if_null, goto}
use Rattle.code_model.specs.Entries.{EntryKind}

-- The instructions with one target.
pub data Branch : Type 0 where
  -- `ifeq` .. `ifle`
  on_zero : Comparison → Branch
  -- `if_icmpeq` .. `if_icmple`
  on_ints : Comparison → Branch
  -- `if_acmpeq` (true), `if_acmpne`
  on_references : Bool → Branch
  -- `ifnull` (true), `ifnonnull`
  on_null : Bool → Branch
  -- `goto`, `goto_w`
  always : Branch

abbrev pub branch_to : Branch → ℕ → Instruction ℕ
branch_to (on_zero comparison) target = if_zero comparison target
branch_to (on_ints comparison) target = if_ints comparison target
branch_to (on_references equal) target = if_references equal target
branch_to (on_null equal) target = if_null equal target
branch_to always target = goto target

-- What stands behind an opcode, and the instruction that it makes of it.
pub data Format : Type 0 where
  -- nothing
  alone : Instruction ℕ → Format
  -- a signed number of one byte (`bipush`) or of two (`sipush`), which is pushed
  byte_constant : Format
  short_constant : Format
  -- the index of what is pushed, of one byte (`ldc`) or of two (`ldc_w`)
  loadable_index : Format
  wide_loadable_index : Format
  -- a local, of one byte, or of two behind `wide`
  local : (ℕ → Instruction ℕ) → Format
  -- a local and a signed number, of one byte each, or of two behind `wide` (`iinc`)
  local_and_constant : Format
  -- a signed offset from this instruction to the target, of two bytes, or of four (`goto_w`)
  branch : Branch → Format
  wide_branch : Branch → Format
  -- padding, and offsets to targets, for keys from a lowest to a highest or for each of some keys
  table_switch : Format
  lookup_switch : Format
  -- an index of two bytes, of an entry of that kind
  pool_index : EntryKind → (ℕ → Instruction ℕ) → Format
  -- the index of a method, the count of its words, and a zero byte (`invokeinterface`)
  interface_call : Format
  -- one byte that stands for a type (`newarray`)
  element_type : Format
  -- an opcode with a local, and its operands, of two bytes each (`wide`)
  wide_form : Format
  -- This machine hasn't it: it works on floats or doubles, or it's one that these versions of
  -- class files can do without.
  left_out : Format
  -- nor this one, which has a local
  left_out_local : Format

-- how signed numbers of one, two and four bytes are read
abbrev pub width_of : ℕ → Width
width_of count = if count == 1 then w8 else if count == 2 then w16 else w32

-- the types of `newarray` (JVMS table 6.5.newarray-A), floats and doubles apart
unfoldable pub primitive_of : ℕ → Option PrimitiveType
primitive_of number =
    if number == 4 then Some booleans_of
    else if number == 5 then Some chars_of
    else if number == 8 then Some bytes_of
    else if number == 9 then Some shorts_of
    else if number == 10 then Some ints_of
    else if number == 11 then Some longs_of
    else None
