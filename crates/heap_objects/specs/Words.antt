-- The words of values, as objects hold them.
use Rattle.std.specs.Prelude.{◌≢◌, ℕ, ◌%◌, ◌^◌, ⊤, if◌then◌else◌, ◌==◌}
use Rattle.std.specs.Int.{w32, w64, cast_signed}
use Rattle.jv_model.specs.Instruction.{ValueKind, of_int, of_long, of_reference}
use Rattle.machine_model.specs.Value.{Value, int, long, null, reference}
use Rattle.heap_face.specs.declared.layout.Cell.{Cell}
use Rattle.heap_face.specs.declared.layout.Cell.TheVariants.{Int, Long, Ref}

-- The value that a word is. Of an int the low 32 bits count. A reference is an address in place of an id.
abbrev pub value_in : Cell → ℕ → Value
value_in Int word = int (cast_signed w32 (word % 2 ^ 32))
value_in Long word = long (cast_signed w64 word)
value_in Ref word = if word == 0 then null else reference word

-- what a field or an element of that kind holds
abbrev pub cell_of_kind : ValueKind → Cell
cell_of_kind of_int = Int
cell_of_kind of_long = Long
cell_of_kind of_reference = Ref

-- the value goes into such a field or element: no object lies at 0
abbrev pub IsOfCell : Cell → Value → Type 0
IsOfCell Int (int n) = ⊤
IsOfCell Long (long n) = ⊤
IsOfCell Ref null = ⊤
IsOfCell Ref (reference address) = address ≢ 0
IsOfCell cell value = ⊥
