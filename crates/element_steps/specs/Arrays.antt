-- Arrays of a heap that operands name, and elements of these.
use Rattle.std.specs.Prelude.{◌≡◌, ◌<◌, ◌+◌, ◌^◌, ℕ, ℤ, pos, int_le, unsigned_abs, List, ⊤, Bool, true, false, if◌then◌else◌, Option, None, Result, Ok, Err, length, slice_get}
use Rattle.jv_model.specs.Instruction.{ElementKind, ints, longs, references, bytes, chars, shorts}
use Rattle.jv_values.specs.declared.value.Value.{Value}
use Rattle.machine_model.specs.Arithmetic.{as_char, as_short}
use Rattle.jv_values.specs.declared.value.Value.TheVariants.{Int, Null, Ref}
use Rattle.heap_face.specs.Heap.{Stored, HeapState, contents_of, header_words}
use Rattle.element_values.specs.Elements.{IsArrayAt}
use Rattle.machine_throws.specs.declared.outcome.Throwable.{Throwable}
use Rattle.machine_throws.specs.declared.outcome.Throwable.TheVariants.{ArrayIndexOutOfBounds, NullPointer}
use Rattle.element_steps.specs.declared.element.Element.{Element}

-- An array lies at the address, and fills the words of its shape.
pub record HasArray (heap : HeapState) (address : ℕ) : Type 0 where
  pub stored : Stored ℕ
  pub at : IsArrayAt heap address stored
  pub small : address < 2 ^ 32
  pub words : length stored.contents + header_words stored.shape.kind ≡ stored.shape.words

abbrev pub IsArrayOrNull : HeapState → Value → Type 0
IsArrayOrNull heap Null = ⊤
IsArrayOrNull heap (Ref address) = HasArray heap address
IsArrayOrNull heap other = ⊥

-- the word at an index, where it lies within the length
abbrev pub word_at : List ℕ → ℤ → Option ℕ
word_at words index = if int_le (pos 0) index then slice_get words (unsigned_abs index) else None

abbrev pub words_of_array : HeapState → ℕ → List ℕ
words_of_array heap address = contents_of heap (record { 0 = address })

-- The element is the one at the index of the array.
pub record IsElement (heap : HeapState) (address : ℕ) (index : ℤ) (element : Element) : Type 0 where
  pub array : element.array.0 ≡ address
  pub place : element.index ≡ unsigned_abs index
  pub some : int_le (pos 0) index ≡ true
  pub within : element.index < length (words_of_array heap address)

-- what is found at an index of what an operand names
abbrev pub IsFound : HeapState → Value → ℤ → Result Element Throwable → Type 0
IsFound heap (Ref address) index (Ok element) = IsElement heap address index element
IsFound heap (Ref address) index (Err ArrayIndexOutOfBounds) = word_at (words_of_array heap address) index ≡ None
IsFound heap Null index (Err NullPointer) = ⊤
IsFound heap array index result = ⊥

-- Such an instruction stores an operand as it is or narrowed, whatever array it is of. What bastore leaves depends on
-- whether the array is of bytes, and aastore asks which elements an array may have.
abbrev pub is_whole : ElementKind → Bool
is_whole ints = true
is_whole longs = true
is_whole chars = true
is_whole shorts = true
is_whole references = false
is_whole bytes = false

-- what such a store leaves of an operand
abbrev pub narrowed_to : ElementKind → Value → Value
narrowed_to chars (Int n) = Int (as_char n)
narrowed_to shorts (Int n) = Int (as_short n)
narrowed_to kind value = value
