-- What is found at an index of an array.
use Rattle.std.proofs.Common.{◌≡◌, ◌≢◌, ◌≤◌, ℕ, ℤ, pos, ◌==◌, Bool, true, false, List, ◌∷◌, Option, Some, None, Ok, Err, map, option_map, refl, ap, sym, ◌∙◌, arith, inl, inr}
use Rattle.std.specs.Prelude.{◌⊎◌, if◌then◌else◌, int_le, unsigned_abs, slice_get, FitsSigned}
use Rattle.std.specs.Int.{w32, cast_signed, cast_unsigned}
use Rattle.std.proofs.lemmas.Int.{to_z-of_z}
use Rattle.std.specs.List.{list_all}
use Rattle.std.proofs.lemmas.Bool.{and_parts}
use Rattle.std.proofs.lemmas.Option.{slice_get-map}
use Rattle.jv_model.specs.Descriptors.{FieldType}
use Rattle.jv_model.specs.Instruction.{ValueKind, of_int, of_long, of_reference}
use Rattle.machine_model.specs.Value as model
use Rattle.machine_model.specs.Value.{is_of_kind, id_in, taken_of}
use Rattle.machine_model.specs.Heap.{Contents, contents_at}
use Rattle.machine_model.specs.ArraySteps.{elements_of, element_at}
use Rattle.machine_model.specs.State.{State}
use Rattle.machine_model.specs.Deed.{Deed, wrong, ◌>>=◌}
use Rattle.jv_values.specs.declared.value.Value.{Value}
use Rattle.jv_values.specs.declared.value.Value.TheVariants.{Int, Long, Half, Null, Ref}
use Rattle.jv_values.specs.Values.{value_of, places_of}
use Rattle.heap_face.specs.declared.layout.Cell.{Cell}
use Rattle.heap_face.specs.declared.layout.Cell.TheVariants as cells
use Rattle.heap_face.specs.Heap.{Stored, HeapState}
use Rattle.heap_objects.specs.Ids.{Ids, ids_of, value_by}
use Rattle.heap_objects.specs.Words.{value_in, cell_of_kind}
use Rattle.heap_objects.specs.Objects.{Classes}
use Rattle.element_values.specs.Elements as arrays
use Rattle.element_values.specs.Elements.{IsArrayAt, IsReadAs, element_cell}
use Rattle.element_values.proofs.Elements.{reads}
use Rattle.machine_parts.specs.Parts.{Machine, StandsFor, classes_of}
use Rattle.machine_parts.proofs.Steps.{some_by}
use Rattle.machine_throws.specs.declared.outcome.Throwable.{Throwable}
use Rattle.machine_throws.specs.declared.outcome.Throwable.TheVariants as throwables
use Rattle.element_steps.specs.declared.element.Element.{Element}
use Rattle.element_steps.specs.Arrays.{HasArray, IsArrayOrNull, IsElement, IsFound, word_at, words_of_array}
use Rattle.element_steps.proofs.Arrays.{has_array, array_lies}

-- ---- ints and their bits

pub int_kept : (n : ℤ) → FitsSigned w32 n → cast_signed w32 (cast_unsigned w32 n) ≡ n
int_kept n fits = to_z-of_z w32 n fits

pub kept : (n : ℤ) → FitsSigned w32 n → Int n ≡ Int (cast_signed w32 (cast_unsigned w32 n))
kept n fits = ap Int (sym (int_kept n fits))

-- ---- what the code found

pub record FoundAt (heap : HeapState) (value : Value) (index : ℤ) (element : Element) : Type 0 where
  pub address : ℕ
  pub is : value ≡ Ref address
  pub element_is : IsElement heap address index element

pub found_at : (heap : HeapState) (value : Value) (index : ℤ) (element : Element) → IsFound heap value index (Ok element)
    → FoundAt heap value index element
found_at heap (Ref address) index element found = record { address = address; is = refl; element_is = found }
found_at heap (Int n) index element found = absurd found
found_at heap (Long n) index element found = absurd found
found_at heap Half index element found = absurd found
found_at heap Null index element found = absurd found

-- nothing lies at the index
pub record IsOutside (heap : HeapState) (value : Value) (index : ℤ) (thrown : Throwable) : Type 0 where
  pub address : ℕ
  pub is : value ≡ Ref address
  pub what : thrown ≡ throwables.ArrayIndexOutOfBounds
  pub none : word_at (words_of_array heap address) index ≡ None

pub found_none : (heap : HeapState) (value : Value) (index : ℤ) (thrown : Throwable) → IsFound heap value index (Err thrown)
    → ((value ≡ Null) × (thrown ≡ throwables.NullPointer)) ⊎ IsOutside heap value index thrown
found_none heap Null index throwables.NullPointer found = inl (refl, refl)
found_none heap (Ref address) index throwables.ArrayIndexOutOfBounds found =
    inr (record { address = address; is = refl; what = refl; none = found })
found_none heap value index thrown found = absurd found

-- the word that lies at it
pub word_found : (words : List ℕ) (index : ℤ) (place word : ℕ) → place ≡ unsigned_abs index → int_le (pos 0) index ≡ true
    → slice_get words place ≡ Some word → word_at words index ≡ Some word
word_found words index place word is some there =
    ap (λ (b : Bool). if b then slice_get words (unsigned_abs index) else None) some ∙ ap (slice_get words) (sym is) ∙ there

-- a value has a place at least
pub some_places : (value : Value) → 1 ≤ places_of value
some_places (Int n) = omega arith
some_places (Long n) = omega arith
some_places Half = omega arith
some_places Null = omega arith
some_places (Ref n) = omega arith

-- what is null or names an array
pub or_null : (heap : HeapState) (value : Value) → is_of_kind of_reference (value_of value) ≡ true
    → ((address : ℕ) → value ≡ Ref address → HasArray heap address) → IsArrayOrNull heap value
or_null heap Null fits lies = tt
or_null heap (Ref address) fits lies = lies address refl
or_null heap value fits lies = absurd cc

pub null_there : (value : Value) → is_of_kind of_reference (value_of value) ≡ true → ((address : ℕ) → value ≢ Ref address) → value ≡ Null
null_there Null fits other = refl
null_there (Ref address) fits other = absurd (other address refl)
null_there value fits other = absurd cc

-- ---- elements are the values of words

mapped : {A B C : Type 0} (f : B → C) (g : A → B) (xs : List A) (n : ℕ)
    → slice_get (map f (map g xs)) n ≡ option_map (λ x. f (g x)) (slice_get xs n)
mapped f g xs n = slice_get-map f (map g xs) n ∙ ap (option_map f) (slice_get-map g xs n) ∙ both (slice_get xs n)
  where
    both : (o : Option _) → option_map f (option_map g o) ≡ option_map (λ x. f (g x)) o
    both None = refl
    both (Some x) = refl

pub element_of_word : (classes : Classes) (ids : Ids) (stored : Stored ℕ) (index : ℤ)
    → element_at (arrays.elements_of classes ids stored) index
    ≡ option_map (λ word. value_by ids.id (value_in (element_cell classes stored) word)) (word_at stored.contents index)
element_of_word classes ids stored index = by (int_le (pos 0) index)
  where
    by : (b : Bool) → (if b then slice_get (arrays.elements_of classes ids stored) (unsigned_abs index) else None)
        ≡ option_map (λ word. value_by ids.id (value_in (element_cell classes stored) word))
        (if b then slice_get stored.contents (unsigned_abs index) else None)
    by false = refl
    by true = mapped (value_by ids.id) (value_in (element_cell classes stored)) stored.contents (unsigned_abs index)

-- where the value of a word is of a kind, so is what the element holds
pub cell_is : (kind : ValueKind) (cell : Cell) (id : ℕ → ℕ) (word : ℕ) → is_of_kind kind (value_by id (value_in cell word)) ≡ true
    → cell ≡ cell_of_kind kind
cell_is of_int cells.Int id word fits = refl
cell_is of_long cells.Long id word fits = refl
cell_is of_reference cells.Ref id word fits = refl
cell_is of_int cells.Long id word fits = absurd cc
cell_is of_long cells.Int id word fits = absurd cc
cell_is of_reference cells.Int id word fits = absurd cc
cell_is of_reference cells.Long id word fits = absurd cc
cell_is of_int cells.Ref id word fits = absurd (never (word == 0) fits)
  where
    never : (b : Bool) → is_of_kind of_int (value_by id (if b then model.null else model.reference word)) ≡ true → ⊥
    never true is = cc
    never false is = cc
cell_is of_long cells.Ref id word fits = absurd (never (word == 0) fits)
  where
    never : (b : Bool) → is_of_kind of_long (value_by id (if b then model.null else model.reference word)) ≡ true → ⊥
    never true is = cc
    never false is = cc

-- ---- arrays that operands name

-- The operands begin with an index, and below it what names an array.
pub record IsIndexed (operands : List model.Value) : Type 0 where
  pub index : ℤ
  pub object : model.Value
  pub rest : List model.Value
  pub is : operands ≡ model.int index ∷ object ∷ rest
  pub takes : taken_of of_reference (object ∷ rest) ≡ Some (record { value = object; rest = rest })

-- a reference that isn't null
pub one_live : (live : ℕ → Bool) (value : Value) (address : ℕ) → value ≡ Ref address → list_all live (id_in (value_of value)) ≡ true
    → live address ≡ true
one_live live value address is all =
    (and_parts (live address) true (ap (λ (v : Value). list_all live (id_in (value_of v))) (sym is) ∙ all)).0

module _ (machine : Machine) (types : List FieldType) (state : State) (stands : StandsFor types machine state) where
  abbrev pub own : Ids
  own = ids_of machine.heap

  abbrev pub classes : Classes
  classes = classes_of machine.world types machine.versions

  pub reads_array : (address : ℕ) (stored : Stored ℕ) → IsArrayAt machine.heap address stored
      → IsReadAs classes own state.heap address stored
  reads_array address stored at = reads classes machine.heap state.heap address stored stands.parts.heap at

  pub array_has : (address : ℕ) (stored : Stored ℕ) → IsArrayAt machine.heap address stored → HasArray machine.heap address
  array_has address stored at = has_array classes machine.heap state.heap stands.parts.heap address stored at

  -- the array of which an instruction takes the elements
  abbrev with_elements_of : (address : ℕ) → (List model.Value → Deed) → Deed
  with_elements_of address go =
      contents_at state.heap (own.id address) >>= λ (contents : Contents). elements_of contents >>= go

  pub array_there : (address : ℕ) (go : List model.Value → Deed) → own.is_live address ≡ true
      → with_elements_of address go ≢ wrong → HasArray machine.heap address
  array_there address go live right =
      let found = some_by (contents_at state.heap (own.id address)) (λ (contents : Contents). elements_of contents >>= go) right in
      let are = some_by (elements_of found.0) go
      (λ is. right (ap (λ (o : Option Contents). o >>= λ (contents : Contents). elements_of contents >>= go) found.1 ∙ is)) in
      let lies = array_lies classes machine.heap state.heap stands.parts.heap address found.0 are.0 live found.1 are.1 in
      array_has address lies.0 lies.1

  pub elements_are : (address : ℕ) (stored : Stored ℕ) (go : List model.Value → Deed) → IsArrayAt machine.heap address stored
      → with_elements_of address go ≡ go (arrays.elements_of classes own stored)
  elements_are address stored go at =
      ap (λ (o : Option Contents). o >>= λ (contents : Contents). elements_of contents >>= go) (reads_array address stored at).object
