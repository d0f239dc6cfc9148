-- The values in the words of an object, of which one is replaced.
use Rattle.std.proofs.Common.{◌≡◌, ℕ, zero, suc, Bool, true, List, [], ◌∷◌, Some, map, slice_get, refl, ap, sym, ◌∙◌}
use Rattle.std.specs.Prelude.{slice_set}
use Rattle.std.specs.List.{list_all}
use Rattle.std.proofs.lemmas.Bool.{and_from, and_parts}
use Rattle.std.proofs.lemmas.List.Folds.{list_all-append}
use Rattle.machine_model.specs.Value.{Value, id_in}
use Rattle.machine_model.specs.Reach.{ids_in}
use Rattle.heap_face.specs.declared.layout.Cell.{Cell}
use Rattle.heap_objects.specs.Words.{value_in}
use Rattle.heap_objects.specs.Objects.{values_in}

pub map-slice_set : {A B : Type 0} (f : A → B) (xs : List A) (k : ℕ) (x : A)
    → map f (slice_set xs k x) ≡ slice_set (map f xs) k (f x)
map-slice_set f [] k x = refl
map-slice_set f (y ∷ xs) zero x = refl
map-slice_set f (y ∷ xs) (suc k) x = ap (λ ys. f y ∷ ys) (map-slice_set f xs k x)

pub value_there : (cells : List Cell) (words : List ℕ) (place : ℕ) (cell : Cell) (word : ℕ) → slice_get cells place ≡ Some cell
    → slice_get words place ≡ Some word → slice_get (values_in cells words) place ≡ Some (value_in cell word)
value_there [] words place cell word cell_is word_is = absurd cc
value_there (c ∷ cells) [] place cell word cell_is word_is = absurd cc
value_there (c ∷ cells) (w ∷ words) zero cell word cell_is word_is =
    let same_cell : c ≡ cell = cc in
    let same_word : w ≡ word = cc in
    λ i. Some (value_in (same_cell i) (same_word i))
value_there (c ∷ cells) (w ∷ words) (suc place) cell word cell_is word_is =
    value_there cells words place cell word cell_is word_is

pub value_replaced : (cells : List Cell) (words : List ℕ) (place : ℕ) (cell : Cell) (word : ℕ) → slice_get cells place ≡ Some cell
    → values_in cells (slice_set words place word) ≡ slice_set (values_in cells words) place (value_in cell word)
value_replaced [] words place cell word cell_is = absurd cc
value_replaced (c ∷ cells) [] place cell word cell_is = refl
value_replaced (c ∷ cells) (w ∷ words) zero cell word cell_is =
    let same : c ≡ cell = cc in ap (λ (d : Cell). value_in d word ∷ values_in cells words) same
value_replaced (c ∷ cells) (w ∷ words) (suc place) cell word cell_is =
    ap (λ values. value_in c w ∷ values) (value_replaced cells words place cell word cell_is)

-- ---- what they name is live

live_first : (live : ℕ → Bool) (value : Value) (values : List Value) → list_all live (ids_in (value ∷ values)) ≡ true
    → (list_all live (id_in value) ≡ true) × (list_all live (ids_in values) ≡ true)
live_first live value values all =
    and_parts (list_all live (id_in value)) (list_all live (ids_in values)) (sym (list_all-append live (id_in value) (ids_in values)) ∙ all)

live_both : (live : ℕ → Bool) (value : Value) (values : List Value) → list_all live (id_in value) ≡ true
    → list_all live (ids_in values) ≡ true → list_all live (ids_in (value ∷ values)) ≡ true
live_both live value values own rest =
    list_all-append live (id_in value) (ids_in values) ∙ and_from (list_all live (id_in value)) (list_all live (ids_in values)) own rest

pub live_there : (live : ℕ → Bool) (values : List Value) (place : ℕ) (value : Value) → slice_get values place ≡ Some value
    → list_all live (ids_in values) ≡ true → list_all live (id_in value) ≡ true
live_there live [] place value is all = absurd cc
live_there live (v ∷ values) zero value is all =
    let same : v ≡ value = cc in
    ap (λ (w : Value). list_all live (id_in w)) (sym same) ∙ (live_first live v values all).0
live_there live (v ∷ values) (suc place) value is all = live_there live values place value is (live_first live v values all).1

pub live_replaced : (live : ℕ → Bool) (values : List Value) (place : ℕ) (value : Value) → list_all live (ids_in values) ≡ true
    → list_all live (id_in value) ≡ true → list_all live (ids_in (slice_set values place value)) ≡ true
live_replaced live [] place value all own = refl
live_replaced live (v ∷ values) zero value all own = live_both live value values own (live_first live v values all).1
live_replaced live (v ∷ values) (suc place) value all own =
    let parts = live_first live v values all in
    live_both live v (slice_set values place value) parts.0 (live_replaced live values place value parts.1 own)
