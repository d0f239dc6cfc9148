-- The frames of a thread, of which one is added, removed or changed.
use Rattle.std.proofs.Common.{◌≡◌, ℕ, zero, suc, ◌+◌, ◌<◌, ◌≤◌, List, [], ◌∷◌, ◌++◌, length, take, drop, set, refl, sym, ap, ◌∙◌, arith}
use Rattle.std.specs.Prelude.{Some, slice_get, reverse, option_map}
use Rattle.std.proofs.lemmas.Option.{slice_get-map}
use Rattle.std.proofs.lemmas.List.{reverse-append, reverse-reverse, map-append, length-map, length-reverse, length-take, length-drop}
use Rattle.std.proofs.lemmas.List.Sums.{sum_by-append, sum_by-cons}
use Rattle.machine_model.specs.Heap.{replace_at}
use Rattle.jv_values.specs.declared.value.Value.{Value}
use Rattle.thread_frames.specs.declared.frames.Row.{Row}
use Rattle.thread_frames.specs.Frames.{FrameState, frame_at, change_at, newest, change_newest, frame_words, words_in}
use Rattle.thread_frames.specs.Laid.{state_in, states_in, frames_in, size_of, all_words, LaidFrom}
use Rattle.thread_frames.proofs.LastLemmas.{ends, sum_by-reverse}
use Rattle.thread_frames.proofs.LayLemmas.{states_below, states_changed}

pub length-frames_in : (words : List Value) (rows : List Row) → length (frames_in words rows) ≡ length rows
length-frames_in words rows = length-reverse (states_in words rows) ∙ length-map rows (state_in words)

-- the words of the frames are those of their rows
state_words : (words : List Value) (start : ℕ) (rows : List Row) → LaidFrom start rows → start + all_words rows ≤ length words → words_in (states_in words rows) ≡ all_words rows
state_words words start [] laid h = refl
state_words words start (row ∷ rows) laid h =
    let sum = sum_by-cons size_of row rows in
    let rest = state_words words (start + size_of row) rows laid.2 (omega (arith, sum)) in
    omega (arith, sum, rest, laid.0, sum_by-cons frame_words (state_in words row) (states_in words rows), length-take row.locals (drop row.base words), length-drop row.base words)

pub words_in-frames_in : (words : List Value) (rows : List Row) → LaidFrom 0 rows → all_words rows ≤ length words → words_in (frames_in words rows) ≡ all_words rows
words_in-frames_in words rows laid h = sum_by-reverse frame_words (states_in words rows) ∙ state_words words 0 rows laid (omega arith)

-- ---- the newest frame

state_there : (words : List Value) (rows : List Row) (n : ℕ) (row : Row) → slice_get rows n ≡ Some row → slice_get (states_in words rows) n ≡ Some (state_in words row)
state_there words rows n row e = slice_get-map (state_in words) rows n ∙ ap (option_map (state_in words)) e

-- the frames are it and the older ones
pub newest_first : (words : List Value) (rows : List Row) (n : ℕ) (row : Row) → length rows ≡ suc n → slice_get rows n ≡ Some row → frames_in words rows ≡ state_in words row ∷ frames_in words (take n rows)
newest_first words rows n row long e =
    let end = ends rows n row long e in
    ap (frames_in words) end.parts
    ∙ ap reverse (map-append (state_in words) (take n rows) (row ∷ []))
    ∙ reverse-append (states_in words (take n rows)) (state_in words row ∷ [])

pub newest_is : (words : List Value) (rows : List Row) (n : ℕ) (row : Row) → length rows ≡ suc n → slice_get rows n ≡ Some row → newest (frames_in words rows) ≡ Some (state_in words row)
newest_is words rows n row long e = ap newest (newest_first words rows n row long e)

pub newest_changed : (rows : List Row) (n : ℕ) (row changed : Row) (after words : List Value) (change : FrameState → FrameState)
    → LaidFrom 0 rows → length rows ≡ suc n → slice_get rows n ≡ Some row
    → take row.base after ≡ take row.base words → drop (row.base + size_of row) after ≡ drop (row.base + size_of row) words
    → state_in after changed ≡ change (state_in words row)
    → frames_in after (set rows n changed) ≡ change_newest change (frames_in words rows)
newest_changed rows n row changed after words change laid long e below above is =
    let states = states_in words rows in
    let end = ends states n (state_in words row) (length-map rows (state_in words) ∙ long) (state_there words rows n row e) in
    ap reverse (states_changed 0 rows n row changed after words change laid e below above is ∙ end.changed change)
    ∙ reverse-append (take n states) (change (state_in words row) ∷ [])
    ∙ ap (change_newest change) (sym (ap reverse end.parts ∙ reverse-append (take n states) (state_in words row ∷ [])))

-- ---- a frame by its depth

pub frame_there : (words : List Value) (rows : List Row) (d : ℕ) (row : Row) → slice_get rows d ≡ Some row → frame_at (frames_in words rows) d ≡ Some (state_in words row)
frame_there words rows d row e = ap (λ states. slice_get states d) (reverse-reverse (states_in words rows)) ∙ state_there words rows d row e

pub changed_at : (rows : List Row) (d : ℕ) (row changed : Row) (after words : List Value) (change : FrameState → FrameState)
    → LaidFrom 0 rows → slice_get rows d ≡ Some row
    → take row.base after ≡ take row.base words → drop (row.base + size_of row) after ≡ drop (row.base + size_of row) words
    → state_in after changed ≡ change (state_in words row)
    → frames_in after (set rows d changed) ≡ change_at change (frames_in words rows) d
changed_at rows d row changed after words change laid e below above is =
    ap reverse (states_changed 0 rows d row changed after words change laid e below above is)
    ∙ ap (λ states. reverse (replace_at change states d)) (sym (reverse-reverse (states_in words rows)))

-- ---- a frame more, or less

pub pushed : (rows : List Row) (row : Row) (after words : List Value) → LaidFrom 0 rows → take (all_words rows) after ≡ take (all_words rows) words → frames_in after (rows ++ row ∷ []) ≡ state_in after row ∷ frames_in words rows
pushed rows row after words laid same =
    ap reverse (map-append (state_in after) rows (row ∷ []))
    ∙ reverse-append (states_in after rows) (state_in after row ∷ [])
    ∙ ap (λ states. state_in after row ∷ reverse states) (states_below 0 (all_words rows) rows after words laid (omega arith) same)

pub laid_pushed : (start : ℕ) (rows : List Row) (row : Row) → LaidFrom start rows → row.base ≡ start + all_words rows → row.depth ≤ row.max_stack → LaidFrom start (rows ++ row ∷ [])
laid_pushed start [] row laid base deep = (omega (arith, base), deep, tt)
laid_pushed start (x ∷ rows) row laid base deep =
    (laid.0, laid.1, laid_pushed (start + size_of x) rows row laid.2 (omega (arith, base, sum_by-cons size_of x rows)) deep)

pub words_pushed : (rows : List Row) (row : Row) → all_words (rows ++ row ∷ []) ≡ all_words rows + size_of row
words_pushed rows row = omega (arith, sum_by-append size_of rows (row ∷ []), sum_by-cons size_of row [])

pub laid_front : (start n : ℕ) (rows : List Row) → LaidFrom start rows → LaidFrom start (take n rows)
laid_front start zero rows laid = tt
laid_front start (suc n) [] laid = tt
laid_front start (suc n) (row ∷ rows) laid = (laid.0, laid.1, laid_front (start + size_of row) n rows laid.2)

pub words_front : (n : ℕ) (rows : List Row) → all_words (take n rows) ≤ all_words rows
words_front zero rows = omega arith
words_front (suc n) [] = omega arith
words_front (suc n) (row ∷ rows) = omega (arith, words_front n rows, sum_by-cons size_of row rows, sum_by-cons size_of row (take n rows))

-- the words of the newest frame end where those of all do
pub end_is : (start : ℕ) (rows : List Row) (n : ℕ) (row : Row) → LaidFrom start rows → length rows ≡ suc n → slice_get rows n ≡ Some row → row.base + size_of row ≡ start + all_words rows
end_is start [] n row laid long e = absurd cc
end_is start (x ∷ []) zero row laid long e =
    let same : x ≡ row = cc in
    ap (λ (r : Row). r.base + size_of r) (sym same) ∙ omega (arith, laid.0, sum_by-cons size_of x [])
end_is start (x ∷ []) (suc n) row laid long e = absurd (omega arith)
end_is start (x ∷ y ∷ rows) zero row laid long e = absurd (omega arith)
end_is start (x ∷ y ∷ rows) (suc n) row laid long e =
    omega (arith, end_is (start + size_of x) (y ∷ rows) n row laid.2 (omega arith) e, sum_by-cons size_of x (y ∷ rows))

-- what stands at a place
pub there_is : {A : Type 0} (list : List A) (n : ℕ) → n < length list → (a : A) × (slice_get list n ≡ Some a)
there_is [] n h = absurd (omega arith)
there_is (x ∷ list) zero h = (x, refl)
there_is (x ∷ list) (suc n) h = there_is list n (omega arith)
