-- Frames in the words of a thread, of which some change.
use Rattle.std.proofs.Common.{◌≡◌, ℕ, zero, suc, ◌+◌, ◌≤◌, List, [], ◌∷◌, take, drop, set, refl, sym, ap, ◌∙◌, subst, arith}
use Rattle.std.specs.Prelude.{Some, slice_get}
use Rattle.std.proofs.lemmas.List.Sums.{sum_by-cons}
use Rattle.jv_values.specs.declared.value.Value.{Value}
use Rattle.machine_model.specs.Heap.{replace_at}
use Rattle.thread_frames.specs.declared.frames.Row.{Row}
use Rattle.thread_frames.specs.Frames.{FrameState}
use Rattle.thread_frames.specs.Laid.{state_with, state_in, states_in, size_of, all_words, LaidFrom}
use Rattle.thread_frames.proofs.SpliceLemmas.{same_below, same_above}

pub state_is : (row : Row) (locals stack their_locals their_stack : List Value) → locals ≡ their_locals → stack ≡ their_stack → state_with row locals stack ≡ state_with row their_locals their_stack
state_is row locals stack their_locals their_stack p q =
    ap (λ ls. state_with row ls stack) p ∙ ap (λ st. state_with row their_locals st) q

-- ---- words that change elsewhere

pub state_below : (n : ℕ) (row : Row) (after words : List Value) → row.depth ≤ row.max_stack → row.base + size_of row ≤ n → take n after ≡ take n words → state_in after row ≡ state_in words row
state_below n row after words deep h same =
    state_is row _ _ _ _ (same_below n row.base row.locals after words (omega arith) same) (same_below n (row.base + row.locals) row.depth after words (omega arith) same)

pub state_above : (n : ℕ) (row : Row) (after words : List Value) → n ≤ row.base → drop n after ≡ drop n words → state_in after row ≡ state_in words row
state_above n row after words h same =
    state_is row _ _ _ _ (same_above n row.base row.locals after words h same) (same_above n (row.base + row.locals) row.depth after words (omega arith) same)

-- the frames below a place
pub states_below : (start n : ℕ) (rows : List Row) (after words : List Value) → LaidFrom start rows → start + all_words rows ≤ n → take n after ≡ take n words → states_in after rows ≡ states_in words rows
states_below start n [] after words laid h same = refl
states_below start n (row ∷ rows) after words laid h same =
    let sum = sum_by-cons size_of row rows in
    ap (λ s. s ∷ states_in after rows) (state_below n row after words laid.1 (omega (arith, laid.0, sum)) same)
    ∙ ap (λ ss. state_in words row ∷ ss) (states_below (start + size_of row) n rows after words laid.2 (omega (arith, sum)) same)

-- the frames from a place on
pub states_above : (start n : ℕ) (rows : List Row) (after words : List Value) → LaidFrom start rows → n ≤ start → drop n after ≡ drop n words → states_in after rows ≡ states_in words rows
states_above start n [] after words laid h same = refl
states_above start n (row ∷ rows) after words laid h same =
    ap (λ s. s ∷ states_in after rows) (state_above n row after words (omega (arith, laid.0)) same)
    ∙ ap (λ ss. state_in words row ∷ ss) (states_above (start + size_of row) n rows after words laid.2 (omega arith) same)

-- ---- a row among others

pub record StandsIn (start : ℕ) (rows : List Row) (row : Row) : Type 0 where
  pub from : start ≤ row.base
  pub to : row.base + size_of row ≤ start + all_words rows
  pub deep : row.depth ≤ row.max_stack

pub stands_in : (start : ℕ) (rows : List Row) (d : ℕ) (row : Row) → LaidFrom start rows → slice_get rows d ≡ Some row → StandsIn start rows row
stands_in start [] d row laid e = absurd cc
stands_in start (x ∷ rows) zero row laid e =
    let same : x ≡ row = cc in
    let here : StandsIn start (x ∷ rows) x = record { from = omega (arith, laid.0); to = omega (arith, laid.0, sum_by-cons size_of x rows); deep = laid.1 } in
    subst (λ (r : Row). StandsIn start (x ∷ rows) r) same here
stands_in start (x ∷ rows) (suc d) row laid e =
    let rest = stands_in (start + size_of x) rows d row laid.2 e in
    record { from = omega (arith, rest.from); to = omega (arith, rest.to, sum_by-cons size_of x rows); deep = rest.deep }

-- the row of a frame whose words stay where they are
pub record SamePlace (row changed : Row) : Type 0 where
  pub base : changed.base ≡ row.base
  pub size : size_of changed ≡ size_of row
  pub deep : changed.depth ≤ changed.max_stack

pub record Relaid (start : ℕ) (rows changed : List Row) : Type 0 where
  pub laid : LaidFrom start changed
  pub words : all_words changed ≡ all_words rows

pub relaid : (start : ℕ) (rows : List Row) (d : ℕ) (row changed : Row) → LaidFrom start rows → slice_get rows d ≡ Some row → SamePlace row changed → Relaid start rows (set rows d changed)
relaid start [] d row changed laid e same = absurd cc
relaid start (x ∷ rows) zero row changed laid e same =
    let is : x ≡ row = cc in
    let base : changed.base ≡ start = same.base ∙ ap (λ (r : Row). r.base) (sym is) ∙ laid.0 in
    let size : size_of changed ≡ size_of x = same.size ∙ ap size_of (sym is) in
    record {
      laid = (base, same.deep, subst (λ (n : ℕ). LaidFrom (start + n) rows) (sym size) laid.2);
      words = sum_by-cons size_of changed rows ∙ ap (λ n. n + all_words rows) size ∙ sym (sum_by-cons size_of x rows);
    }
relaid start (x ∷ rows) (suc d) row changed laid e same =
    let rest = relaid (start + size_of x) rows d row changed laid.2 e same in
    record {
      laid = (laid.0, laid.1, rest.laid);
      words = sum_by-cons size_of x (set rows d changed) ∙ ap (λ n. size_of x + n) rest.words ∙ sym (sum_by-cons size_of x rows);
    }

-- ---- what changed is the frame of one row

pub states_changed : (start : ℕ) (rows : List Row) (d : ℕ) (row changed : Row) (after words : List Value) (change : FrameState → FrameState)
    → LaidFrom start rows → slice_get rows d ≡ Some row
    → take row.base after ≡ take row.base words → drop (row.base + size_of row) after ≡ drop (row.base + size_of row) words
    → state_in after changed ≡ change (state_in words row)
    → states_in after (set rows d changed) ≡ replace_at change (states_in words rows) d
states_changed start [] d row changed after words change laid e below above is = absurd cc
states_changed start (x ∷ rows) zero row changed after words change laid e below above is =
    let same : x ≡ row = cc in
    let end : row.base + size_of row ≡ start + size_of x = ap (λ (r : Row). r.base + size_of r) (sym same) ∙ ap (λ n. n + size_of x) laid.0 in
    ap (λ s. s ∷ states_in after rows) (is ∙ ap (λ r. change (state_in words r)) (sym same))
    ∙ ap (λ ss. change (state_in words x) ∷ ss) (states_above (start + size_of x) (row.base + size_of row) rows after words laid.2 (omega (arith, end)) above)
states_changed start (x ∷ rows) (suc d) row changed after words change laid e below above is =
    let from = (stands_in (start + size_of x) rows d row laid.2 e).from in
    ap (λ s. s ∷ states_in after (set rows d changed)) (state_below row.base x after words laid.1 (omega (arith, laid.0, from)) below)
    ∙ ap (λ ss. state_in words x ∷ ss) (states_changed (start + size_of x) rows d row changed after words change laid.2 e below above is)
