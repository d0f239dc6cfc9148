-- What a frame becomes where words of it are written.
use Rattle.std.proofs.Common.{◌≡◌, ℕ, ◌+◌, ◌-◌, ◌<◌, ◌≤◌, true, false, List, [], ◌∷◌, ◌++◌, length, take, drop, sym, ap, ◌∙◌, subst, arith, inl, inr}
use Rattle.std.specs.Prelude.{nat_lt, if◌then◌else◌, replicate}
use Rattle.std.proofs.lemmas.Bool.{cases_lt, lt-ltb, le-ltb}
use Rattle.std.proofs.lemmas.List.{length-append, length-take, length-drop, drop-drop, length-replicate}
use Rattle.std.proofs.Math.Seq.{take-add}
use Rattle.thread_frames.specs.Splices.{spliced}
use Rattle.jv_values.specs.declared.value.Value.{Value}
use Rattle.thread_frames.specs.declared.frames.Row.{Row}
use Rattle.thread_frames.specs.Frames.{with_value}
use Rattle.thread_frames.specs.Laid.{state_with, state_in, size_of}
use Rattle.thread_frames.proofs.SpliceLemmas.{take_take, same_below, same_above, below, above, within, is_there, length-spliced, spliced-then}
use Rattle.thread_frames.proofs.LayLemmas.{state_is}

pub locals_put : (row : Row) (words group : List Value) (i : ℕ) → row.depth ≤ row.max_stack → row.base + size_of row ≤ length words → i + length group ≤ row.locals
    → state_in (spliced (row.base + i) group words) row ≡ state_with row (spliced i group (take row.locals (drop row.base words))) (take row.depth (drop (row.base + row.locals) words))
locals_put row words group i deep long h =
    state_is row _ _ _ _ (within row.base i row.locals group words h (omega arith))
    (same_above (row.base + i + length group) (row.base + row.locals) row.depth (spliced (row.base + i) group words) words (omega arith)
    (above (row.base + i) group words (omega arith) (row.base + i + length group) (omega arith)))

pub stack_put : (row : Row) (words group : List Value) (i : ℕ) → row.depth ≤ row.max_stack → row.base + size_of row ≤ length words → i + length group ≤ row.depth
    → state_in (spliced (row.base + row.locals + i) group words) row ≡ state_with row (take row.locals (drop row.base words)) (spliced i group (take row.depth (drop (row.base + row.locals) words)))
stack_put row words group i deep long h =
    state_is row _ _ _ _
    (same_below (row.base + row.locals + i) row.base row.locals (spliced (row.base + row.locals + i) group words) words (omega arith)
    (below (row.base + row.locals + i) group words (omega arith) (row.base + row.locals + i) (omega arith)))
    (within (row.base + row.locals) i row.depth group words h (omega arith))

-- a value on top
pub stack_pushed : (row : Row) (words group : List Value) → row.depth + length group ≤ row.max_stack → row.base + size_of row ≤ length words
    → state_in (spliced (row.base + row.locals + row.depth) group words) (record row { depth = row.depth + length group })
    ≡ state_with row (take row.locals (drop row.base words)) (take row.depth (drop (row.base + row.locals) words) ++ group)
stack_pushed row words group h long =
    let at = row.base + row.locals + row.depth in
    let after = spliced at group words in
    let low = row.base + row.locals in
    let front = below at group words (omega arith) at (omega arith) in
    let fst = same_below at row.base row.locals after words (omega arith) front in
    let snd : take (row.depth + length group) (drop low after) ≡ take row.depth (drop low words) ++ group =
    take-add row.depth (length group) (drop low after)
    ∙ ap (λ x. x ++ take (length group) (drop row.depth (drop low after))) (same_below at low row.depth after words (omega arith) front)
    ∙ ap (λ x. take row.depth (drop low words) ++ x) (ap (take (length group)) (drop-drop row.depth low after) ∙ is_there at group words (omega arith)) in
    state_is row _ _ _ _ fst snd

-- fewer operands
pub stack_popped : (row : Row) (words : List Value) (count : ℕ) → row.depth ≤ row.max_stack → row.base + size_of row ≤ length words
    → take (row.depth - count) (drop (row.base + row.locals) words)
    ≡ take (length (take row.depth (drop (row.base + row.locals) words)) - count) (take row.depth (drop (row.base + row.locals) words))
stack_popped row words count deep long =
    let rest = drop (row.base + row.locals) words in
    let is : length (take row.depth rest) ≡ row.depth = omega (arith, length-take row.depth rest, length-drop (row.base + row.locals) words) in
    sym (ap (λ n. take (n - count) (take row.depth rest)) is ∙ take_take rest (row.depth - count) row.depth (omega arith))

-- other locals and other operands
pub top_put : (row : Row) (words locals stack : List Value) → length locals ≡ row.locals → length stack ≤ row.max_stack → row.base + size_of row ≤ length words
    → state_in (spliced (row.base + length locals) stack (spliced row.base locals words)) (record row { depth = length stack }) ≡ state_with row locals stack
top_put row words locals stack same h long =
    let once = spliced row.base locals words in
    let fits : row.base + length locals ≤ length words = omega (arith, same) in
    let after = spliced (row.base + length locals) stack once in
    let longer = length-spliced row.base locals words fits in
    let low : take (row.base + length locals) after ≡ take (row.base + length locals) once = below (row.base + length locals) stack once (omega (arith, longer, same)) (row.base + length locals) (omega arith) in
    let fst : take row.locals (drop row.base after) ≡ locals =
    same_below (row.base + length locals) row.base row.locals after once (omega (arith, same)) low
    ∙ ap (λ n. take n (drop row.base once)) (sym same)
    ∙ is_there row.base locals words fits in
    let snd : take (length stack) (drop (row.base + row.locals) after) ≡ stack =
    ap (λ n. take (length stack) (drop (row.base + n) after)) (sym same)
    ∙ is_there (row.base + length locals) stack once (omega (arith, longer, same)) in
    state_is row _ _ _ _ fst snd

-- a word over the locals and the operands
pub value_put : (row : Row) (words : List Value) (n : ℕ) (value : Value) → row.depth ≤ row.max_stack → row.base + size_of row ≤ length words → n < row.locals + row.depth
    → state_in (spliced (row.base + n) (value ∷ []) words) row ≡ with_value n value (state_in words row)
value_put row words n value deep long h =
    let count : length (take row.locals (drop row.base words)) ≡ row.locals = omega (arith, length-take row.locals (drop row.base words), length-drop row.base words) in
    elim (cases_lt n row.locals) [
      | inl less ↦
          let test : nat_lt n (length (take row.locals (drop row.base words))) ≡ true = ap (nat_lt n) count ∙ lt-ltb n row.locals less in
          locals_put row words (value ∷ []) n deep long (omega arith)
          ∙ sym (ap (λ b. if b then state_with row (spliced n (value ∷ []) (take row.locals (drop row.base words))) (take row.depth (drop (row.base + row.locals) words)) else state_with row (take row.locals (drop row.base words)) (spliced (n - length (take row.locals (drop row.base words))) (value ∷ []) (take row.depth (drop (row.base + row.locals) words)))) test)
      | inr more ↦
          let test : nat_lt n (length (take row.locals (drop row.base words))) ≡ false = ap (nat_lt n) count ∙ le-ltb n row.locals more in
          let place : row.base + n ≡ row.base + row.locals + (n - row.locals) = omega arith in
          ap (λ k. state_in (spliced k (value ∷ []) words) row) place
          ∙ stack_put row words (value ∷ []) (n - row.locals) deep long (omega arith)
          ∙ ap (λ k. state_with row (take row.locals (drop row.base words)) (spliced (n - k) (value ∷ []) (take row.depth (drop (row.base + row.locals) words)))) (sym count)
          ∙ sym (ap (λ b. if b then state_with row (spliced n (value ∷ []) (take row.locals (drop row.base words))) (take row.depth (drop (row.base + row.locals) words)) else state_with row (take row.locals (drop row.base words)) (spliced (n - length (take row.locals (drop row.base words))) (value ∷ []) (take row.depth (drop (row.base + row.locals) words)))) test)
    ]

-- the locals of a frame at its begin
pub record Begun (base count : ℕ) (words args : List Value) (fill : Value) (after : List Value) : Type 0 where
  pub locals : take count (drop base after) ≡ args ++ replicate (count - length args) fill
  pub front : take base after ≡ take base words
  pub long : length after ≡ length words

pub begun : (base count : ℕ) (words args : List Value) (fill : Value) → length args ≤ count → base + count ≤ length words
    → Begun base count words args fill (spliced (base + length args) (replicate (count - length args) fill) (spliced base args words))
begun base count words args fill few fits =
    let zeros = replicate (count - length args) fill in
    let more : length zeros ≡ count - length args = length-replicate (count - length args) fill in
    let all : length (args ++ zeros) ≡ count = omega (arith, length-append args zeros, more) in
    let joined = spliced-then base args zeros words (omega (arith, more)) in
    let inside : base + length (args ++ zeros) ≤ length words = omega (arith, all) in
    subst (Begun base count words args fill) (sym joined) (record {
      locals = ap (λ n. take n (drop base (spliced base (args ++ zeros) words))) (sym all) ∙ is_there base (args ++ zeros) words inside;
      front = below base (args ++ zeros) words inside base (omega arith);
      long = length-spliced base (args ++ zeros) words inside;
    })
