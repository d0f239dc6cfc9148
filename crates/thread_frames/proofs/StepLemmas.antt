-- The frame of words that are a part of others.
use Rattle.std.proofs.Common.{◌≡◌, ℕ, ◌+◌, ◌≤◌, List, ◌++◌, length, take, drop, refl, sym, ap, ◌∙◌, arith}
use Rattle.std.specs.Prelude.{reverse}
use Rattle.std.proofs.lemmas.List.{take-append-le, drop-append-le, drop_at, drop-take, drop-drop, length-drop}
use Rattle.jv_values.specs.declared.value.Value.{Value}
use Rattle.jv_values.specs.Values.{values_of, operands_in}
use Rattle.local_steps.specs.Steps.{frame_in}
use Rattle.thread_frames.specs.Runs.{frame_from}
use Rattle.thread_frames.proofs.SpliceLemmas.{take_take}

frame_with : (pc depth : ℕ) (locals stack their_locals their_stack : List Value) → locals ≡ their_locals → take depth stack ≡ take depth their_stack → frame_in pc locals stack depth ≡ frame_in pc their_locals their_stack depth
unfolding operands_in
frame_with pc depth locals stack their_locals their_stack p q =
    ap (λ ls. frame_in pc ls stack depth) p
    ∙ ap (λ st. let frame = frame_in pc their_locals stack depth in record frame { stack = values_of (reverse st) }) q

pub from_is : (pc base locals depth : ℕ) (words : List Value) → frame_in pc (take locals (drop base words)) (drop (base + locals) words) depth ≡ frame_from pc base locals depth words
unfolding operands_in
from_is pc base locals depth words = refl

-- the words before, of which the frame's own are lent
pub parted : (pc base locals depth room size : ℕ) (words : List Value) → locals + room ≡ size → depth ≤ room
    → frame_in pc (take locals (take size (drop base words))) (drop locals (take size (drop base words))) depth ≡ frame_from pc base locals depth words
parted pc base locals depth room size words sum deep =
    frame_with pc depth _ _ (take locals (drop base words)) (drop (base + locals) words)
    (take_take (drop base words) locals size (omega (arith, sum)))
    (ap (λ n. take depth (drop locals (take n (drop base words)))) (sym sum)
    ∙ ap (take depth) (drop-take locals room (drop base words))
    ∙ take_take (drop locals (drop base words)) depth room deep
    ∙ ap (take depth) (drop-drop locals base words))
    ∙ from_is pc base locals depth words

-- the words after
pub joined : (pc base locals depth : ℕ) (front own rest : List Value) → length front ≡ base → locals + depth ≤ length own
    → frame_in pc (take locals own) (drop locals own) depth ≡ frame_from pc base locals depth (front ++ (own ++ rest))
joined pc base locals depth front own rest long fits =
    let whole = front ++ (own ++ rest) in
    let from : drop base whole ≡ own ++ rest = drop_at front (own ++ rest) base long in
    frame_with pc depth _ _ (take locals (drop base whole)) (drop (base + locals) whole)
    (sym (ap (take locals) from ∙ take-append-le locals own rest (omega arith)))
    (sym (ap (take depth) (sym (drop-drop locals base whole) ∙ ap (drop locals) from ∙ drop-append-le locals own rest (omega arith))
    ∙ take-append-le depth (drop locals own) rest (omega (arith, length-drop locals own))))
    ∙ from_is pc base locals depth whole
