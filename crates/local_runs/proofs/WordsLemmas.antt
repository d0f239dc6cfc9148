-- The words of a frame in one list, its locals first.
use Rattle.std.proofs.Common.{◌≡◌, ℕ, zero, suc, ◌≤◌, List, [], ◌∷◌, ◌++◌, length, take, drop, refl, sym, ap, ◌∙◌, arith}
use Rattle.std.specs.Prelude.{reverse}
use Rattle.std.proofs.lemmas.List.{take-append-le, take_at, drop_at}
use Rattle.jv_values.specs.declared.value.Value.{Value}
use Rattle.jv_values.specs.Values.{values_of, operands_in}
use Rattle.jv_types.specs.declared.number.MethodNo.{MethodNo}
use Rattle.local_steps.specs.Steps.{frame_in}
use Rattle.local_runs.specs.Lent.{frame_of}

take_take : {A : Type 0} (xs : List A) (d n : ℕ) → d ≤ n → take d (take n xs) ≡ take d xs
take_take xs zero n h = refl
take_take xs (suc d) zero h = absurd (omega arith)
take_take [] (suc d) (suc n) h = refl
take_take (x ∷ xs) (suc d) (suc n) h = ap (λ ys. x ∷ ys) (take_take xs d n (omega arith))

operands_cut : (words : List Value) (depth room : ℕ) → depth ≤ room → operands_in (take room words) depth ≡ operands_in words depth
unfolding operands_in
operands_cut words depth room h = ap (λ ws. values_of (reverse ws)) (take_take words depth room h)

operands_front : (words others : List Value) (depth : ℕ) → depth ≤ length words → operands_in (words ++ others) depth ≡ operands_in words depth
unfolding operands_in
operands_front words others depth h = ap (λ ws. values_of (reverse ws)) (take-append-le depth words others h)

-- the frame of the words before, as it is lent in two parts
pub frame_parted : (pc n depth room : ℕ) (words locals others : List Value) → locals ≡ take n words → others ≡ drop n words → depth ≤ room → frame_in pc (take n words) (drop n words) depth ≡ frame_in pc locals (take room others) depth
frame_parted pc n depth room words locals others front back h =
    ap (λ ls. frame_in pc ls (drop n words) depth) (sym front)
    ∙ ap (λ os. frame_in pc locals os depth) (sym back)
    ∙ ap (λ ops. let frame = frame_in pc locals others depth in record frame { stack = ops }) (sym (operands_cut others depth room h))

-- the frame of the words after, which were put together again
pub frame_joined : (pc n depth : ℕ) (locals stack others : List Value) → length locals ≡ n → depth ≤ length stack → frame_in pc locals stack depth ≡ frame_in pc (take n (locals ++ (stack ++ others))) (drop n (locals ++ (stack ++ others))) depth
frame_joined pc n depth locals stack others same h =
    ap (λ ops. let frame = frame_in pc locals stack depth in record frame { stack = ops }) (sym (operands_front stack others depth h))
    ∙ ap (λ ls. frame_in pc ls (stack ++ others) depth) (sym (take_at locals (stack ++ others) n same))
    ∙ ap (λ os. frame_in pc (take n (locals ++ (stack ++ others))) os depth) (sym (drop_at locals (stack ++ others) n same))

-- a frame whose words are lent as they stand
pub whole : (words : List Value) (depth : ℕ) → operands_in words depth ≡ values_of (reverse (take depth words))
unfolding operands_in
whole words depth = refl

pub room_frame : (method : MethodNo) (pc n depth : ℕ) (words : List Value) → frame_of (record { method = method; pc = pc; locals = take n words; stack = take depth (drop n words) }) ≡ frame_in pc (take n words) (drop n words) depth
room_frame method pc n depth words =
    ap (λ ops. let frame = frame_in pc (take n words) (drop n words) depth in record frame { stack = ops }) (sym (whole (drop n words) depth))
