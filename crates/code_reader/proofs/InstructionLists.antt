-- The instructions of a method, one behind another.
use Rattle.std.proofs.Common.{◌≡◌, ℕ, zero, suc, ◌<◌, false, eqb, List, [], ◌∷◌, ◌++◌, length, Option, Result, Ok, Err, refl, sym, ap, subst, ◌∙◌, arith, append_assoc}
use Rattle.std.proofs.lemmas.List.{append-nil}
use Rattle.std.proofs.lemmas.Bool.{ne_eqb}
use Rattle.jv_model.specs.Refusal.{Cause}
use Rattle.jv_model.specs.Fallible.{◌>>=◌}
use Rattle.jv_model.specs.Input.{Input}
use Rattle.jv_model.specs.ClassData.{ClassData}
use Rattle.jv_model.specs.Code.{Placed}
use Rattle.code_model.specs.InstructionReading.{cut_is_wrong, instruction_at, instructions_within}
use Rattle.code_laws.proofs.Instructions.{site_of}
use Rattle.code_reader.specs.Instruction.{uncut_at}
use Rattle.jv_types.specs.Reading.{Refuses}
use Rattle.class_reader.proofs.Loops.InFront.{Refuses-first}

-- ---- an instruction

pub instruction_is : (file : ClassData) (method pc : ℕ) (input : Input) → pc ≡ input.at
    → instruction_at file method input
    ≡ cut_is_wrong (site_of file method pc) (uncut_at (site_of file method pc) input)
unfolding instruction_at
instruction_is file method pc input here = rw here refl

-- ---- instructions

-- there are bytes left
pub some_left : (count : ℕ) → eqb count 0 ≡ false → 0 < count
some_left zero e = absurd cc
some_left (suc n) e = omega arith

-- these items in front of those that are read
abbrev pub items_in_front : {A : Type 0} → List A → Result (List A) Cause → Result (List A) Cause
items_in_front front read = read >>= λ others. Ok (front ++ others)

pub first_in_front : {A : Type 0} (front : List A) (first : A) (read : Result (List A) Cause)
    → items_in_front front (read >>= λ others. Ok (first ∷ others))
    ≡ items_in_front (front ++ first ∷ []) read
first_in_front front first (Err cause) = refl
first_in_front front first (Ok others) = ap Ok (sym (append_assoc front (first ∷ []) others))

module _ (file : ClassData) (method most : ℕ) (input : Input) (front : List (Placed ℕ)) where
  more_is : 0 < length input.bytes → instructions_within (suc most) file method input
      ≡ (instruction_at file method input >>= λ first.
      (instructions_within most file method first.1 >>= λ others. Ok (first.0 ∷ others)))
  unfolding instructions_within
  more_is some = rw (ne_eqb (length input.bytes) 0 (λ e. omega (arith, e))) refl

  pub goes_on : (first : Placed ℕ) (rest : Input) → 0 < length input.bytes
      → instruction_at file method input ≡ Ok (first, rest)
      → items_in_front front (instructions_within (suc most) file method input)
      ≡ items_in_front (front ++ first ∷ []) (instructions_within most file method rest)
  goes_on first rest some is =
      ap (items_in_front front) (more_is some)
      ∙ ap (λ (read : Result (Placed ℕ × Input) Cause). items_in_front front (read >>= λ first.
      (instructions_within most file method first.1 >>= λ others. Ok (first.0 ∷ others)))) is
      ∙ first_in_front front first (instructions_within most file method rest)

  pub is_refused : (refusal : Option Cause) → 0 < length input.bytes
      → Refuses refusal (instruction_at file method input)
      → Refuses refusal (items_in_front front (instructions_within (suc most) file method input))
  is_refused refusal some refused =
      subst (λ (read : Result (List (Placed ℕ)) Cause). Refuses refusal (items_in_front front read))
      (sym (more_is some))
      (Refuses-first refusal _ _ (Refuses-first refusal (instruction_at file method input) _ refused))

pub is_done : (file : ClassData) (method most : ℕ) (input : Input) (front : List (Placed ℕ))
    → length input.bytes ≡ 0
    → items_in_front front (instructions_within most file method input) ≡ Ok front
unfolding instructions_within
is_done file method zero input front none = ap Ok (append-nil front)
is_done file method (suc most) input front none = rw none (ap Ok (append-nil front))
