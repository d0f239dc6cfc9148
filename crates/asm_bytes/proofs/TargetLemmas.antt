-- Tables that find the same labels have the same targets.
use Rattle.std.proofs.Common.{◌≡◌, ℕ, zero, suc, ◌≤◌, List, [], ◌∷◌, Option, take, replicate, refl, arith}
use Rattle.std.specs.Prelude.{option_and_then, unwrap_or}
use Rattle.assembler_model.specs.CodeFaults.{LabelPlace, target_in}
use Rattle.asm_code.specs.Labels.{SameLabels}

-- where a label that is found so stands
abbrev place_target : Option LabelPlace → ℕ
place_target place = unwrap_or (option_and_then (λ (p : LabelPlace). p.pc) place) 0

pub same_target : (labels others : List LabelPlace) → SameLabels labels others → target_in labels ≡ target_in others
same_target labels others same = λ i label. place_target (same label i)

-- the first of three zeros
pub zeros : (n : ℕ) → n ≤ 3 → take {A = ℕ} n (0 ∷ 0 ∷ 0 ∷ []) ≡ replicate n 0
zeros zero few = refl
zeros (suc zero) few = refl
zeros (suc (suc zero)) few = refl
zeros (suc (suc (suc zero))) few = refl
zeros (suc (suc (suc (suc n)))) few = absurd (omega arith)
