-- The targets of a `lookupswitch`.
use Rattle.std.proofs.Common.{◌≡◌, ℕ, Bool, ◌&&◌, List, [], ◌∷◌, map, ap, refl}
use Rattle.std.specs.Prelude.{ℤ}
use Rattle.std.specs.List.{list_all}
use Rattle.jv_types.specs.Instruction.{pairs_of}
use Rattle.jv_types.specs.declared.instruction.SwitchPair.{SwitchPair}

pub pairs_go : (p : ℕ → Bool) (pairs : List SwitchPair)
    → list_all (λ (pair : SwitchPair). p pair.target) pairs ≡ list_all p (map (λ (row : ℤ × ℕ). row.1) (pairs_of pairs))
pairs_go p [] = refl
pairs_go p (pair ∷ pairs) = ap (λ (b : Bool). p pair.target && b) (pairs_go p pairs)
