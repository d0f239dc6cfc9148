-- Bytes that a sink gets piece by piece.
use Rattle.std.proofs.Common.{◌≡◌, ℕ, ◌+◌, List, ◌++◌, Option, Some, None, refl, ap, ◌∙◌, append_assoc, take, drop, sym}
use Rattle.std.proofs.Math.Seq.{take-add}
use Rattle.jv_model.specs.Outside.{followed_by}

followed_by-twice : (known : Option (List ℕ)) (first second : List ℕ)
    → followed_by (followed_by known first) second ≡ followed_by known (first ++ second)
followed_by-twice None first second = refl
followed_by-twice (Some held) first second = ap Some (append_assoc held first second)

-- one more piece of the text behind those so far
pub one_more : (start before now : Option (List ℕ)) (text : List ℕ) (written taken : ℕ)
    → before ≡ followed_by start (take written text)
    → now ≡ followed_by before (take taken (drop written text))
    → now ≡ followed_by start (take (written + taken) text)
one_more start before now text written taken so_far more =
    more ∙ ap (λ known. followed_by known (take taken (drop written text))) so_far
    ∙ followed_by-twice start (take written text) (take taken (drop written text))
    ∙ ap (followed_by start) (sym (take-add written taken text))
