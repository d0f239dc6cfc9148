-- A list that is read item by item, as a loop does: the items so far stand in front of those that
-- are still to be read.
use Rattle.std.proofs.Common.{◌≡◌, List, [], ◌∷◌, ◌++◌, Option, Some, None, Result, Ok, Err, refl, sym, ap, subst, ◌∙◌, append_assoc}
use Rattle.std.proofs.lemmas.List.{append-nil}
use Rattle.jv_model.specs.Refusal.{Cause}
use Rattle.jv_model.specs.Fallible.{◌>>=◌}
use Rattle.jv_model.specs.Input.{Input, in_front}
use Rattle.jv_types.specs.Reading.{Refuses}

-- a reading that is refused at its first item is refused as that is
pub Refuses-first : {A B : Type 0} (refusal : Option Cause) (first : Result A Cause)
    (others : A → Result B Cause)
    → Refuses refusal first → Refuses refusal (first >>= others)
Refuses-first (Some cause) first others refused = ap (λ read. read >>= others) refused
Refuses-first None first others refused = tt

-- two runs of items in front of the others are one run
in_front-twice : {A : Type 0} (front more : List A) (read : Result (List A × Input) Cause)
    → in_front front (in_front more read) ≡ in_front (front ++ more) read
in_front-twice {A = A} front more (Ok others) =
    ap (λ (items : List A). Ok (items, others.1)) (simp append_assoc)
in_front-twice front more (Err cause) = refl

pub goes_on : {A : Type 0} (front more : List A) (read others whole : Result (List A × Input) Cause)
    → read ≡ in_front more others → in_front front read ≡ whole
    → in_front (front ++ more) others ≡ whole
goes_on front more read others whole is so_far =
    sym (in_front-twice front more others) ∙ ap (in_front front) (sym is) ∙ so_far

pub is_refused : {A : Type 0} (refusal : Option Cause) (front : List A)
    (read whole : Result (List A × Input) Cause)
    → Refuses refusal read → in_front front read ≡ whole → Refuses refusal whole
is_refused refusal front read whole refused so_far =
    subst (Refuses refusal) so_far (Refuses-first refusal read _ refused)

pub is_done : {A : Type 0} (front : List A) (input : Input)
    (read whole : Result (List A × Input) Cause)
    → read ≡ Ok ([], input) → in_front front read ≡ whole → whole ≡ Ok (front, input)
is_done {A = A} front input read whole is so_far =
    sym so_far ∙ ap (in_front front) is
    ∙ ap (λ (items : List A). Ok (items, input)) (append-nil front)
