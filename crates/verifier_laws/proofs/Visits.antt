-- The pass over the instructions of a method, from one on.
use Rattle.std.proofs.Common.{◌≡◌, ℕ, zero, suc, ◌+◌, ◌≤◌, ◌==◌, List, [], ◌∷◌, Option, Some, None, length, slice_get, drop, refl, ap, ◌∙◌, add-one, arith}
use Rattle.std.specs.Prelude.{is_none}
use Rattle.std.proofs.lemmas.List.{at_drop_more, at_drop_all}
use Rattle.std.proofs.lemmas.Bool.Decides.{nat_tests}
use Rattle.std.proofs.lemmas.Option.{get_or_from_slice_get, slice_get_within}
use Rattle.jv_model.specs.Refusal.{Rule}
use Rattle.jv_model.specs.Operand.{Operand}
use Rattle.jv_model.specs.Code.{Placed}
use Rattle.typing_model.specs.VerificationType.{TypeFrame}
use Rattle.typing_model.specs.Environment.{Environment}
use Rattle.typing_model.specs.Rules.{Visit, first_failing, flow_behind}
use Rattle.typing_model.specs.FailingPlace.{visits_from, first_place}

-- the visit of the instruction with that number
abbrev pub visit_at : Option TypeFrame → List (Placed Operand) → ℕ → Placed Operand → Visit
visit_at flow ps n p = record { placed = p; flow = flow; is_last = is_none (slice_get ps (n + 1)) }

-- where the instructions from that number on fail first
abbrev pub place_from : Environment → Option TypeFrame → ℕ → Option (ℕ × Rule)
place_from e flow n = first_place e (visits_from e flow (drop n e.body.instructions))

drop_get : {A : Type 0} (xs : List A) (n : ℕ) → slice_get (drop (n + 1) xs) 0 ≡ slice_get xs (n + 1)
drop_get [] n = rw add-one refl
drop_get (x ∷ xs) n = rw add-one (by xs n)
  where
    by : {A : Type 0} (xs : List A) (n : ℕ) → slice_get (drop n xs) 0 ≡ slice_get xs n
    by xs zero = refl
    by [] (suc n) = refl
    by (y ∷ ys) (suc n) = by ys n

module _ (e : Environment) (flow : Option TypeFrame) (n : ℕ) where
  module _ (p : Placed Operand) (at : slice_get e.body.instructions n ≡ Some p) where
    step : place_from e flow n
        ≡ first_place e (visits_from e flow (p ∷ drop (n + 1) e.body.instructions))
    step =
        at_drop_more (λ ps. first_place e (visits_from e flow ps)) e.body.instructions n p
        (slice_get_within e.body.instructions n p at)
        ∙ ap (λ q. first_place e (visits_from e flow (q ∷ drop (n + 1) e.body.instructions)))
        (get_or_from_slice_get e.body.instructions n p p at)

    pub as_here : record { placed = p; flow = flow; is_last = is_none (slice_get (drop (n + 1) e.body.instructions) 0) }
        ≡ visit_at flow e.body.instructions n p
    as_here = λ i. record { placed = p; flow = flow; is_last = is_none (drop_get e.body.instructions n i) }

    -- it fails there
    pub fails_here : (rule : Rule) → first_failing e (visit_at flow e.body.instructions n p) ≡ Some rule
        → place_from e flow n ≡ Some (p.pc, rule)
    unfolding first_place visits_from
    fails_here rule fails = step ∙ rw (as_here, fails) refl

    -- it doesn't, and flow goes on
    pub goes_further : first_failing e (visit_at flow e.body.instructions n p) ≡ None
        → place_from e flow n ≡ place_from e (flow_behind e (visit_at flow e.body.instructions n p)) (n + 1)
    unfolding first_place visits_from
    goes_further none = step ∙ rw (as_here, none) refl

    -- the last one
    pub is_last : is_none (slice_get e.body.instructions (n + 1)) ≡ (n + 1 == length e.body.instructions)
    is_last = by e.body.instructions (n + 1) (omega (arith, slice_get_within e.body.instructions n p at))
      where
        by : {A : Type 0} (xs : List A) (m : ℕ) → m ≤ length xs → is_none (slice_get xs m) ≡ (m == length xs)
        by [] zero inside = refl
        by [] (suc m) inside = absurd (omega arith)
        by (x ∷ xs) zero inside = grind (arith, nat_tests)
        by (x ∷ xs) (suc m) inside =
            by xs m (omega arith) ∙ (let same : (m == length xs) ≡ (suc m == suc (length xs)) = grind (arith, nat_tests) in same)

  -- there are no more
  pub no_more : length e.body.instructions ≤ n → place_from e flow n ≡ None
  unfolding first_place visits_from
  no_more end = at_drop_all (λ ps. first_place e (visits_from e flow ps)) e.body.instructions n end
