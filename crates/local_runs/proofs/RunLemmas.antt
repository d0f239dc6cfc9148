-- One step more.
use Rattle.std.proofs.Common.{◌≡◌, ℕ, zero, suc, ◌+◌, ◌≤◌, [], ◌∷◌, ◌++◌, refl, sym, ap, ◌∙◌, subst, arith}
use Rattle.std.specs.Prelude.{Bool, true, false, Option, Some, None, nat_le, find, cond, option_and_then}
use Rattle.std.specs.List.{range_with_len}
use Rattle.std.specs.Option.{option_or}
use Rattle.std.proofs.lemmas.List.Folds.{find-append}
use Rattle.machine_model.specs.State.{Frame}
use Rattle.machine_model.specs.LocalStep.{Local, goes_to, not_local, wrong}
use Rattle.local_steps.specs.Steps.{IsRight}
use Rattle.local_runs.specs.Places.{CanGoOn}
use Rattle.local_runs.specs.Lent.{first_in, mark_in}
use Rattle.local_runs.specs.Runs.{frame_reached, frame_after, goes_back, reaches, first_reached, first_with, GoesRight, NeverWrong}

pub after_more : (step : Frame → Local) (start before after : Frame) (n : ℕ) → frame_after step start n ≡ Some before → step before ≡ goes_to after → frame_after step start (suc n) ≡ Some after
after_more step start before after n e s =
    ap (λ (o : Option Frame). option_and_then (λ frame. frame_reached (step frame)) o) e ∙ ap frame_reached s

pub reaches_more : (step : Frame → Local) (start before after : Frame) (n : ℕ) → frame_after step start n ≡ Some before → step before ≡ goes_to after → reaches step start (suc n) ≡ nat_le after.pc before.pc
reaches_more step start before after n e s =
    ap (λ (o : Option Frame). goes_back o (frame_after step start (suc n))) e
    ∙ ap (goes_back (Some before)) (after_more step start before after n e s)

range_more : (a n : ℕ) → range_with_len a (suc n) ≡ range_with_len a n ++ (a + n) ∷ []
range_more a zero = ap (λ k. k ∷ []) (omega arith)
range_more a (suc n) = ap (λ ks. a ∷ ks) (range_more (a + 1) n ∙ ap (λ k. range_with_len (a + 1) n ++ k ∷ []) (omega arith))

first_chosen : (test : ℕ → Bool) (first : Option ℕ) (steps : ℕ) (b : Bool) → test steps ≡ b → option_or first (find test (steps ∷ [])) ≡ first_with first b steps
first_chosen test (Some first) steps b e = refl
first_chosen test None steps b e = ap (λ (c : Bool). cond c (Some steps) None) e

pub first_more : (step : Frame → Local) (start : Frame) (n : ℕ) (mark : Bool) → reaches step start (suc n) ≡ mark → first_reached step start (suc n) ≡ first_with (first_reached step start n) mark (suc n)
first_more step start n mark e =
    ap (find (reaches step start)) (range_more 1 n ∙ ap (λ k. range_with_len 1 n ++ k ∷ []) (omega arith))
    ∙ find-append (reaches step start) (range_with_len 1 n) (suc n ∷ [])
    ∙ first_chosen (reaches step start) (first_reached step start n) (suc n) mark e

-- ---- steps that are never wrong

next_right : (step : Frame → Local) (start before : Frame) (n : ℕ) (next : Local) → NeverWrong step start → frame_after step start n ≡ Some before → step before ≡ next → CanGoOn step next
next_right step start before n (goes_to after) never e s =
    subst (GoesRight step) (after_more step start before after n e s) (never (suc n))
next_right step start before n not_local never e s = tt
next_right step start before n wrong never e s =
    subst IsRight s (subst (GoesRight step) e (never n))

pub can_go_on : (step : Frame → Local) (start before : Frame) (n : ℕ) → NeverWrong step start → frame_after step start n ≡ Some before → CanGoOn step (step before)
can_go_on step start before n never e = next_right step start before n (step before) never e refl

-- ---- more steps after so many

pub after_plus : (step : Frame → Local) (start between : Frame) (m n : ℕ) → frame_after step start m ≡ Some between → frame_after step start (m + n) ≡ frame_after step between n
after_plus step start between m zero e =
    let none : m + 0 ≡ m = omega arith in ap (frame_after step start) none ∙ e
after_plus step start between m (suc n) e =
    let on : m + suc n ≡ suc (m + n) = omega arith in
    ap (frame_after step start) on
    ∙ ap (λ (o : Option Frame). option_and_then (λ frame. frame_reached (step frame)) o) (after_plus step start between m n e)

pub reaches_plus : (step : Frame → Local) (start between : Frame) (m n : ℕ) → frame_after step start m ≡ Some between → reaches step start (suc (m + n)) ≡ reaches step between (suc n)
reaches_plus step start between m n e =
    let on : suc (m + n) ≡ m + suc n = omega arith in
    ap (λ (o : Option Frame). goes_back o (frame_after step start (suc (m + n)))) (after_plus step start between m n e)
    ∙ ap (goes_back (frame_after step between n)) (ap (frame_after step start) on ∙ after_plus step start between m (suc n) e)

first_in_more : (before more : Option ℕ) (m n : ℕ) (mark : Bool) → first_with (first_in before m more) mark (suc (m + n)) ≡ first_in before m (first_with more mark (suc n))
first_in_more (Some first) more m n mark = refl
first_in_more None (Some first) m n mark = refl
first_in_more None None m n true = ap Some (omega arith)
first_in_more None None m n false = refl

first_in_none : (first : Option ℕ) (m : ℕ) → first_in first m None ≡ first
first_in_none (Some first) m = refl
first_in_none None m = refl

pub first_plus : (step : Frame → Local) (start between : Frame) (m n : ℕ) → frame_after step start m ≡ Some between → first_reached step start (m + n) ≡ first_in (first_reached step start m) m (first_reached step between n)
first_plus step start between m zero e =
    let none : m + 0 ≡ m = omega arith in
    ap (first_reached step start) none ∙ sym (first_in_none (first_reached step start m) m)
first_plus step start between m (suc n) e =
    let on : m + suc n ≡ suc (m + n) = omega arith in
    ap (first_reached step start) on
    ∙ first_more step start (m + n) (reaches step between (suc n)) (reaches_plus step start between m n e)
    ∙ ap (λ first. first_with first (reaches step between (suc n)) (suc (m + n))) (first_plus step start between m n e)
    ∙ first_in_more (first_reached step start m) (first_reached step between n) m n (reaches step between (suc n))
    ∙ ap (first_in (first_reached step start m) m) (sym (first_more step between n (reaches step between (suc n)) refl))

pub mark_plus : (step : Frame → Local) (start between : Frame) (m n : ℕ) → frame_after step start m ≡ Some between → reaches step start (m + n) ≡ mark_in (reaches step start m) n (reaches step between n)
mark_plus step start between m zero e = let none : m + 0 ≡ m = omega arith in ap (reaches step start) none
mark_plus step start between m (suc n) e =
    let on : m + suc n ≡ suc (m + n) = omega arith in
    ap (reaches step start) on ∙ reaches_plus step start between m n e

-- the first is one of them
first_bound : (first : Option ℕ) (mark : Bool) (n k : ℕ) → ((j : ℕ) → first ≡ Some j → j ≤ n) → first_with first mark (suc n) ≡ Some k → k ≤ suc n
first_bound (Some j) mark n k h e = let same : j ≡ k = cc in omega (arith, h j refl)
first_bound None true n k h e = let same : suc n ≡ k = cc in omega arith
first_bound None false n k h e = absurd cc

pub first_within : (step : Frame → Local) (start : Frame) (n k : ℕ) → first_reached step start n ≡ Some k → k ≤ n
first_within step start zero k e = absurd cc
first_within step start (suc n) k e =
    first_bound (first_reached step start n) (reaches step start (suc n)) n k (first_within step start n)
    (sym (first_more step start n (reaches step start (suc n)) refl) ∙ e)
