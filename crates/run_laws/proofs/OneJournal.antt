-- There is one round-robin journal of each length.
use Rattle.std.proofs.Common.{◌≡◌, ℕ, ◌+◌, List, [], ◌∷◌, ◌++◌, length, Option, Some, None, is_some, refl, sym, ap, subst, ◌∙◌, arith}
use Rattle.std.specs.Prelude.{IsTrue, IfSome}
use Rattle.std.proofs.lemmas.Bool.{both_ways}
use Rattle.jv_model.specs.Journal.{Entry, run, attempt}
use Rattle.machine_model.specs.Machine.{Machine, Program}
use Rattle.machine_model.specs.Start.{start}
use Rattle.journal_model.specs.Journal.{made, replayed, replay}
use Rattle.journal_model.specs.RoundRobin.{IsSlice, TakesTurns, IsRoundRobin}
use Rattle.run_laws.proofs.Fronts.{bind_again}
use Rattle.run_laws.proofs.Loops.{one_slice}

if_some : {A : Type 0} (found : Option A) (P : A → Type 0) → IsTrue (is_some found) → IfSome found P
    → (a : A) × (found ≡ Some a) × P a
if_some None P legal holds = absurd cc
if_some (Some a) P legal holds = (a, refl, holds)

some_same : {A : Type 0} {a b : A} → Some a ≡ Some b → a ≡ b
some_same e = cc

pub one_journal : (cursor : ℕ) (machine : Machine) (one other : List Entry)
    → TakesTurns cursor machine one → TakesTurns cursor machine other → length one ≡ length other → one ≡ other
unfolding TakesTurns
one_journal cursor machine [] [] p q same = refl
one_journal cursor machine [] (entry ∷ other) p q same = absurd (omega arith)
one_journal cursor machine (entry ∷ one) [] p q same = absurd (omega arith)
one_journal cursor machine (attempt ∷ one) (attempt ∷ other) p q same =
    let first = if_some (made attempt machine) (λ next. TakesTurns cursor next one) p.0 p.1 in
    let second = if_some (made attempt machine) (λ next. TakesTurns cursor next other) q.0 q.1 in
    let next : second.0 ≡ first.0 = some_same (sym second.1 ∙ first.1) in
    ap (λ (list : List Entry). attempt ∷ list) (one_journal cursor first.0 one other first.2 (subst (λ (m : Machine). TakesTurns cursor m other) next second.2) (omega arith))
one_journal cursor machine (attempt ∷ one) (run u more ∷ other) p q same = absurd (both_ways _ q.0 p.0)
one_journal cursor machine (run t count ∷ one) (attempt ∷ other) p q same = absurd (both_ways _ p.0 q.0)
one_journal cursor machine (run t count ∷ one) (run u more ∷ other) p q same =
    let thread : u ≡ t = some_same (sym q.1 ∙ p.1) in
    let slice = subst (λ (n : ℕ). IsSlice machine n more) thread q.2 in
    let steps : more ≡ count = one_slice t more count machine slice p.2 in
    let entry : run u more ≡ run t count = cc in
    let first = if_some (made (run t count) machine) (λ next. TakesTurns (t + 1) next one) p.2.legal p.3 in
    let second = if_some (made (run u more) machine) (λ next. TakesTurns (u + 1) next other) q.2.legal q.3 in
    let next : second.0 ≡ first.0 = some_same (sym second.1 ∙ ap (λ (e : Entry). made e machine) entry ∙ first.1) in
    let rest = subst (λ (m : Machine). TakesTurns (t + 1) m other) next (subst (λ (n : ℕ). TakesTurns (n + 1) second.0 other) thread second.2) in
    ap (λ (list : List Entry). run t count ∷ list) (one_journal (t + 1) first.0 one other first.2 rest (omega arith)) ∙ ap (λ (e : Entry). e ∷ other) (sym entry)

-- A program has one round-robin journal of each length.
pub one_round_robin : (program : Program) (one other : List Entry) → IsRoundRobin program one
    → IsRoundRobin program other → length one ≡ length other → one ≡ other
one_round_robin program one other = one_journal 0 (start program) one other

-- ---- round robin is legal

-- A round-robin journal is legal.
pub turns_are_legal : (cursor : ℕ) (machine : Machine) (entries : List Entry)
    → TakesTurns cursor machine entries → (end : Machine) × (replayed entries machine ≡ Some end)
unfolding TakesTurns replayed
turns_are_legal cursor machine [] p = (machine, refl)
turns_are_legal cursor machine (attempt ∷ entries) p =
    let first = if_some (made attempt machine) (λ next. TakesTurns cursor next entries) p.0 p.1 in
    let rest = turns_are_legal cursor first.0 entries first.2 in
    (rest.0, bind_again (made attempt machine) (replayed entries) first.0 rest.0 first.1 rest.1)
turns_are_legal cursor machine (run t count ∷ entries) p =
    let first = if_some (made (run t count) machine) (λ next. TakesTurns (t + 1) next entries) p.2.legal p.3 in
    let rest = turns_are_legal (t + 1) first.0 entries first.2 in
    (rest.0, bind_again (made (run t count) machine) (replayed entries) first.0 rest.0 first.1 rest.1)

pub round_robin_is_legal : (program : Program) (entries : List Entry) → IsRoundRobin program entries
    → (end : Machine) × (replay program entries ≡ Some end)
round_robin_is_legal program entries p = turns_are_legal 0 (start program) entries p

then_if : {A : Type 0} (found : Option A) (P Q : A → Type 0) → ((a : A) → P a → Q a) → IfSome found P → IfSome found Q
then_if None P Q each holds = tt
then_if (Some a) P Q each holds = each a holds

-- A front of a round-robin journal is one.
pub turns_front : (cursor : ℕ) (machine : Machine) (front rest : List Entry)
    → TakesTurns cursor machine (front ++ rest) → TakesTurns cursor machine front
unfolding TakesTurns
turns_front cursor machine [] rest p = tt
turns_front cursor machine (attempt ∷ front) rest p =
    (p.0, then_if (made attempt machine) (λ next. TakesTurns cursor next (front ++ rest)) (λ next. TakesTurns cursor next front) (λ next. turns_front cursor next front rest) p.1)
turns_front cursor machine (run t count ∷ front) rest p =
    (p.0, p.1, p.2, then_if (made (run t count) machine) (λ next. TakesTurns (t + 1) next (front ++ rest)) (λ next. TakesTurns (t + 1) next front) (λ next. turns_front (t + 1) next front rest) p.3)
