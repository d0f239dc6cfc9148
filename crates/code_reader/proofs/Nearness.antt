-- Instructions at places that code can have.
use Rattle.std.proofs.Common.{◌≡◌, ℕ, ◌<◌, Bool, true, false, ◌&&◌, ◌||◌, ◌==◌, List, [], ◌∷◌, ◌++◌, refl, subst, ◌∙◌}
use Rattle.std.specs.Prelude.{nat_lt}
use Rattle.std.proofs.lemmas.Bool.{eqb-true, ltb-true, lt-ltb}
use Rattle.std.proofs.lemmas.List.Folds.{list_all-append}
use Rattle.jv_model.specs.Code.{Placed}
use Rattle.jv_types.specs.Instructions.{most_places}
use Rattle.code_model.specs.CodePlaces.{is_start}
use Rattle.code_reader.specs.Near.{are_near}

both : (a b : Bool) → a ≡ true → b ≡ true → (a && (b && true)) ≡ true
both true true a-is b-is = refl
both true false a-is b-is = absurd cc
both false b a-is b-is = absurd cc

pub near_push : (front : List (Placed ℕ)) (p : Placed ℕ) → are_near front ≡ true
    → p.pc < most_places → are_near (front ++ p ∷ []) ≡ true
near_push front p near low =
    list_all-append (λ (q : Placed ℕ). nat_lt q.pc most_places) front (p ∷ [])
    ∙ both (are_near front) (nat_lt p.pc most_places) near (lt-ltb p.pc most_places low)

either : {G : Type 0} (here later low rest : Bool) → (here || later) ≡ true → (low && rest) ≡ true
    → (here ≡ true → low ≡ true → G) → (later ≡ true → rest ≡ true → G) → G
either true later true rest is near first others = first refl refl
either true later false rest is near first others = absurd cc
either false later true rest is near first others = others is near
either false later false rest is near first others = absurd cc

pub near_start : (instructions : List (Placed ℕ)) (place : ℕ) → are_near instructions ≡ true
    → is_start instructions place ≡ true → place < most_places
near_start [] place near start = absurd cc
near_start (p ∷ others) place near start =
    either (p.pc == place) (is_start others place) (nat_lt p.pc most_places) (are_near others)
    start near
    (λ here low. subst (λ n. n < most_places) (eqb-true p.pc place here)
    (ltb-true p.pc most_places low))
    (λ later rest. near_start others place rest later)
