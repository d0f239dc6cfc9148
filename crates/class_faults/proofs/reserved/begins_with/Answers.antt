use Rattle.std.proofs.Common.{◌≡◌, ℕ, eqb, ◌≤◌, List, [], ◌∷◌, length, rules, tests, refl, ◌∙◌, arith}
use Rattle.std.specs.List.{list_all, zip, starts_with}
use Rattle.std.proofs.lemmas.Iterator.{YieldsList-from_slice, YieldsList-from_zip}
use Rattle.std.proofs.lemmas.Iterator.Search.{all_from_yields_List}
use Rattle.class_faults.proofs.reserved.begins_with.Goals as goal

-- a text begins with another that is no longer where each of its units is the same
same_front : (front name : List ℕ) → length front ≤ length name
    → list_all (λ pair. eqb pair.0 pair.1) (zip front name) ≡ starts_with eqb name front
same_front [] name long = refl
same_front (byte ∷ front) [] long = absurd (omega arith)
same_front (byte ∷ front) (unit ∷ name) long = rw (same_front front name (omega arith)) refl

pub returns-then-name-front : goal.returns-then-name-front
returns-then-name-front c =
    let name = c.args.name.now in
    let front = c.args.front.now in
    let long : length front ≤ length name = c.if-name-front.true in
    let each = all_from_yields_List {s = c.zip.result}
    (λ (pair : ℕ × ℕ). eqb pair.0 pair.1) c.all.new.self _ c.all.result c.all.ensures.ran
    (YieldsList-from_zip (YieldsList-from_slice front cc) (YieldsList-from_slice name cc))
    (λ x b q k. search (rules, tests)) in
    each ∙ same_front front name long
