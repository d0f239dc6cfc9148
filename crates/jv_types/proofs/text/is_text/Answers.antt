use Rattle.std.proofs.Common.{◌≡◌, ℕ, eqb, List, [], ◌∷◌, length, bytes_eq, rules, tests, refl, ◌∙◌, arith}
use Rattle.std.specs.List.{list_all, zip}
use Rattle.std.proofs.lemmas.Iterator.{YieldsList-from_slice, YieldsList-from_zip}
use Rattle.std.proofs.lemmas.Iterator.Search.{all_from_yields_List}
use Rattle.jv_types.proofs.text.is_text.Goals as goal

-- texts of one length are the same where each unit is
same_units : (units text : List ℕ) → length units ≡ length text
    → list_all (λ pair. eqb pair.0 pair.1) (zip units text) ≡ bytes_eq units text
same_units [] [] long = refl
same_units [] (byte ∷ text) long = absurd (omega arith)
same_units (unit ∷ units) [] long = absurd (omega arith)
same_units (unit ∷ units) (byte ∷ text) long = rw (same_units units text (omega arith)) refl

pub returns-then-units-text : goal.returns-then-units-text
returns-then-units-text c =
    let units = c.args.units.now in
    let text = c.args.text.now in
    let long : length units ≡ length text = c.if-units-text.true in
    let each = all_from_yields_List {s = c.zip.result}
    (λ (pair : ℕ × ℕ). eqb pair.0 pair.1) c.all.new.self _ c.all.result c.all.ensures.ran
    (YieldsList-from_zip (YieldsList-from_slice units cc) (YieldsList-from_slice text cc))
    (λ x b q k. search (rules, tests)) in
    each ∙ same_units units text long
