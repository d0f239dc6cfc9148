use Rattle.std.proofs.Common.{◌≡◌, ◌≤◌, ◌++◌, List, ℕ, length, map, sum, ap, sym, ◌∙◌, arith}
use Rattle.std.specs.List.{flat_map}
use Rattle.std.proofs.lemmas.List.{append-nil, at_drop_all}
use Rattle.static_fields.specs.Statics.{Word}
use Rattle.static_fields.proofs.Places.{counts_of, firsts, all_first, length-values}
use Rattle.static_fields.proofs.statics.fields_of.Goals as goal

pub invariant_of-result : goal.invariant_of-result
invariant_of-result c =
    let rows = c.args.rows.now in
    let past : length rows ≤ c.loop-row.row-index = omega arith in
    let counts : c.loop-row.numbers ≡ counts_of rows =
    sym (append-nil c.loop-row.numbers) ∙ sym (at_drop_all (λ l. c.loop-row.numbers ++ counts_of l) rows c.loop-row.row-index past)
    ∙ c.loop-row.invariant.counts in
    let values : c.loop-row.values.items ≡ flat_map firsts rows =
    sym (append-nil c.loop-row.values.items) ∙ sym (at_drop_all (λ l. c.loop-row.values.items ++ flat_map firsts l) rows c.loop-row.row-index past)
    ∙ c.loop-row.invariant.values in
    ap (λ (l : List Word). length l) values ∙ length-values rows ∙ ap (λ (l : List ℕ). sum l) (sym counts)

pub returns : goal.returns
returns c = λ place.
    let rows = c.args.rows.now in
    let past : length rows ≤ c.loop-row.row-index = omega arith in
    let counts : c.loop-row.numbers ≡ counts_of rows =
    sym (append-nil c.loop-row.numbers) ∙ sym (at_drop_all (λ l. c.loop-row.numbers ++ counts_of l) rows c.loop-row.row-index past)
    ∙ c.loop-row.invariant.counts in
    let values : c.loop-row.values.items ≡ flat_map firsts rows =
    sym (append-nil c.loop-row.values.items) ∙ sym (at_drop_all (λ l. c.loop-row.values.items ++ flat_map firsts l) rows c.loop-row.row-index past)
    ∙ c.loop-row.invariant.values in
    all_first rows c.loop-row.numbers c.loop-row.values.items counts values place
