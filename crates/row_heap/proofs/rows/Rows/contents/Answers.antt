use Rattle.std.proofs.Common.{◌≡◌, ℕ, ◌+◌, ◌-◌, ◌<◌, ◌≤◌, List, length, take, drop, sym, ap, subst, ◌∙◌, arith, rules}
use Rattle.std.specs.Prelude.{Option, Some, option_map, slice_get, IfSome}
use Rattle.heap_face.specs.Heap.{Stored, header_words}
use Rattle.row_heap.specs.Table.{Table, table_words, IsWhole}
use Rattle.row_heap.proofs.RowLemmas.{length-objects_of, words-objects_of, within_rows, has_row}
use Rattle.row_heap.proofs.rows.Rows.contents.Goals as goal

cut : (start words one other : ℕ) (list given : List ℕ) → one ≡ other → given ≡ list
    → take (words - other) (drop start list) ≡ take (start + (words - one) - start) (drop start given)
cut start words one other list given same is =
    let count : words - other ≡ start + (words - one) - start = omega (arith, same) in
    ap (λ (n : ℕ). take n (drop start list)) count ∙ ap (λ (l : List ℕ). take (start + (words - one) - start) (drop start l)) (sym is)

pub get-row-requires : goal.get-row-requires
get-row-requires c = within_rows c.self.inside c.args.self.now c.args.place c.self.view_is c.requires

pub overflow_sub-end : goal.overflow_sub-end
overflow_sub-end c =
    let row = has_row c.self.inside c.args.self.now c.args.place c.get-row.result.now c.self.invariant c.self.view_is c.get-row.ensures in
    omega (arith, row.header, c.header_words.ensures)

pub slice_bounds-result-end : goal.slice_bounds-result-end
slice_bounds-result-end c =
    let row = has_row c.self.inside c.args.self.now c.args.place c.get-row.result.now c.self.invariant c.self.view_is c.get-row.ensures in
    let to = row.to in
    let header = row.header in
    let words : length c.as_slice.result.now ≡ length c.self.inside.words.items = ap length c.as_slice.ensures in
    search rules

pub returns : goal.returns
returns c =
    let row = has_row c.self.inside c.args.self.now c.args.place c.get-row.result.now c.self.invariant c.self.view_is c.get-row.ensures in
    ap (option_map (λ (object : Stored ℕ). object.contents)) row.object
    ∙ ap Some (cut c.get-row.result.now.start c.get-row.result.now.shape.words _ _ _ _ c.header_words.ensures c.as_slice.ensures)
