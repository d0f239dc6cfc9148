use Rattle.std.proofs.Common.{◌≡◌, ℕ, ◌+◌, ◌-◌, ◌<◌, ◌≤◌, List, length, take, drop, sym, ap, subst, ◌∙◌, arith, rules}
use Rattle.std.specs.Prelude.{Option, Some, option_map, slice_get, IfSome}
use Rattle.heap_face.specs.Heap.{Stored, header_words}
use Rattle.row_heap.specs.Table.{Table, table_words, IsWhole}
use Rattle.row_heap.proofs.RowLemmas.{length-objects_of, words-objects_of, within_rows, all_whole}
use Rattle.row_heap.proofs.rows.Rows.used.Goals as goal

pub returns-clause-words : goal.returns-clause-words
returns-clause-words c =
    c.self.invariant.used ∙ sym (words-objects_of c.self.inside.rows.items c.self.inside.words.items)
    ∙ ap (λ (t : Table). table_words t.objects) c.self.view_is

pub returns-clause-whole : goal.returns-clause-whole
returns-clause-whole c = all_whole c.self.inside c.args.self.now c.self.invariant c.self.view_is
