use Rattle.std.proofs.Common.{◌≡◌, ℕ, ◌+◌, ◌-◌, ◌<◌, ◌≤◌, List, length, take, drop, sym, ap, subst, ◌∙◌, arith, rules}
use Rattle.std.specs.Prelude.{Option, Some, option_map, slice_get, IfSome}
use Rattle.heap_face.specs.Heap.{Stored, header_words}
use Rattle.row_heap.specs.Table.{Table, table_words, IsWhole}
use Rattle.row_heap.proofs.RowLemmas.{length-objects_of, words-objects_of, within_rows, has_row}
use Rattle.row_heap.proofs.rows.Rows.lock.Goals as goal

pub get-requires : goal.get-requires
get-requires c = within_rows c.self.inside c.args.self.now c.args.place c.self.view_is c.requires

pub returns : goal.returns
returns c = ap (option_map (λ (object : Stored ℕ). object.lock))
    (has_row c.self.inside c.args.self.now c.args.place c.get.result.now c.self.invariant c.self.view_is c.get.ensures).object
