use Rattle.std.proofs.Common.{◌≡◌, ℕ, ◌+◌, ◌-◌, ◌<◌, ◌≤◌, List, length, take, drop, sym, ap, subst, ◌∙◌, arith, rules}
use Rattle.std.specs.Prelude.{Option, Some, option_map, slice_get, IfSome}
use Rattle.heap_face.specs.Heap.{Stored, header_words}
use Rattle.row_heap.specs.Table.{Table, table_words, IsWhole}
use Rattle.row_heap.proofs.RowLemmas.{length-objects_of, words-objects_of, used_is, all_whole}
use Rattle.row_heap.proofs.rows.Rows.len.Goals as goal

pub returns-clause-length : goal.returns-clause-length
returns-clause-length c = c.len.ensures ∙ sym (length-objects_of c.self.inside.rows.items c.self.inside.words.items)
    ∙ ap (λ (t : Table). length t.objects) c.self.view_is

pub returns-clause-whole : goal.returns-clause-whole
returns-clause-whole c = all_whole c.self.inside c.args.self.now c.self.invariant c.self.view_is

pub returns-clause-room : goal.returns-clause-room
returns-clause-room c =
    let half : c.self.inside.half ≡ c.args.self.now.half = ap (λ (t : Table). t.half) c.self.view_is in
    omega (arith, c.self.invariant.within, half, used_is c.self.inside c.args.self.now c.self.invariant c.self.view_is)
