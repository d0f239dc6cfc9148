use Rattle.std.proofs.Common.{◌≡◌, ℕ, ◌+◌, ◌-◌, ◌<◌, ◌≤◌, List, [], ◌∷◌, ◌++◌, length, ap, subst, ◌∙◌, arith, rules}
use Rattle.std.specs.Prelude.{slice_get, replicate, OnOk, Result}
use Rattle.jv_types.specs.declared.memory.NoMemory.{NoMemory}
use Rattle.heap_face.specs.Heap.{Stored, header_words}
use Rattle.row_heap.specs.Table.{Table, table_words, words_at}
use Rattle.row_heap.specs.RowsOf.{stored_as}
use Rattle.row_heap.specs.declared.rows.Row.{Row}
use Rattle.row_heap.proofs.RowLemmas.{has_room, zeros_added, copy_added, row_room, word_room, three_words, same_object, whole_of, words_of_shape}
use Rattle.row_heap.proofs.rows.Rows.add.Goals as goal

pub add_copies-requires : goal.add_copies-requires
add_copies-requires c =
    word_room c.self.inside c.args.shape.words (c.args.shape.words - c.header_words.result) c.self.invariant (omega arith)
    (has_room c.self.inside c.args.self.now c.args.shape.words c.self.invariant c.self.view_is c.requires.room)

pub add-requires : goal.add-requires
add-requires c =
    row_room c.self.inside c.args.shape.words c.self.invariant (omega (arith, three_words c.args.shape.kind, c.requires.header))
    (has_room c.self.inside c.args.self.now c.args.shape.words c.self.invariant c.self.view_is c.requires.room)

pub overflow_add-self : goal.overflow_add-self
overflow_add-self c =
    let within = has_room c.self.inside c.args.self.now c.args.shape.words c.self.invariant c.self.view_is c.requires.room in
    search rules

pub invariant_of-self : goal.invariant_of-self
invariant_of-self c =
    (zeros_added c.self.inside c.args.self.now c.add.new.self c.add_copies.new.list c.args.shape c.header_words.result c.len.result
    c.self.invariant c.self.view_is c.requires.header c.requires.room c.len.ensures c.header_words.ensures
    c.add.ensures.items c.add.ensures.spare c.add_copies.ensures.items c.add_copies.ensures.spare).table _

pub returns-clause-objects : goal.returns-clause-objects
returns-clause-objects c =
    let row : Row = record { serial = c.self.inside.free; shape = c.args.shape; lock = 0; start = c.len.result } in
    (zeros_added c.self.inside c.args.self.now c.add.new.self c.add_copies.new.list c.args.shape c.header_words.result c.len.result
    c.self.invariant c.self.view_is c.requires.header c.requires.room c.len.ensures c.header_words.ensures
    c.add.ensures.items c.add.ensures.spare c.add_copies.ensures.items c.add_copies.ensures.spare).objects
    ∙ ap (λ (t : Table). t.objects ++ stored_as (record row { serial = t.free })
    (replicate (c.args.shape.words - header_words c.args.shape.kind) 0) ∷ []) c.self.view_is
