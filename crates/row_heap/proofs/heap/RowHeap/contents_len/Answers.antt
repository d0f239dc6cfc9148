use Rattle.std.proofs.Common.{◌≡◌, ◌+◌, ◌-◌, ◌≤◌, length, sym, ◌∙◌, arith}
use Rattle.heap_face.specs.Heap.{object_of}
use Rattle.row_heap.proofs.HeapLemmas.{at_live, whole_at, dead_contents}
use Rattle.row_heap.proofs.heap.RowHeap.contents_len.Goals as goal

pub overflow_sub-a : goal.overflow_sub-a
overflow_sub-a c = let at = at_live c.self.inside.present c.args.self.now c.args.a c.self.view_is (sym c.is_live.ensures ∙ c.if-is_live.true) in omega (arith, at.some)

pub shape-shape-requires : goal.shape-shape-requires
shape-shape-requires c = (at_live c.self.inside.present c.args.self.now c.args.a c.self.view_is (sym c.is_live.ensures ∙ c.if-is_live.true)).place

pub overflow_sub-result : goal.overflow_sub-result
overflow_sub-result c =
    let whole = whole_at c.self.inside.present c.args.self.now c.args.a c.shape-shape.result (at_live c.self.inside.present c.args.self.now c.args.a c.self.view_is (sym c.is_live.ensures ∙ c.if-is_live.true)) c.shape-shape.ensures.shape c.shape-shape.ensures.whole in
    omega (arith, whole, c.header_words.ensures)

pub returns-then-is_live : goal.returns-then-is_live
returns-then-is_live c =
    let whole = whole_at c.self.inside.present c.args.self.now c.args.a c.shape-shape.result (at_live c.self.inside.present c.args.self.now c.args.a c.self.view_is (sym c.is_live.ensures ∙ c.if-is_live.true)) c.shape-shape.ensures.shape c.shape-shape.ensures.whole in
    omega (arith, whole, c.header_words.ensures)

pub returns-else-is_live : goal.returns-else-is_live
returns-else-is_live c = sym (dead_contents (object_of c.args.self.now c.args.a) (sym c.is_live.ensures ∙ c.if-is_live.false))
