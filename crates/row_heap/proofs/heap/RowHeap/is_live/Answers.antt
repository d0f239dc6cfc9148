use Rattle.std.proofs.Common.{ℕ, ap, eqb, ◌∙◌, sym}
use Rattle.std.specs.Prelude.{not}
use Rattle.row_heap.proofs.Checking.{is_live_test, null_is_dead}
use Rattle.row_heap.proofs.heap.RowHeap.is_live.Goals as goal

pub returns-then-a-ne0 : goal.returns-then-a-ne0
returns-then-a-ne0 c = is_live_test c.self.inside.present c.args.self.now c.args.a c.len-objects.result c.self.view_is c.if-a-ne0.true c.len-objects.ensures.length

pub returns-else-a-ne0 : goal.returns-else-a-ne0
returns-else-a-ne0 c =
    ap (λ (n : ℕ). not (eqb n 0)) c.if-a-ne0.false
    ∙ sym (null_is_dead c.self.inside.present c.args.self.now c.args.a c.self.view_is c.if-a-ne0.false)
