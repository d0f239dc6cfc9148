use Rattle.std.proofs.Common.{◌≡◌, true, false, ◌≤◌, length, get_or, sym, ap, subst, ◌∙◌, arith, rules}
use Rattle.std.specs.Prelude.{IsTrue}
use Rattle.heap_face.specs.declared.shape.Shape.{Shape}
use Rattle.heap_face.specs.declared.shape.Kind.{Kind}
use Rattle.heap_face.specs.declared.shape.Kind.TheVariants.{Object}
use Rattle.heap_face.specs.Collection.{refers_at, has_cells}
use Rattle.row_heap.proofs.Checking.{live_bits, live_within, follows_is, cells_object, cells_other}
use Rattle.row_heap.proofs.checks.follows.Goals as goal
use Rattle.row_heap.proofs.checks.follows.Goals.{else-word-most-via-then-word-most+else-refers_at, else-word-most-via-else-word-most}

pub loop-at-preserved : goal.loop-at-preserved
loop-at-preserved c = elim c.else-word-most.branch [
  | else-word-most-via-then-word-most+else-refers_at w ↦
      live_bits c.args.rows.now.objects (refers_at c.args.layouts.now c.shape-shape.result) c.contents-contents.result.now c.loop-at.at c.loop-at.invariant c.loop-at-test.true (sym w.refers_at.ensures ∙ w.if-refers_at.false)
  | else-word-most-via-else-word-most w ↦
      let most : c.from-most.result ≡ c.len.result = search rules in
      live_within c.args.rows.now.objects (refers_at c.args.layouts.now c.shape-shape.result) c.contents-contents.result.now c.loop-at.at c.loop-at.invariant c.loop-at-test.true (omega (arith, w.if-word-most.false, most, c.len.ensures.length))
]

pub returns-else-ne : goal.returns-else-ne
returns-else-ne c has =
    follows_is c.args.layouts.now c.args.rows.now.objects _ c.shape-shape.result c.contents-contents.result.now c.loop-at.at c.shape-shape.ensures.shape c.contents-contents.ensures c.loop-at.invariant
    (omega (arith, c.loop-at-test.false)) (λ o shapes long. let kind : c.shape-shape.result.kind ≡ Object = search rules in
    subst (λ (k : Kind). IsTrue (has_cells c.args.layouts.now o k)) (sym kind)
    (cells_object c.args.layouts.now c.shape-shape.result.class (length c.contents-contents.result.now) o (c.has_cells.ensures has) (ap (λ (s : Shape). s.class) shapes) long))

pub returns-then-ne : goal.returns-then-ne
returns-then-ne c has =
    follows_is c.args.layouts.now c.args.rows.now.objects _ c.shape-shape.result c.contents-contents.result.now c.loop-at.at c.shape-shape.ensures.shape c.contents-contents.ensures c.loop-at.invariant
    (omega (arith, c.loop-at-test.false)) (λ o shapes long. cells_other c.args.layouts.now o c.shape-shape.result.kind (λ h. let same : c.ne.result ≡ false = rw h at c.ne.ensures in let other : c.ne.result ≡ true = c.if-ne.true in cc))
