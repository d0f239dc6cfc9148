use Rattle.std.proofs.Common.{◌∙◌, ◌+◌, sym, ap, subst, false}
use Rattle.std.proofs.Math.ListN.{replicate}
use Rattle.jv_types.specs.ClassData.{pool_of}
use Rattle.use_faults.proofs.Marks.{MarksSoFar, no_marks, marked, unmarked, all_marked}
use Rattle.use_faults.proofs.overrides.marks_of.Goals as goal
use Rattle.use_faults.proofs.overrides.marks_of.Goals.{in-Some, in_default}

pub loop-method-init : goal.loop-method-init
loop-method-init c =
    no_marks c.args.finals.now.signatures.keys (pool_of c.args.pool.now) c.args.methods.now c.in_ok-marks.marks.items
    (c.in_ok-marks.ensures.items_if_clones_equal (λ y h. h) ∙ ap (λ n. replicate n false) c.len.ensures.len)

pub loop-method-preserved : goal.loop-method-preserved
loop-method-preserved c =
    let entries = c.args.finals.now.signatures.keys in
    let pool = pool_of c.args.pool.now in
    let told = c.overriding_number.ensures in
    elim c.match-overriding_number.branch [
      | in-Some w ↦
          subst (MarksSoFar entries pool c.args.methods.now (c.loop-method.method-index + 1)) (sym (ap (λ v. v.items) w.marks-is))
          (marked entries pool c.args.methods.now c.loop-method.method-index c.loop-method.marks.items c.loop-method.invariant
          c.method-item.result c.loop-method-test.true c.method-item.is c.overriding_number.result told.number w.in-Some.number
          w.in-Some.is w.in-Some.ensures.within)
      | in_default w ↦
          subst (MarksSoFar entries pool c.args.methods.now (c.loop-method.method-index + 1)) (sym (ap (λ v. v.items) w.marks-is))
          (unmarked entries pool c.args.methods.now c.loop-method.method-index c.loop-method.marks.items c.loop-method.invariant
          c.method-item.result c.loop-method-test.true c.method-item.is c.overriding_number.result told.number w.in_default.is)
    ]

pub returns : goal.returns
returns c =
    all_marked c.args.finals.now.signatures.keys (pool_of c.args.pool.now) c.args.methods.now c.loop-method.method-index
    c.loop-method.marks.items c.loop-method-test.false c.loop-method.invariant
