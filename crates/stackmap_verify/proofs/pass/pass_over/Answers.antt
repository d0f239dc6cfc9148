use Rattle.std.proofs.Common.{ℕ, ◌+◌, ◌==◌, Some, is_some, ap, sym, subst, refl, ◌∙◌, arith}
use Rattle.jv_types.specs.Instructions.{placed_of}
use Rattle.jv_types.specs.Refusal.{rule_of}
use Rattle.stackmap_verify.specs.Visits.{flow_of, Stops}
use Rattle.stackmap_verify.proofs.Passing.{visit_here, named_here, there, last_here, count, passed, stops_here, passes_here, keeps_more, keeps_all}
use Rattle.stackmap_verify.proofs.pass.pass_over.Goals as goal

pub loop-number-preserved : goal.loop-number-preserved
loop-number-preserved g c =
    let method = c.args.method.now in
    let w = method.world.now in
    let n = c.loop-number.number in
    let flow = flow_of w c.loop-number.flow in
    let placed = placed_of c.get-insn.result.now in
    let next = flow_of w c.in-Ok.next in
    record {
      watch = c.in-Ok.ensures.watch;
      known = c.in-Ok.ensures.known;
      so_far = λ e is start.
          let leaves = c.in-Ok.ensures.leaves e is (visit_here method e is flow n placed c.get-insn.ensures) refl refl
          (last_here method e is flow n placed c.get-insn.ensures ∙ ap (λ (k : ℕ). n + 1 == k) (sym c.len.ensures)) in
          sym (passes_here method e is flow n placed c.get-insn.ensures next leaves.0 leaves.1)
          ∙ c.loop-number.invariant.so_far e is start;
      kept = λ e is start.
          let visit = visit_here method e is flow n placed c.get-insn.ensures in
          let leaves = c.in-Ok.ensures.leaves e is visit refl refl
          (last_here method e is flow n placed c.get-insn.ensures ∙ ap (λ (k : ℕ). n + 1 == k) (sym c.len.ensures)) in
          let kept = c.in-Ok.ensures.kept in
          keeps_more w e (is_some c.args.kept) n flow next c.loop-number.trail.kept _
          (named_here method e is flow n placed c.get-insn.ensures) kept.0 (there method e is flow n placed c.get-insn.ensures)
          (kept.2 e is visit refl refl) leaves.0 leaves.1 kept.1 (c.loop-number.invariant.kept e is start);
    }

pub returns-in-Err : goal.returns-in-Err
returns-in-Err g c = λ e is start.
    let method = c.args.method.now in
    let n = c.loop-number.number in
    let flow = flow_of method.world.now c.loop-number.flow in
    let placed = placed_of c.get-insn.result.now in
    let place = c.in_ok-place_at-in-Err.field-0 in
    let told = c.in_ok-place_at-in-Err.ensures in
    let stops = c.in-Err.ensures.leaves e is (visit_here method e is flow n placed c.get-insn.ensures) refl refl
    (last_here method e is flow n placed c.get-insn.ensures ∙ ap (λ (k : ℕ). n + 1 == k) (sym c.len.ensures)) in
    sym (c.loop-number.invariant.so_far e is start)
    ∙ stops_here method e is flow n placed c.get-insn.ensures (rule_of place.rule)
    (subst (Stops e (visit_here method e is flow n placed c.get-insn.ensures)) told.1 stops)
    ∙ ap (λ (k : ℕ). Some (k, rule_of place.rule)) (sym told.0)

pub returns : goal.returns
returns g c = λ e is start.
    let method = c.args.method.now in
    let n = c.loop-number.number in
    let flow = flow_of method.world.now c.loop-number.flow in (
      sym (c.loop-number.invariant.so_far e is start) ∙ passed method e is flow n (omega arith),
      keeps_all method.world.now e (is_some c.args.kept) n flow c.loop-number.trail.kept
          (omega (arith, count method e is flow n)) (c.loop-number.invariant.kept e is start),
    )
