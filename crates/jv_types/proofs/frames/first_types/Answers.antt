use Rattle.std.proofs.Common.{◌≡◌, ◌≤◌, ◌-◌, take, length, sym, ap, ◌∙◌, arith}
use Rattle.std.proofs.lemmas.List.{take_all}
use Rattle.jv_types.specs.Frames.{types_in}
use Rattle.jv_types.proofs.Rows.{take_front}
use Rattle.jv_types.proofs.frames.first_types.Goals as goal

pub loop-first-preserved : goal.loop-first-preserved
loop-first-preserved c =
    let types = types_in c.args.rows.now.items c.loop-first.first.top in
    let many : c.loop-first.first.count ≡ length types = c.loop-first.invariant.types.count in
    record {
      types = c.without_last-first.ensures.types;
      same = ap (take c.args.count) c.without_last-first.ensures.front
          ∙ take_front c.args.count (c.loop-first.first.count - 1) types (omega arith) (omega arith)
          ∙ c.loop-first.invariant.same;
    }

pub returns-clause-first : goal.returns-clause-first
returns-clause-first c =
    let types = types_in c.args.rows.now.items c.loop-first.first.top in
    let few : length types ≤ c.args.count = omega (arith, c.loop-first.invariant.types.count, c.loop-first-test.false) in
    sym (take_all c.args.count types few) ∙ c.loop-first.invariant.same
