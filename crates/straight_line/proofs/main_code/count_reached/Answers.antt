use Rattle.std.proofs.Common.{◌≡◌, Some, map, slice_get, sym, ap, ◌∙◌, arith}
use Rattle.std.specs.Option.{option_map}
use Rattle.std.proofs.lemmas.List.{length-map}
use Rattle.std.proofs.lemmas.Option.{slice_get-map}
use Rattle.straight_line.specs.Body.{instruction_of}
use Rattle.straight_line.proofs.MainLemmas.{one_more_runs, ends_here, never_ends}
use Rattle.straight_line.proofs.main_code.count_reached.Goals as goal
use Rattle.straight_line.proofs.main_code.count_reached.Goals.{After-get}

-- the instruction at the index, as the definitions see it
here : (c : After-get)
    → slice_get (map instruction_of c.args.instructions.now.items) c.loop-index.index
    ≡ Some (instruction_of c.get.result.now)
here c = slice_get-map instruction_of c.args.instructions.now.items c.loop-index.index
    ∙ ap (option_map instruction_of) c.get.ensures

pub returns-then-is_return : goal.returns-then-is_return
returns-then-is_return c =
    ends_here c.loop-index.index _ _ (here (goal.at.returns-then-is_return c).After-get)
    (sym c.is_return.ensures ∙ c.if-is_return.true) c.loop-index.invariant

pub loop-index-preserved : goal.loop-index-preserved
loop-index-preserved c =
    one_more_runs c.loop-index.index _ _ (here (goal.at.loop-index-preserved c).After-get)
    (sym c.is_return.ensures ∙ c.if-is_return.false) c.loop-index.invariant

pub returns : goal.returns
returns c =
    let count = length-map c.args.instructions.now.items instruction_of in
    never_ends c.loop-index.index (map instruction_of c.args.instructions.now.items)
    c.loop-index.invariant (omega (arith, count))
