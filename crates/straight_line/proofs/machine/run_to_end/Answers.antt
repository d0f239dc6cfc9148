use Rattle.std.proofs.Common.{◌≡◌, ◌++◌, length, map, refl, ap, ◌∙◌, arith}
use Rattle.std.proofs.lemmas.List.{length-map, map-append, nil_from_length}
use Rattle.std.proofs.lemmas.Bool.Decides.{nat_tests}
use Rattle.straight_line.specs.Body.{instruction_of}
use Rattle.straight_line.specs.Programs.{program}
use Rattle.straight_line.proofs.RunLemmas.{at_the_start, turn_of_views, can_run, one_turn, no_more}
use Rattle.straight_line.proofs.machine.run_to_end.Goals as goal
use Rattle.straight_line.proofs.machine.run_to_end.Goals.{After-split_turn}

pub loop-rest-init : goal.loop-rest-init
loop-rest-init c =
    rw (c.as_slice-rest.ensures, c.new-journal.ensures, c.new.ensures, c.new-2.ensures)
    (at_the_start (program c.args.body.now) (map instruction_of c.args.body.now.instructions.items)
    c.requires refl)

-- the turn's instructions, and those behind it
parts : (c : After-split_turn)
    → map instruction_of c.loop-rest.rest.now
    ≡ map instruction_of c.split_turn.result.0.now ++ map instruction_of c.split_turn.result.1.now
parts c = ap (map instruction_of) c.split_turn.ensures.parts ∙ map-append instruction_of _ _

pub take_turn-requires-clause-runs : goal.take_turn-requires-clause-runs
take_turn-requires-clause-runs c =
    can_run (program c.args.body.now) c.requires _ (map instruction_of c.split_turn.result.0.now)
    (map instruction_of c.split_turn.result.1.now) _ _ c.loop-rest.invariant
    (parts (goal.at.take_turn-requires-clause-runs c).After-split_turn)

pub loop-rest-preserved : goal.loop-rest-preserved
loop-rest-preserved c =
    let slice = c.split_turn.result.0.now in
    let rest = c.split_turn.result.1.now in
    rw (c.in_ok-take_turn.ensures.entry, ← length-map slice instruction_of)
    (one_turn (program c.args.body.now) c.requires _ (map instruction_of slice)
    (map instruction_of rest) _ _ c.loop-rest.invariant
    (parts (goal.at.loop-rest-preserved c).After-split_turn) _ c.in_ok-take_turn.ensures.state
    (turn_of_views slice rest c.split_turn.ensures.turn))

pub returns : goal.returns
returns c =
    let none : length c.loop-rest.rest.now ≡ 0 = grind (arith, nat_tests) in
    no_more (program c.args.body.now) _ (map instruction_of c.loop-rest.rest.now) _
    (ap (map instruction_of) (nil_from_length c.loop-rest.rest.now none)) c.loop-rest.invariant
