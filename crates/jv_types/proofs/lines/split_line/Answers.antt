-- The text is cut at its first line feed.
use Rattle.jv_types.proofs.LineLemmas.{lines_of_first, lines_of_only, first_place, no_place}
use Rattle.jv_types.proofs.lines.split_line.Goals as goal

pub returns-in-Some-clause-line : goal.returns-in-Some-clause-line
returns-in-Some-clause-line c =
    let at = first_place c.args.text.now c.in-Some.end c.in-Some.ensures in
    let line = c.split_at.result.0.now in
    let rest = c.split_at-in-Some.result.1.now in
    lines_of_first c.args.text.now line rest at.within
    (rw at.is c.split_at.ensures.front) (rw at.is c.split_at-in-Some.ensures.back)

pub returns-in-None-clause-line : goal.returns-in-None-clause-line
returns-in-None-clause-line c =
    lines_of_only c.args.text.now c.requires (no_place c.args.text.now c.in-None.ensures)
