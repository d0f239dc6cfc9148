-- What is loaded, as the definitions see it.
use Rattle.straight_line_model.specs.StraightLine.{IsStraightLine}
use Rattle.straight_line.specs.Body.{body_of}
use Rattle.straight_line.specs.Programs.{program}
use Rattle.run_model.specs.Work as model
use Rattle.jvolve_top.specs.declared.load.Work.{Work}
use Rattle.jvolve_top.specs.declared.load.Work.TheVariants as works

abbrev pub work_of : Work → model.Work
work_of (works.Runs body) = model.runs (program body)
work_of (works.Writes text) = model.writes text.items

-- what is to be run is a straight line
abbrev pub IsStraight : Work → Type 0
IsStraight (works.Runs body) = IsStraightLine (body_of body)
IsStraight (works.Writes text) = Unit {0}
