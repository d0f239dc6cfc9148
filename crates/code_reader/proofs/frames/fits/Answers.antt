use Rattle.std.proofs.Common.{◌∙◌, sym, true≢false}
use Rattle.code_reader.proofs.Nearness.{near_start}
use Rattle.code_reader.proofs.frames.fits.Goals.{then-is_start, else-is_start}
use Rattle.code_reader.proofs.frames.fits.Goals as goal

pub returns-then-locals_fit-clause-near : goal.returns-then-locals_fit-clause-near
returns-then-locals_fit-clause-near c = λ fitting. elim c.if-is_start.branch [
  | then-is_start w ↦ near_start c.args.bounds.instructions.now c.args.pc c.requires
      (sym c.is_start.ensures ∙ w.if-is_start.true)
  | else-is_start w ↦ absurd (true≢false (sym c.if-locals_fit.true ∙ w.value-is ∙ w.if-is_start.false))
]
