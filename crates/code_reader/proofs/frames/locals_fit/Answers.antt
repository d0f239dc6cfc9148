use Rattle.std.proofs.Common.{◌∙◌, ap, ℕ}
use Rattle.std.specs.Prelude.{nat_le}
use Rattle.jv_types.specs.Frames.{last_locals}
use Rattle.code_reader.proofs.FrameLists.{same_words}
use Rattle.code_reader.proofs.frames.locals_fit.Goals as goal

pub returns : goal.returns
returns c =
    (λ i. nat_le (c.local_words.ensures i) (c.from.ensures i))
    ∙ ap (λ (words : ℕ). nat_le words c.args.max_locals) (same_words (last_locals c.args.frames.now))
