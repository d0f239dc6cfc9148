use Rattle.std.proofs.Common.{◌+◌, ◌<◌, ◌^◌, length}
use Rattle.jv_model.specs.Lines.{lines_of}
use Rattle.manifest_reader.proofs.ManifestLemmas.{InLines}
use Rattle.manifest_reader.proofs.manifest.read_lines.Given as goal

-- the statements so far, and the lines that are left
abbrev pub invariant-statements : goal.invariant-statements
invariant-statements l =
    record {
      so_far : InLines (lines_of l.text) l.seen l.items.items l.last (lines_of l.left);
      numbers : l.last + length l.left < 2 ^ 32;
    }

abbrev pub decreases-statements : goal.decreases-statements
decreases-statements l = length l.left
