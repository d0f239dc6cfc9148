use Rattle.std.proofs.Common.{◌+◌, ◌≤◌, length}
use Rattle.manifest_reader.proofs.BlockLemmas.{InBlock}
use Rattle.manifest_reader.proofs.block.cut_block.Given as goal

-- the lines so far, and those that are left
abbrev pub invariant-lines : goal.invariant-lines
invariant-lines l =
    record {
      so_far : InBlock l.end l.opening l.text l.last l.left;
      short : length l.left ≤ length l.text;
      numbers : l.last + length l.left ≤ l.opening + length l.text;
    }

abbrev pub decreases-lines : goal.decreases-lines
decreases-lines l = length l.left
