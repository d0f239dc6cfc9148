use Rattle.std.proofs.Common.{◌≡◌, drop}
use Rattle.std.specs.Prelude.{flat_map}
use Rattle.text_model.specs.LineFaults.{first_fault}
use Rattle.assembler_model.specs.AssembledClass.{faults_of_part}
use Rattle.asm_parts.specs.Faults.{either, told_by}
use Rattle.asm_parts.specs.Parts.{parts_of}
use Rattle.asm_parts.specs.Pools.{entries_in}
use Rattle.class_asm.proofs.faults.note_parts.Given as goal

-- what is noted, and the parts that are left
abbrev pub invariant-loop-part : goal.invariant-loop-part
invariant-loop-part l =
    either (told_by l.first) (first_fault (flat_map (faults_of_part (entries_in l.pool) l.last) (parts_of (drop l.part-index l.parts))))
    ≡ either (told_by l.fn.first) (first_fault (flat_map (faults_of_part (entries_in l.pool) l.last) (parts_of l.parts)))
