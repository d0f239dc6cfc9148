use Rattle.std.proofs.Common.{take}
use Rattle.asm_parts.specs.Parts.{parts_of}
use Rattle.asm_parts.specs.Pools.{entries_in}
use Rattle.class_asm.specs.Sections.{IsSaid}
use Rattle.class_asm.proofs.sections.read_sections.Given as goal

-- what the parts so far say
abbrev pub invariant-loop-part : goal.invariant-loop-part
invariant-loop-part l = IsSaid (entries_in l.pool) (parts_of (take l.part-index l.parts)) l.sections
