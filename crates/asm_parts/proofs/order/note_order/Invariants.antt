use Rattle.std.proofs.Common.{◌≡◌, drop}
use Rattle.text_model.specs.LineFaults.{first_fault}
use Rattle.assembler_model.specs.AssemblerOrder.{outside_faults}
use Rattle.asm_parts.specs.Faults.{either, told_by}
use Rattle.asm_parts.specs.Parts.{parts_of}
use Rattle.asm_parts.specs.Sections.{section_of}
use Rattle.asm_parts.proofs.order.note_order.Given as goal

-- what is noted, and the parts that are left
abbrev pub invariant-loop-part : goal.invariant-loop-part
invariant-loop-part l =
    either (told_by l.first) (first_fault (outside_faults (section_of l.reached) (parts_of (drop l.part-index l.parts))))
    ≡ either (told_by l.fn.first) (first_fault (outside_faults 0 (parts_of l.parts)))
