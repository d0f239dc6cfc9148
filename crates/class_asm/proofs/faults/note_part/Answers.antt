-- Five lists of faults, one after another.
use Rattle.std.proofs.Common.{◌≡◌, ap, ◌∙◌}
use Rattle.std.proofs.lemmas.Result.{on_ok_weaker}
use Rattle.jv_model.specs.Refusal.{open_block}
use Rattle.text_model.specs.LineFaults.{at_line, first_fault, unless_true}
use Rattle.assembler_model.specs.AssemblerOrder.{block_faults}
use Rattle.assembler_model.specs.AssembledClass.{begin_faults, code_of, said_faults_of}
use Rattle.assembler_model.specs.CodeFaults.{code_faults}
use Rattle.assembler_model.specs.CodeLines.{at_start, code_lines}
use Rattle.asm_parts.specs.Faults.{either, told_by}
use Rattle.asm_parts.specs.Parts.{part_of}
use Rattle.asm_parts.specs.Pools.{entries_in}
use Rattle.asm_code.specs.Places.{lines_of}
use Rattle.class_asm.proofs.NoteLemmas.{five_lists}
use Rattle.class_asm.proofs.faults.note_part.Goals as goal

pub returns : goal.returns
returns c =
    let entries = entries_in c.args.pool.now in
    let part = part_of c.args.part.now in
    let code : lines_of c.in_ok-code.code.lines.items ≡ code_of entries part =
    c.in_ok-code.ensures.lines ∙ ap (code_lines entries at_start) c.behind_first.ensures in
    let t4 = told_by c.note_begin.new.first in
    on_ok_weaker c.note_code.result
    (λ told. five_lists (told_by c.args.first.now) (told_by c.note_said.new.first) (told_by c.note_block.new.first)
    (told_by c.note_unless.new.first) t4 (told_by c.note_code.new.first)
    (said_faults_of part.line part.line.said) (block_faults part part.block)
    (at_line c.args.last (unless_true part.is_closed open_block)) (begin_faults part.block) (code_faults (code_of entries part))
    c.note_said.ensures c.in_ok-note_block.ensures c.note_unless.ensures c.note_begin.ensures
    (told ∙ ap (λ lines. either t4 (first_fault (code_faults lines))) code))
    c.note_code.ensures
