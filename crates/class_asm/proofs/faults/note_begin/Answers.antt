-- An empty block has no first line.
use Rattle.std.proofs.Common.{length, ap, sym, ◌∙◌, arith}
use Rattle.text_model.specs.LineFaults.{first_fault}
use Rattle.asm_parts.specs.Faults.{either, told_by}
use Rattle.asm_code.proofs.FaultLemmas.{none_noted}
use Rattle.class_asm.proofs.BlockLines.{begin_none}
use Rattle.class_asm.proofs.faults.note_begin.Goals as goal

pub returns-in_default : goal.returns-in_default
returns-in_default c =
    let before = told_by c.args.first.now in
    none_noted before
    ∙ ap (λ faults. either before (first_fault faults))
    (sym (begin_none c.args.block.now.items (omega (arith, ap length c.as_slice.ensures, c.in_default.len_below))))
