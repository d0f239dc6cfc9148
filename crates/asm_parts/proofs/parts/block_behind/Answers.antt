-- A line of another form opens no block.
use Rattle.std.proofs.Common.{◌≡◌, None, refl, map, ap, sym, ◌∙◌}
use Rattle.jv_model.specs.Lines.{lines_of}
use Rattle.assembler_model.specs.AssemblerOrder.{method_end}
use Rattle.asm_lines.specs.LineForms.{form_if_any}
use Rattle.asm_lines.specs.NumberedLines.{numbered_of}
use Rattle.asm_parts.proofs.BlockLemmas.{no_block-lines, no_block-closed}
use Rattle.asm_parts.proofs.parts.block_behind.Goals as goal

pub returns-clause-block : goal.returns-clause-block
returns-clause-block c =
    rw c.if-is_method.ensures (record {
      lines_are = ap (map numbered_of) c.new.ensures ∙ no_block-lines c.args.number (lines_of c.args.text.now);
      is_closed = no_block-closed c.args.number (lines_of c.args.text.now);
      chunks = refl;
    })

pub returns-then-is_method-clause-block : goal.returns-then-is_method-clause-block
returns-then-is_method-clause-block c = rw c.if-is_method.ensures c.read_block.ensures.block
