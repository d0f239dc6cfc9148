-- Line by line, up to the one that ends the block.
use Rattle.std.proofs.Common.{◌≡◌, true, false, sym, ◌∙◌, ap, arith}
use Rattle.std.specs.Str.{is_utf8}
use Rattle.std.proofs.lemmas.Str.{is_utf8-from_IsUtf8}
use Rattle.jv_model.specs.Lines.{lines_of}
use Rattle.jv_types.specs.Lines.{line_view}
use Rattle.asm_parts.proofs.BlockLemmas.{lines-none}
use Rattle.manifest_reader.proofs.BlockLemmas.{block_end, block_next, block_no_text, block_open}
use Rattle.manifest_reader.proofs.block.cut_block.Goals as goal

pub returns-then-not-is_text-clause-block : goal.returns-then-not-is_text-clause-block
returns-then-not-is_text-clause-block c =
    block_no_text c.args.end.now c.args.opening c.args.text.now c.lines.last c.lines.left.now c.split_line.result.1.now
    (line_view c.split_line.result.0) c.lines.invariant.so_far c.split_line.ensures.line
    (is_utf8-from_IsUtf8 c.args.end.now c.utf8.end) (sym c.if-not-is_text.ensures)

pub returns-then-is_line-clause-block : goal.returns-then-is_line-clause-block
returns-then-is_line-clause-block c =
    let ended = block_end c.args.end.now c.args.opening c.args.text.now c.lines.last c.lines.left.now c.split_line.result.1.now
    (line_view c.split_line.result.0) c.lines.invariant.so_far c.split_line.ensures.line (sym c.if-is_line.ensures) in
    record {
      ends = ended.ends;
      are_text = ended.are_text;
      text_is = ended.text_is;
      last_is = ended.last_is;
      left_is = ended.left_is;
    }

pub lines-preserved : goal.lines-preserved
lines-preserved c = record {
  so_far =
      block_next c.args.end.now c.args.opening c.args.text.now c.lines.last c.lines.left.now c.split_line.result.1.now
      (line_view c.split_line.result.0) c.lines.invariant.so_far c.split_line.ensures.line (sym c.if-not-is_text.ensures)
      (sym c.if-is_line.ensures);
  short = omega arith;
  numbers = omega arith;
}

pub returns-clause-block : goal.returns-clause-block
returns-clause-block c =
    block_open c.args.end.now c.args.opening c.args.text.now c.lines.last c.lines.left.now c.lines.invariant.so_far
    (lines-none c.lines.left.now c.lines-test.ensures)
