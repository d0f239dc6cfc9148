-- Part by part.
use Rattle.std.proofs.Common.{◌≡◌, ◌∷◌, ◌++◌, [], sym, ◌∙◌, ap, map, arith}
use Rattle.std.proofs.lemmas.List.{map-append}
use Rattle.jv_model.specs.Lines.{lines_of}
use Rattle.jv_types.specs.Lines.{line_view}
use Rattle.asm_lines.specs.NumberedLines.{numbered_of}
use Rattle.asm_parts.specs.Parts.{lines_in, part_of, parts_of}
use Rattle.asm_parts.proofs.BlockLemmas.{text-none, text-more, text-end, lines-none}
use Rattle.asm_parts.proofs.parts.read_parts.Goals as goal

pub parts-init : goal.parts-init
parts-init c = rw c.new-parts.ensures (text-none (lines_of c.args.text.now))

pub parts-preserved : goal.parts-preserved
parts-preserved c =
    let line = line_view c.split_line.result.0 in
    let left = lines_of c.split_line.result.1.now in
    let before = rw c.split_line.ensures.line at c.parts.invariant in
    let block = c.in_ok-block.ensures.block in
    let more = text-more (lines_of c.args.text.now) (parts_of c.parts.parts.items) c.parts.next line left
    (numbered_of c.in_ok-line.line) (lines_in c.in_ok-block.block.lines) c.in_ok-block.block.is_closed c.in_ok-next_number.field-0
    c.in_ok-block.block.next (lines_of c.in_ok-block.block.left.now) before c.in_ok-line.ensures c.in_ok-next_number.ensures
    block.lines_are block.is_closed block.chunks in
    let added : parts_of c.push.new.self.items
    ≡ parts_of c.parts.parts.items ++ record {
      line = numbered_of c.in_ok-line.line;
      block = lines_in c.in_ok-block.block.lines;
      is_closed = c.in_ok-block.block.is_closed;
    } ∷ [] =
    ap parts_of c.in_ok-push.ensures.ok ∙ map-append part_of c.parts.parts.items _ in
    rw added more

pub returns : goal.returns
returns c =
    let before = rw (lines-none c.parts.left.now c.parts-test.ensures) at c.parts.invariant in
    text-end (lines_of c.args.text.now) (parts_of c.parts.parts.items) c.parts.next before
