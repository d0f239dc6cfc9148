-- Line by line, up to `end`.
use Rattle.std.proofs.Common.{◌≡◌, ◌∷◌, ◌++◌, [], sym, ◌∙◌, ap, map, arith}
use Rattle.std.proofs.lemmas.List.{map-append}
use Rattle.jv_model.specs.Lines.{lines_of}
use Rattle.jv_types.specs.Lines.{line_view}
use Rattle.asm_lines.specs.NumberedLines.{numbered_of}
use Rattle.asm_parts.specs.Parts.{lines_in}
use Rattle.asm_parts.proofs.BlockLemmas.{block-none, block-next, block-end, block-open, lines-none}
use Rattle.assembler_model.specs.AssemblerLines.{numbered}
use Rattle.asm_parts.proofs.parts.read_block.Goals as goal

pub returns-then-is_end-clause-block : goal.returns-then-is_end-clause-block
returns-then-is_end-clause-block c =
    let line = line_view c.split_line.result.0 in
    let left = lines_of c.split_line.result.1.now in
    let before = rw c.split_line.ensures.line at c.lines.invariant.so_far in
    let ends = block-end c.args.number (lines_of c.args.text.now) (lines_in c.lines.lines) c.lines.next line left before (sym c.if-is_end.ensures) in
    record { lines_are = ends.lines_are; is_closed = ends.is_closed; chunks = rw c.in_ok-after.ensures ends.chunks }

pub lines-preserved : goal.lines-preserved
lines-preserved c =
    let line = line_view c.split_line.result.0 in
    let left = lines_of c.split_line.result.1.now in
    let before = rw c.split_line.ensures.line at c.lines.invariant.so_far in
    let more = block-next c.args.number (lines_of c.args.text.now) (lines_in c.lines.lines) c.lines.next line left before (sym c.if-is_end.ensures) in
    let added : lines_in c.push.new.self ≡ lines_in c.lines.lines ++ numbered c.lines.next line ∷ [] =
    ap (map numbered_of) c.in_ok-push.ensures.ok ∙ map-append numbered_of c.lines.lines.items (c.in_ok-read_line.field-0 ∷ [])
    ∙ ap (λ read. lines_in c.lines.lines ++ read ∷ []) c.in_ok-read_line.ensures in
    record { so_far = rw (added, c.in_ok-after.ensures) more; short = omega arith }

pub returns-clause-block : goal.returns-clause-block
returns-clause-block c =
    let before = rw (lines-none c.lines.left.now c.lines-test.ensures) at c.lines.invariant.so_far in
    let ends = block-open c.args.number (lines_of c.args.text.now) (lines_in c.lines.lines) c.lines.next before in
    record { lines_are = ends.lines_are; is_closed = ends.is_closed; chunks = rw (lines-none c.lines.left.now c.lines-test.ensures) ends.chunks }
