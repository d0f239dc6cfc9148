-- Statement by statement.
use Rattle.std.proofs.Common.{◌≡◌, refl, sym, ◌∙◌, ap, arith}
use Rattle.jv_model.specs.Lines.{lines_of}
use Rattle.asm_parts.proofs.BlockLemmas.{lines-none}
use Rattle.manifest_reader.proofs.ManifestLemmas.{lines_next, lines_end, lines_main}
use Rattle.manifest_reader.proofs.manifest.read_lines.Goals as goal

pub statements-preserved : goal.statements-preserved
statements-preserved c = record {
  so_far =
      lines_next (lines_of c.args.text.now) c.statements.seen c.statements.items.items c.add_item.new.items.items c.statements.last
      c.statements.left.now c.in_ok-statement.statement c.statements.invariant.so_far c.in_ok-statement.ensures.statement
      c.in_ok-add_item.ensures;
  numbers = omega (arith, c.in_ok-statement.ensures.numbers);
}

pub returns-in-Some : goal.returns-in-Some
returns-in-Some c =
    lines_end (lines_of c.args.text.now) c.statements.seen c.in-Some.main
    (record { main = c.in-Some.main; items = c.statements.items }) c.statements.last (lines_of c.statements.left.now)
    c.statements.invariant.so_far (lines-none c.statements.left.now c.statements-test.ensures) c.in-Some.is refl

pub returns : goal.returns
returns c =
    lines_main (lines_of c.args.text.now) c.statements.seen c.statements.items.items c.statements.last (lines_of c.statements.left.now)
    c.statements.invariant.so_far (lines-none c.statements.left.now c.statements-test.ensures) c.in-None.is
