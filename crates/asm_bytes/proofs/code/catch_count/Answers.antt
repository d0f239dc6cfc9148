-- Line by line.
use Rattle.std.proofs.Common.{◌≡◌, ◌+◌, true, false, length, drop, ap, sym, ◌∙◌, arith}
use Rattle.std.specs.Prelude.{filter_map}
use Rattle.std.proofs.lemmas.List.{drop_all}
use Rattle.assembler_model.specs.CodeFaults.{is_catch, number_of_catch}
use Rattle.asm_code.specs.Places.{code_line_of, lines_of}
use Rattle.asm_code.proofs.FaultLemmas.{catch_number, catch_skip}
use Rattle.asm_bytes.proofs.FrameLemmas.{get_left}
use Rattle.asm_bytes.proofs.code.catch_count.Goals.{then-is_catch, else-is_catch}
use Rattle.asm_bytes.proofs.code.catch_count.Goals as goal

pub loop-at-preserved : goal.loop-at-preserved
loop-at-preserved c =
    let lines = c.args.lines.now.items in
    let here = code_line_of c.get.result.now in
    let rest = lines_of (drop (c.loop-at.at + 1) lines) in
    let left = ap (λ left. length (filter_map number_of_catch (lines_of left))) (get_left lines c.loop-at.at c.get.result.now c.get.ensures) in
    elim c.if-is_catch.branch [
      | then-is_catch w ↦
          let is : is_catch here.line.said ≡ true = sym c.is_catch.ensures ∙ w.if-is_catch.true in
          let more = ap length (catch_number here rest is) in
          record {
            few = omega (arith, w.count-is, c.loop-at.invariant.few);
            all = omega (arith, w.count-is, left, more, c.loop-at.invariant.all);
          }
      | else-is_catch w ↦
          let is : is_catch here.line.said ≡ false = sym c.is_catch.ensures ∙ w.if-is_catch.false in
          let same = ap length (catch_skip here rest is) in
          record {
            few = omega (arith, w.count-is, c.loop-at.invariant.few);
            all = omega (arith, w.count-is, left, same, c.loop-at.invariant.all);
          }
    ]

pub returns : goal.returns
returns c =
    let lines = c.args.lines.now.items in
    let none = drop_all c.loop-at.at lines (omega (arith, c.len-at-end.ensures)) in
    let left = ap (λ left. length (filter_map number_of_catch (lines_of left))) none in
    omega (arith, c.loop-at.invariant.all, left)
