-- Line by line.
use Rattle.std.proofs.Common.{◌≡◌, ◌+◌, true, false, length, drop, ap, sym, ◌∙◌, arith}
use Rattle.std.proofs.lemmas.List.{drop_all}
use Rattle.assembler_model.specs.CodeFaults.{frames_of}
use Rattle.asm_code.specs.Faults.{is_frame_said}
use Rattle.asm_code.specs.Places.{code_line_of, lines_of}
use Rattle.asm_code.proofs.FaultLemmas.{frame_skip, frames_none}
use Rattle.asm_bytes.proofs.FrameLemmas.{frame_length, get_left}
use Rattle.asm_bytes.proofs.frames.frame_count.Goals.{then-is_frame, else-is_frame}
use Rattle.asm_bytes.proofs.frames.frame_count.Goals as goal

pub loop-at-preserved : goal.loop-at-preserved
loop-at-preserved c =
    let lines = c.args.lines.now.items in
    let here = code_line_of c.get.result.now in
    let rest = lines_of (drop (c.loop-at.at + 1) lines) in
    let left = ap (λ left. length (frames_of (lines_of left))) (get_left lines c.loop-at.at c.get.result.now c.get.ensures) in
    elim c.if-is_frame.branch [
      | then-is_frame w ↦
          let is : is_frame_said here.line.said ≡ true = sym c.is_frame.ensures ∙ w.if-is_frame.true in
          let more = frame_length here rest is in
          record {
            few = omega (arith, w.count-is, c.loop-at.invariant.few);
            all = omega (arith, w.count-is, left, more, c.loop-at.invariant.all);
          }
      | else-is_frame w ↦
          let is : is_frame_said here.line.said ≡ false = sym c.is_frame.ensures ∙ w.if-is_frame.false in
          let same = ap length (frame_skip here rest is) in
          record {
            few = omega (arith, w.count-is, c.loop-at.invariant.few);
            all = omega (arith, w.count-is, left, same, c.loop-at.invariant.all);
          }
    ]

pub returns : goal.returns
returns c =
    let lines = c.args.lines.now.items in
    let none = drop_all c.loop-at.at lines (omega (arith, c.len-at-end.ensures)) in
    let left = ap (λ left. length (frames_of (lines_of left))) none in
    omega (arith, c.loop-at.invariant.all, left, ap length frames_none)
