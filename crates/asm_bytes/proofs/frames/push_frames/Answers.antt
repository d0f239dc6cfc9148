-- Line by line.
use Rattle.std.proofs.Common.{◌+◌, ◌++◌, drop, ap, sym, ◌∙◌, append_assoc, arith}
use Rattle.std.proofs.lemmas.List.{append-nil, drop_all}
use Rattle.assembler_model.specs.CodeBytes.{frames_bytes}
use Rattle.assembler_model.specs.CodeFaults.{frames_of, target_in}
use Rattle.asm_parts.specs.Pools.{entries_in}
use Rattle.asm_parts.proofs.FaultLemmas.{items_left}
use Rattle.asm_code.specs.Labels.{labels_in}
use Rattle.asm_code.specs.Places.{code_line_of, lines_of}
use Rattle.asm_bytes.specs.Bytes.{frame_bytes, last_pc}
use Rattle.asm_bytes.proofs.FrameLemmas.{frames_end, frames_next}
use Rattle.asm_bytes.proofs.frames.push_frames.Goals as goal

pub loop-here-preserved : goal.loop-here-preserved
loop-here-preserved c =
    let lines = c.args.lines.now in
    let at = c.loop-here.here-index in
    let entries = entries_in c.args.pool.now in
    let target = target_in (labels_in c.args.labels.now.entries) in
    let here = code_line_of c.here-item.result in
    let rest = frames_of (lines_of (drop (at + 1) lines)) in
    let left = items_left lines at c.here-item.result (omega arith) c.here-item.is in
    let old = c.loop-here.bytes.items in
    let before = c.loop-here.before in
    ap (λ bytes. bytes ++ frames_bytes entries target c.in_ok-last.last rest) c.in_ok-last.ensures.bytes
    ∙ ap (λ pc. (old ++ frame_bytes entries target before here) ++ frames_bytes entries target pc rest) c.in_ok-last.ensures.last
    ∙ append_assoc old (frame_bytes entries target before here) (frames_bytes entries target (last_pc before here) rest)
    ∙ ap (λ more. old ++ more) (sym (frames_next entries target before here (lines_of (drop (at + 1) lines))))
    ∙ ap (λ left. old ++ frames_bytes entries target before (frames_of (lines_of left))) (sym left)
    ∙ c.loop-here.invariant

pub returns : goal.returns
returns c =
    let entries = entries_in c.args.pool.now in
    let target = target_in (labels_in c.args.labels.now.entries) in
    let bytes = c.loop-here.bytes.items in
    let before = c.loop-here.before in
    let none = drop_all c.loop-here.here-index c.args.lines.now (omega arith) in
    sym (append-nil bytes) ∙ ap (λ more. bytes ++ more) (sym (frames_end entries target before))
    ∙ ap (λ left. bytes ++ frames_bytes entries target before (frames_of (lines_of left))) (sym none)
    ∙ c.loop-here.invariant
