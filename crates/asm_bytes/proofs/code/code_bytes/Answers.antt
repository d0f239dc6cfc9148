-- The parts, one after another.
use Rattle.std.proofs.Common.{◌≡◌, ◌++◌, length, ap, ◌∙◌}
use Rattle.std.specs.Prelude.{flat_map}
use Rattle.jv_model.specs.ClassBytes.{u2, u4}
use Rattle.assembler_model.specs.CodeBytes.{run_bytes}
use Rattle.assembler_model.specs.CodeFaults.{labels_of, target_in}
use Rattle.asm_parts.specs.Pools.{entries_in}
use Rattle.asm_code.specs.Labels.{labels_in}
use Rattle.asm_code.specs.Places.{lines_of}
use Rattle.asm_bytes.specs.Bytes.{handler_row}
use Rattle.asm_bytes.proofs.CodeLemmas.{code_is}
use Rattle.asm_bytes.proofs.TargetLemmas.{same_target}
use Rattle.asm_bytes.proofs.code.code_bytes.Goals as goal

pub returns : goal.returns
returns c =
    let entries = entries_in c.args.pool.now in
    let lines = lines_of c.args.code.now.lines.items in
    let labels = labels_in c.args.code.now.labels.entries in
    let target = target_in labels in
    let run = c.push_run.new.bytes.items in
    let b1 = c.push_u2.new.bytes.items in
    let b2 = c.push_u2-2.new.bytes.items in
    let b3 = c.push_u4.new.bytes.items in
    let b4 = c.append.new.self.items in
    let b5 = c.push_u2-3.new.bytes.items in
    let b6 = c.push_handlers.new.bytes.items in
    let is-run : run ≡ run_bytes entries target lines =
    c.in_ok-push_run.ensures ∙ ap (λ old. old ++ run_bytes entries target (lines_of c.as_slice-lines.result.now)) c.new-run.ensures
    ∙ ap (λ lines. run_bytes entries target (lines_of lines)) c.as_slice-lines.ensures in
    let e1 : b1 ≡ u2 c.args.stack =
    c.in_ok-push_u2.ensures ∙ ap (λ old. old ++ u2 c.from.result) c.new-bytes.ensures ∙ ap u2 c.from.ensures in
    let e2 : b2 ≡ b1 ++ u2 c.args.locals = c.in_ok-push_u2-2.ensures ∙ ap (λ locals. b1 ++ u2 locals) c.from-2.ensures in
    let e3 : b3 ≡ b2 ++ u4 (length run) = c.in_ok-push_u4.ensures ∙ ap (λ size. b2 ++ u4 size) c.len.ensures in
    let e4 : b4 ≡ b3 ++ run = c.in_ok-append.ensures.ok ∙ ap (λ run. b3 ++ run) c.as_slice.ensures in
    let e6 : b6 ≡ b5 ++ flat_map (handler_row entries target) lines =
    c.in_ok-push_handlers.ensures
    ∙ ap (λ lines. b5 ++ flat_map (handler_row entries target) (lines_of lines)) c.as_slice-lines.ensures in
    code_is entries c.args.stack c.args.locals lines target run b1 b2 b3 b4 b5 b6 c.push_maps.new.bytes.items c.catch_count.result
    (same_target labels (labels_of lines) c.requires.labels) is-run e1 e2 e3 e4 c.in_ok-push_u2-3.ensures c.catch_count.ensures e6
    c.in_ok-push_maps.ensures
