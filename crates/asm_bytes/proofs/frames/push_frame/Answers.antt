-- A line that is a frame, and one that is none.
use Rattle.std.proofs.Common.{rules, ◌≡◌, ◌++◌, false, Ok, ap, sym, ◌∙◌}
use Rattle.std.specs.Prelude.{unwrap_or}
use Rattle.assembler_model.specs.AssemblerTerms.{frame}
use Rattle.assembler_model.specs.CodeFaults.{target_in}
use Rattle.asm_parts.specs.Pools.{entries_in}
use Rattle.asm_pool.specs.Needs.{types_of}
use Rattle.asm_code.specs.Faults.{is_frame_said}
use Rattle.asm_code.specs.Labels.{labels_in}
use Rattle.asm_code.specs.Places.{code_line_of}
use Rattle.asm_bytes.specs.Bytes.{full_frame}
use Rattle.asm_bytes.proofs.FrameLemmas.{frame_is, frame_passed, last_passed}
use Rattle.asm_bytes.proofs.frames.push_frame.Goals as goal

pub returns-clause-bytes : goal.returns-clause-bytes
returns-clause-bytes c =
    let entries = entries_in c.args.pool.now in
    let target = target_in (labels_in c.args.labels.now.entries) in
    let here = code_line_of c.args.here.now in
    let locals = types_of c.in-Ok-Frame.locals.items in
    let stack = types_of c.in-Ok-Frame.stack.items in
    let old = c.args.bytes.now.items in
    let said : here.line.said ≡ Ok (frame locals stack) = search rules in
    c.in_ok-push_full_frame.ensures
    ∙ ap (λ distance. old ++ full_frame entries target distance locals stack)
    (c.unwrap_or-distance.ensures ∙ ap (λ distance. unwrap_or distance 0) c.offset_delta.ensures)
    ∙ ap (λ more. old ++ more) (sym (frame_is entries target c.args.before here locals stack said))

pub returns-in_default : goal.returns-in_default
returns-in_default c =
    let entries = entries_in c.args.pool.now in
    let target = target_in (labels_in c.args.labels.now.entries) in
    let here = code_line_of c.args.here.now in
    let none : is_frame_said here.line.said ≡ false = search rules in
    record {
      bytes = frame_passed entries target c.args.before here c.args.bytes.now.items none;
      last = last_passed c.args.before here none;
    }

pub returns-in_default-2-clause-bytes : goal.returns-in_default-2-clause-bytes
returns-in_default-2-clause-bytes c =
    let here = code_line_of c.args.here.now in
    let none : is_frame_said here.line.said ≡ false = search rules in
    frame_passed (entries_in c.args.pool.now) (target_in (labels_in c.args.labels.now.entries)) c.args.before here
    c.args.bytes.now.items none
