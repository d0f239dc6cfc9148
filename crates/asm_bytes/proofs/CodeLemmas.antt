-- The parts of a Code attribute, one after another.
use Rattle.std.proofs.Common.{◌≡◌, ℕ, List, ◌++◌, length, ap, ◌∙◌}
use Rattle.std.specs.Prelude.{filter_map, flat_map}
use Rattle.jv_model.specs.ClassBytes.{u2, u4}
use Rattle.assembler_model.specs.AssemblerTerms.{Label}
use Rattle.assembler_model.specs.PoolEntries.{Entry}
use Rattle.assembler_model.specs.CodeBytes.{bytes_with, code_bytes, maps_bytes, run_bytes}
use Rattle.assembler_model.specs.CodeLines.{CodeLine}
use Rattle.assembler_model.specs.CodeFaults.{frames_of, labels_of, number_of_catch, target_in}
use Rattle.asm_bytes.specs.Bytes.{handler_row}
use Rattle.asm_bytes.proofs.FrameLemmas.{regroup}

pub code_is : (entries : List Entry) (stack locals : ℕ) (lines : List CodeLine) (target : Label → ℕ)
    (run b1 b2 b3 b4 b5 b6 b7 : List ℕ) (count : ℕ)
    → target ≡ target_in (labels_of lines)
    → run ≡ run_bytes entries target lines
    → b1 ≡ u2 stack → b2 ≡ b1 ++ u2 locals → b3 ≡ b2 ++ u4 (length run) → b4 ≡ b3 ++ run → b5 ≡ b4 ++ u2 count
    → count ≡ length (filter_map number_of_catch lines)
    → b6 ≡ b5 ++ flat_map (handler_row entries target) lines
    → b7 ≡ b6 ++ maps_bytes entries target (frames_of lines)
    → b7 ≡ code_bytes entries stack locals lines
unfolding code_bytes
code_is entries stack locals lines target run b1 b2 b3 b4 b5 b6 b7 count same is-run e1 e2 e3 e4 e5 is-count e6 e7 =
    let handlers = flat_map (handler_row entries target) lines in
    let maps = maps_bytes entries target (frames_of lines) in
    let all = run_bytes entries target lines in
    let many = length (filter_map number_of_catch lines) in
    e7 ∙ ap (λ b. b ++ maps) e6 ∙ ap (λ b. (b ++ handlers) ++ maps) e5
    ∙ ap (λ b. ((b ++ u2 count) ++ handlers) ++ maps) e4
    ∙ ap (λ b. (((b ++ run) ++ u2 count) ++ handlers) ++ maps) e3
    ∙ ap (λ b. ((((b ++ u4 (length run)) ++ run) ++ u2 count) ++ handlers) ++ maps) e2
    ∙ ap (λ b. (((((b ++ u2 locals) ++ u4 (length run)) ++ run) ++ u2 count) ++ handlers) ++ maps) e1
    ∙ ap (λ run. (((((u2 stack ++ u2 locals) ++ u4 (length run)) ++ run) ++ u2 count) ++ handlers) ++ maps) is-run
    ∙ ap (λ count. (((((u2 stack ++ u2 locals) ++ u4 (length all)) ++ all) ++ u2 count) ++ handlers) ++ maps) is-count
    ∙ regroup (u2 stack ++ u2 locals) (u4 (length all)) all (u2 many) handlers maps
    ∙ ap (λ target. u2 stack ++ u2 locals ++ bytes_with entries target lines (run_bytes entries target lines)) same
