-- The first fault of all that are noted, or the class.
use Rattle.std.proofs.Common.{Ok, Option, option_map, ap, sym, ◌∙◌}
use Rattle.jv_model.specs.Fallible.{unless}
use Rattle.jv_model.specs.Utf16.{units_of_utf8}
use Rattle.text_model.specs.LineFaults.{Fault}
use Rattle.assembler_model.specs.AssembledClass.{class_said, faults_behind_head}
use Rattle.asm_parts.specs.Faults.{fault_of, told_by}
use Rattle.asm_parts.specs.Parts.{parts_of}
use Rattle.asm_parts.specs.Pools.{entries_in}
use Rattle.class_asm.proofs.NoteLemmas.{whole_text}
use Rattle.class_asm.proofs.assembler.assemble_needed.Goals as goal

pub returns-in-Some : goal.returns-in-Some
returns-in-Some c =
    let this = units_of_utf8 c.args.names.this.now in
    let super = units_of_utf8 c.args.names.super_class.now in
    let parts = parts_of c.args.parts.now in
    let entries = entries_in c.args.pool.now in
    let told = whole_text (told_by c.no_fault-first.result) (told_by c.note_behind.new.first)
    (faults_behind_head c.args.last this super parts entries) c.no_fault-first.ensures
    (c.in_ok-note_behind.ensures.told this super c.requires.needs) in
    ap (λ (told : Option Fault). unless told (class_said this super parts entries)) (told ∙ ap (option_map fault_of) c.in-Some.is)

pub returns-in_ok-class_of-in-None : goal.returns-in_ok-class_of-in-None
returns-in_ok-class_of-in-None c =
    let this = units_of_utf8 c.args.names.this.now in
    let super = units_of_utf8 c.args.names.super_class.now in
    let parts = parts_of c.args.parts.now in
    let entries = entries_in c.args.pool.now in
    let told = whole_text (told_by c.no_fault-first.result) (told_by c.note_behind.new.first)
    (faults_behind_head c.args.last this super parts entries) c.no_fault-first.ensures
    (c.in_ok-note_behind.ensures.told this super c.requires.needs) in
    ap (λ (told : Option Fault). unless told (class_said this super parts entries)) (told ∙ ap (option_map fault_of) c.in-None.is)
    ∙ ap Ok (sym c.in_ok-class_of-in-None.ensures)
