use Rattle.std.proofs.Common.{◌∙◌, ap, refl}
use Rattle.jv_types.specs.ClassData.{class_data_of}
use Rattle.code_model.specs.InstructionReading.{cut_is_wrong}
use Rattle.code_laws.proofs.Instructions.{site_of}
use Rattle.code_reader.specs.Instruction.{uncut_at}
use Rattle.code_reader.proofs.InstructionLists.{instruction_is}
use Rattle.code_reader.proofs.instruction.read_instruction.Goals as goal

pub returns-in-Ok-clause-instruction : goal.returns-in-Ok-clause-instruction
returns-in-Ok-clause-instruction c =
    let file = class_data_of c.args.class.now in
    let site = site_of file c.args.method c.at-pc.result in
    instruction_is file c.args.method c.at-pc.result c.args.input.now c.at-pc.ensures
    ∙ ap (cut_is_wrong site) c.in-Ok.ensures.instruction

pub returns-in-Err-clause-instruction : goal.returns-in-Err-clause-instruction
returns-in-Err-clause-instruction c =
    let file = class_data_of c.args.class.now in
    let site = site_of file c.args.method c.at-pc.result in
    rw (instruction_is file c.args.method c.at-pc.result c.args.input.now c.at-pc.ensures)
    (c.code_error.ensures site (uncut_at site c.args.input.now) refl
    c.in-Err.ensures.instruction)
