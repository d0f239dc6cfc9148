use Rattle.std.proofs.Common.{◌≡◌, ◌<◌, drop}
use Rattle.jv_types.specs.ClassData.{class_data_of, members_of}
use Rattle.code_model.specs.CodeReading.{codes_from, load_of}
use Rattle.code_reader.specs.Method.{codes_of}
use Rattle.code_reader.proofs.InstructionLists.{items_in_front}
use Rattle.code_reader.proofs.FirstMethod.{FirstIsRight}
use Rattle.code_reader.proofs.method.read_codes.Given as goal

-- the code of the methods so far, and of those that are left; and the first one was read
abbrev pub invariant-loop-index : goal.invariant-loop-index
invariant-loop-index l = (items_in_front (codes_of l.codes.items)
    (codes_from (class_data_of l.class) l.index (drop l.index (members_of l.class.methods.items)))
    ≡ load_of (class_data_of l.class))
    × (0 < l.index → FirstIsRight (class_data_of l.class))
