use Rattle.std.proofs.Common.{◌∙◌, ap, sym, length}
use Rattle.jv_types.specs.Code.{map_types_of}
use Rattle.code_reader.proofs.FrameLists.{behind_last}
use Rattle.code_reader.proofs.frames.count_before.Goals as goal

pub returns-else-is_empty : goal.returns-else-is_empty
returns-else-is_empty c =
    c.local_count.ensures
    ∙ sym (ap length (behind_last (map_types_of c.args.first.now.items) c.args.frames.now
    (sym c.is_empty.ensures ∙ c.if-is_empty.false)))
