use Rattle.std.proofs.Common.{refl}
use Rattle.code_reader.specs.Parts.{entries_of}
use Rattle.code_reader.proofs.MapTables.{ends_early, ends_refused}
use Rattle.code_reader.proofs.map_entry.end_of.Goals as goal

pub returns-in-MapFrame : goal.returns-in-MapFrame
returns-in-MapFrame c = λ method read others refused.
    ends_early (entries_of c.args.entries.items) others method _ read (rw c.in-MapFrame.is at refused)

pub returns-in-Cut : goal.returns-in-Cut
returns-in-Cut c = λ method read others refused.
    ends_refused (entries_of c.args.entries.items) others _ read refl (rw c.in-Cut.is at refused)

pub returns-in-Extra : goal.returns-in-Extra
returns-in-Extra c = λ method read others refused.
    ends_refused (entries_of c.args.entries.items) others _ read refl (rw c.in-Extra.is at refused)

pub returns-in-Shape : goal.returns-in-Shape
returns-in-Shape c = λ method read others refused.
    ends_refused (entries_of c.args.entries.items) others _ read refl (rw c.in-Shape.is at refused)
