use Rattle.std.proofs.Common.{subst}
use Rattle.std.proofs.lemmas.List.{map-id}
use Rattle.class_writer.specs.Written.{Appends}
use Rattle.class_writer.proofs.Limits.{plain_table}
use Rattle.class_writer.proofs.interface.write_interfaces.Goals as goal

pub returns : goal.returns
returns c =
    let indices = map-id c.args.interfaces.now.items in
    rw (← indices) (subst (Appends c.write_table.result _ _ _)
    (plain_table _ _) c.write_table.ensures)
