use Rattle.std.proofs.Common.{subst}
use Rattle.class_writer.specs.Written.{Appends}
use Rattle.class_writer.proofs.Limits.{plain_table}
use Rattle.class_writer.proofs.attribute.write_attributes.Goals as goal

pub returns : goal.returns
returns c = subst (Appends c.write_table.result _ _ _) (plain_table _ _) c.write_table.ensures
