-- The rows, with names in place of numbers, are the table of the definitions.
use Rattle.std.proofs.Common.{ap, ◌∙◌, refl}
use Rattle.jv_types.specs.Boot.{named_classes_of}
use Rattle.world_model.specs.BootTable.{boot_table}
use Rattle.boot_classes.proofs.boot_table.Goals as goal

pub returns : goal.returns
unfolding boot_table
returns c = ap named_classes_of c.in_ok-table.ensures ∙ refl
