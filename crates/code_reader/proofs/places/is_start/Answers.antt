use Rattle.std.proofs.Common.{◌∙◌, ap}
use Rattle.std.specs.Prelude.{is_some}
use Rattle.jv_types.specs.Instructions.{starts_at}
use Rattle.code_reader.proofs.Starts.{position_is_any}
use Rattle.code_reader.proofs.places.is_start.Goals as goal

pub returns : goal.returns
returns c =
    c.is_some.ensures ∙ ap is_some c.number_at.ensures.found
    ∙ position_is_any (starts_at c.args.place) c.args.instructions.now
