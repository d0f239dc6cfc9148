use Rattle.std.proofs.Common.{sym}
use Rattle.std.proofs.lemmas.List.{take-replicate}
use Rattle.type_rules.specs.declared.types.VerificationType.TheVariants.{Top}
use Rattle.map_frames.proofs.locals.add_tops.Goals as goal

pub returns : goal.returns
returns c = rw (sym (take-replicate c.args.count 32 Top c.requires)) c.append.ensures.ok
