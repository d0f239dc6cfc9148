use Rattle.std.proofs.Common.{sym, ap, ◌∙◌}
use Rattle.std.specs.Prelude.{option_map}
use Rattle.look_up_cache.specs.Found.{found_in}
use Rattle.look_up_cache.proofs.Named.{class_found, class_missing}
use Rattle.look_up_cache.proofs.by_name.look_up_class.Goals as goal

pub returns-in_err-class_named : goal.returns-in_err-class_named
returns-in_err-class_named c =
    ap (option_map (found_in c.args.world.now)) c.from_residual.ensures
    ∙ class_missing c.args.world.now c.args.name.now (sym c.class_named.ensures ∙ c.in_err-class_named.was)

pub returns : goal.returns
returns c = class_found c.args.world.now c.args.name.now c.in_ok-class_named.field-0 (sym c.class_named.ensures ∙ c.in_ok-class_named.was)
