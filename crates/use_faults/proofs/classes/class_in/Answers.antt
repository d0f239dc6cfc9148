use Rattle.std.proofs.Common.{◌∙◌, sym, ap, option_map}
use Rattle.use_faults.proofs.ByName.{class_told, no_class}
use Rattle.use_faults.proofs.classes.class_in.Goals as goal

pub returns-in_err-class : goal.returns-in_err-class
returns-in_err-class c =
    ap (option_map _) c.from_residual.ensures ∙ sym (no_class c.args.world.now c.args.name.now c.in_err-class.ensures)

pub returns : goal.returns
returns c =
    class_told c.args.world.now c.args.name.now c.in_ok-class.class c.class.result.now c.in_ok-class.ensures c.class.ensures
