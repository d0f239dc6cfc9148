use Rattle.std.proofs.Common.{◌∙◌, sym, ap, option_map, Some, List, ℕ}
use Rattle.world_model.specs.LookUp.{find_method}
use Rattle.use_faults.proofs.ByName.{name_is}
use Rattle.use_faults.proofs.LookUps.{no_method}
use Rattle.use_faults.proofs.members.find_method.Goals as goal

pub returns-in_err-class : goal.returns-in_err-class
returns-in_err-class c =
    ap (option_map _) c.from_residual.ensures
    ∙ ap (option_map Some) (sym (no_method c.args.world.now c.args.reference.class.now _ _ c.in_err-class.ensures))

pub returns : goal.returns
returns c =
    c.counted_method.ensures
    ∙ ap (λ (n : List ℕ). option_map Some (find_method c.args.world.now n c.args.reference.name.now c.args.reference.descriptor.now))
    (name_is c.args.world.now c.args.reference.class.now c.in_ok-class.class c.in_ok-class.ensures)
