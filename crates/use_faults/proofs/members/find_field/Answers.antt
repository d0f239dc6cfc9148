use Rattle.std.proofs.Common.{◌∙◌, sym, ap, option_map, Some, List, ℕ}
use Rattle.world_model.specs.LookUp.{find_field}
use Rattle.use_faults.proofs.ByName.{name_is}
use Rattle.use_faults.proofs.LookUps.{no_field}
use Rattle.use_faults.proofs.members.find_field.Goals as goal

pub returns-in_err-class : goal.returns-in_err-class
returns-in_err-class c =
    ap (option_map _) c.from_residual.ensures
    ∙ ap (option_map Some) (sym (no_field c.args.world.now c.args.reference.class.now _ _ c.in_err-class.ensures))

pub returns : goal.returns
returns c =
    c.counted_field.ensures
    ∙ ap (λ (n : List ℕ). option_map Some (find_field c.args.world.now n c.args.reference.name.now c.args.reference.descriptor.now))
    (name_is c.args.world.now c.args.reference.class.now c.in_ok-class.class c.in_ok-class.ensures)
