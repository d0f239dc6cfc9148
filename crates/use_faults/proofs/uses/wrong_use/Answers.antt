use Rattle.std.proofs.Common.{◌∙◌, ap, flat_map, List}
use Rattle.jv_model.specs.Partial.{least}
use Rattle.jv_types.specs.ClassData.{class_data_of}
use Rattle.jv_types.specs.Loaded.{loaded_of}
use Rattle.class_faults.specs.declared.uses.Used.{Used}
use Rattle.use_faults.specs.Wrong.{wrong_read}
use Rattle.use_faults.proofs.SameUses.{wrong_all}
use Rattle.use_faults.proofs.uses.wrong_use.Goals as goal

pub returns : goal.returns
returns c =
    let world = c.args.world.now in
    let class = c.args.class.now in
    let wrong = wrong_read world (class_data_of class.file) in
    c.in_ok-wrong.ensures
    ∙ ap (λ (us : List Used). least (flat_map wrong us)) c.as_slice-2.ensures.keys
    ∙ c.in_ok-distinct.ensures wrong
    ∙ ap (λ (us : List Used). least (flat_map wrong us)) c.as_slice.ensures
    ∙ wrong_all world (loaded_of class) _ c.in_ok-uses.ensures
