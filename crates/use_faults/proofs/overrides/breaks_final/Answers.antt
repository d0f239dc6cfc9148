use Rattle.std.proofs.Common.{◌∙◌, ap}
use Rattle.std.proofs.lemmas.Result.{IfOk-weaker}
use Rattle.jv_types.specs.ClassData.{pool_of}
use Rattle.use_faults.proofs.Finals.{known_named, breaks_told}
use Rattle.use_faults.proofs.overrides.breaks_final.Goals as goal

pub one_overrides_final-requires : goal.one_overrides_final-requires
one_overrides_final-requires c = record {
  known = known_named c.args.world.now _ c.class_named-superclass.result c.class_named-superclass.ensures;
  finals = c.requires;
}

pub returns : goal.returns
returns c =
    IfOk-weaker c.one_overrides_final.result _ _ (λ overrides told. told
    ∙ breaks_told c.args.world.now c.args.class.now c.class_name_at-name.result.now c.class_named-superclass.result
    (pool_of c.as_slice-pool.result.now) c.as_slice-methods.result.now c.names_final_class.result
    (ap pool_of c.as_slice-pool.ensures) c.class_name_at-name.ensures c.class_named-superclass.ensures c.as_slice-methods.ensures
    c.names_final_class.ensures c.if-names_final_class.false) c.one_overrides_final.ensures
