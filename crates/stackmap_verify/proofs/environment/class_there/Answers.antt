use Rattle.std.proofs.Common.{Option, sym, subst, ◌∙◌, refl}
use Rattle.std.specs.Prelude.{IsSome}
use Rattle.jv_types.specs.declared.number.ClassNo.{ClassNo}
use Rattle.member_types.proofs.LinkedTypes.{class-number}
use Rattle.stackmap_verify.proofs.environment.class_there.Goals as goal

pub unwrap-requires : goal.unwrap-requires
unwrap-requires c =
    subst (λ (o : Option ClassNo). IsSome o)
    (sym (c.class_named.ensures ∙ (class-number c.args.world.now c.args.name.now c.requires).1)) refl
