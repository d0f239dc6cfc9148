use Rattle.std.proofs.Common.{refl, arith, ap, ◌∙◌, bytes_eq}
use Rattle.jv_types.specs.declared.boot.BootClass.{BootClass}
use Rattle.class_names.specs.Distinct.{with_item}
use Rattle.class_infos.specs.Numbered.{boot_names}
use Rattle.class_names.proofs.Growing.{name_added, added_all}
use Rattle.class_infos.proofs.names.add_boot_names.Goals as goal

pub loop-class-preserved : goal.loop-class-preserved
loop-class-preserved c =
    name_added boot_names (λ (class : BootClass). class.name.items) refl (λ x xs. refl) c.args.boot.now c.loop-class.class-index c.class-item.result
    _ _ _ (omega arith) c.class-item.is c.requires
    (c.in_ok-add.ensures.ok ∙ ap (with_item bytes_eq c.loop-class.names) c.as_slice.ensures) c.loop-class.invariant

pub returns : goal.returns
returns c = added_all boot_names (λ (class : BootClass). class.name.items) refl (λ x xs. refl) c.args.boot.now c.loop-class.class-index _ _ (omega arith) c.loop-class.invariant
