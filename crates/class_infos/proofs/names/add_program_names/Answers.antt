use Rattle.std.proofs.Common.{refl, arith, ap, ◌∙◌, List, map, bytes_eq}
use Rattle.jv_types.specs.Loaded.{loaded_of}
use Rattle.jv_types.specs.declared.loaded.Loaded.{Loaded}
use Rattle.link_model.specs.WorldOf.{name_of}
use Rattle.class_names.specs.Distinct.{with_item}
use Rattle.class_infos.specs.Numbered.{program_names}
use Rattle.class_names.proofs.Growing.{name_added, added_all}
use Rattle.class_infos.proofs.names.add_program_names.Goals as goal

pub loop-class-preserved : goal.loop-class-preserved
loop-class-preserved c =
    name_added (λ (l : List Loaded). program_names (map loaded_of l)) (λ (class : Loaded). name_of (loaded_of class)) refl (λ x xs. refl)
    c.args.classes.now c.loop-class.class-index c.class-item.result _ _ _ (omega arith) c.class-item.is c.requires
    (c.in_ok-add.ensures.ok ∙ ap (with_item bytes_eq c.loop-class.names) c.class_name.ensures) c.loop-class.invariant

pub returns : goal.returns
returns c =
    added_all (λ (l : List Loaded). program_names (map loaded_of l)) (λ (class : Loaded). name_of (loaded_of class)) refl (λ x xs. refl)
    c.args.classes.now c.loop-class.class-index _ _ (omega arith) c.loop-class.invariant
