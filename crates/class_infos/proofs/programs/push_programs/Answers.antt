use Rattle.std.proofs.Common.{List, map, refl, arith, ap, ◌∙◌, ◌++◌, ◌∷◌, []}
use Rattle.std.proofs.lemmas.List.{map-append}
use Rattle.jv_types.specs.Loaded.{loaded_of}
use Rattle.jv_types.specs.declared.loaded.Loaded.{Loaded}
use Rattle.class_world.specs.Parts.{InfoParts, parts_of}
use Rattle.class_infos.specs.Numbered.{program_parts}
use Rattle.class_names.proofs.Growing.{added_next, added_all}
use Rattle.class_infos.proofs.programs.push_programs.Goals as goal

pub loop-class-preserved : goal.loop-class-preserved
loop-class-preserved c =
    added_next (λ (l : List Loaded). map (program_parts c.args.names.now) (map loaded_of l)) (λ (class : Loaded). program_parts c.args.names.now (loaded_of class))
    refl (λ x xs. refl) c.args.classes.now c.loop-class.class-index c.class-item.result _ _ _ (omega arith) c.class-item.is
    (ap (map parts_of) c.in_ok-push.ensures.ok
    ∙ map-append parts_of c.loop-class.infos.items (c.in_ok-program_info.field-0 ∷ [])
    ∙ ap (λ (p : InfoParts). map parts_of c.loop-class.infos.items ++ p ∷ []) c.in_ok-program_info.ensures)
    c.loop-class.invariant

pub returns : goal.returns
returns c =
    added_all (λ (l : List Loaded). map (program_parts c.args.names.now) (map loaded_of l)) (λ (class : Loaded). program_parts c.args.names.now (loaded_of class))
    refl (λ x xs. refl) c.args.classes.now c.loop-class.class-index _ _ (omega arith) c.loop-class.invariant
