use Rattle.std.proofs.Common.{map, ap, ◌∙◌, ◌++◌, List}
use Rattle.jv_types.specs.Loaded.{loaded_of}
use Rattle.class_world.specs.Parts.{InfoParts}
use Rattle.class_infos.specs.Numbered.{program_parts}
use Rattle.class_infos.proofs.Numbering.{names_apart, are_numbered}
use Rattle.class_infos.proofs.infos.number_classes.Goals as goal

pub all_names-requires : goal.all_names-requires
all_names-requires c = names_apart c.args.boot.now (map loaded_of c.args.classes.now) c.requires.boot c.requires.apart

pub returns : goal.returns
returns c =
    let loaded = map loaded_of c.args.classes.now in
    are_numbered c.args.boot.now loaded c.requires.boot c.requires.apart _ _ c.in_ok-names.ensures
    (c.in_ok-push_programs.ensures ∙ ap (λ (l : List InfoParts). l ++ map (program_parts c.in_ok-names.names) loaded) c.in_ok-infos.ensures)
