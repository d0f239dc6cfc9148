use Rattle.std.proofs.Common.{[], ◌∷◌, sym, ap, subst, ◌∙◌}
use Rattle.std.specs.List.{AllByRecursion}
use Rattle.std.proofs.lemmas.List.{map-append}
use Rattle.std.proofs.lemmas.Result.{err_from_is_err_and}
use Rattle.jv_types.specs.Loaded.{loaded_of}
use Rattle.linked_laws.specs.Worlds.{IsReadClass}
use Rattle.linked_laws.proofs.Lists.{all_append}
use Rattle.manifest_reader.specs.Items.{class_of}
use Rattle.class_loader.specs.Classes.{class_loaded}
use Rattle.class_loader.specs.Items.{classes_of}
use Rattle.class_loader.specs.Outside.{read}
use Rattle.class_loader.proofs.ItemLemmas.{class_added, class_stops, class_starves}
use Rattle.class_loader.proofs.items.add_class.Goals as goal

pub returns-clause-class : goal.returns-clause-class
returns-clause-class g c = λ others.
    let files =
    read g.F.Files.folder g.F.Files.asked g.F.Files.faults c.args.files.now
    c.load_item.new.files in
    let class = loaded_of c.in_ok-loaded.loaded.class in (
      class ∷ [],
      ap classes_of c.in_ok-push.ensures.ok ∙ map-append loaded_of _ _,
      class_added c.args.number c.args.gathered.now.bytes (class_of c.args.item.now) others class
          c.in_ok-loaded.loaded.bytes files c.in_ok-loaded.ensures.loaded,
    )

pub returns-in_err-loaded-clause-class : goal.returns-in_err-loaded-clause-class
returns-in_err-loaded-clause-class g c = λ others.
    let error = err_from_is_err_and c.from_residual.result c.from_residual.ensures.1 in
    let files =
    read g.F.Files.folder g.F.Files.asked g.F.Files.faults c.args.files.now
    c.load_item.new.files in
    rw (error.1, error.2)
    (class_stops c.args.number c.args.gathered.now.bytes (class_of c.args.item.now) others files _
    c.in_err-loaded.ensures.loaded)

pub returns-in_err-push-clause-class : goal.returns-in_err-push-clause-class
returns-in_err-push-clause-class g c = λ others.
    let residual = c.from_residual-in_err-push in
    let error = err_from_is_err_and residual.result residual.ensures.1 in
    let files =
    read g.F.Files.folder g.F.Files.asked g.F.Files.faults c.args.files.now
    c.load_item.new.files in
    rw (error.1, error.2)
    (class_starves c.args.number c.args.gathered.now.bytes (class_of c.args.item.now) others
    (class_loaded c.in_ok-loaded.loaded) files c.in_ok-loaded.ensures.loaded)

pub returns-clause-read : goal.returns-clause-read
returns-clause-read g c = λ fits. λ before.
    let here = c.in_ok-loaded.ensures.read fits in
    let same = ap classes_of c.in_ok-push.ensures.ok ∙ map-append loaded_of _ _ in
    subst (AllByRecursion IsReadClass) (sym same) (all_append IsReadClass _ _ before (here, tt))
