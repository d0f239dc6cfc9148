use Rattle.std.proofs.Common.{◌≡◌, ap, ◌∙◌}
use Rattle.std.proofs.lemmas.Result.{err_from_is_err_and}
use Rattle.jv_model.specs.LoadedClass.{LoadedClass}
use Rattle.load_model.specs.Loading.{answers, yields, ◌>>=◌}
use Rattle.load_model.specs.LoadClasses.{where_named, with_code}
use Rattle.code_model.specs.CodeReading.{load_of}
use Rattle.jv_types.specs.ClassData.{class_data_of}
use Rattle.jv_types.specs.Loaded.{loaded_of}
use Rattle.manifest_reader.specs.Items.{class_of as item_of}
use Rattle.class_loader.specs.Classes.{class_loaded}
use Rattle.class_loader.proofs.PlacedLemmas.{code_found, stops_then}
use Rattle.class_loader.proofs.class.class_of_item.Goals as goal

pub returns-in_err-class-clause-class : goal.returns-in_err-class-clause-class
returns-in_err-class-clause-class c =
    let residual = c.from_residual-in_err-class in
    let error = err_from_is_err_and residual.result residual.ensures.1 in
    let file = class_data_of c.args.read.file in
    let asked = item_of c.args.asked.now in
    let class = loaded_of c.in_ok-loaded.loaded in
    let found : with_code c.args.number asked file ≡ answers (where_named asked class) =
    code_found c.args.number asked file (load_of file) class c.in_ok-loaded.ensures.class in
    let counted = λ (class : LoadedClass). yields (class, c.args.read.bytes) in
    rw (error.1, error.2, found)
    (stops_then loaded_of class_loaded (answers (where_named asked class)) counted _
    c.in_err-class.ensures.class)

pub returns-clause-class : goal.returns-clause-class
returns-clause-class c =
    let file = class_data_of c.args.read.file in
    let asked = item_of c.args.asked.now in
    let class = loaded_of c.in_ok-loaded.loaded in
    let found : with_code c.args.number asked file ≡ answers (where_named asked class) =
    code_found c.args.number asked file (load_of file) class c.in_ok-loaded.ensures.class in
    ap (λ loading. loading >>= λ class. yields (class, c.args.read.bytes)) (found ∙ c.in_ok-class.ensures.class)
