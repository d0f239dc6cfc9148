use Rattle.std.proofs.lemmas.Result.{err_from_is_err_and}
use Rattle.class_loader.specs.Outside.{read}
use Rattle.std.proofs.Common.{refl}
use Rattle.manifest_reader.specs.Statements.{manifest_view}
use Rattle.jv_model.specs.Limits.{most_file_bytes}
use Rattle.manifest_laws.proofs.LengthLemmas.{blocks_are_within}
use Rattle.jvolve_top.specs.Programs.{verified_of}
use Rattle.jvolve_top.proofs.LoadLemmas.{manifest_stops, manifest_is_faulty, manifest_goes_on}
use Rattle.jvolve_top.proofs.load.load_program.Goals as goal

pub returns-in_err-text-clause-loaded : goal.returns-in_err-text-clause-loaded
returns-in_err-text-clause-loaded g c =
    let error = err_from_is_err_and c.from_residual.result c.from_residual.ensures.1 in
    let files =
    read g.F.Files.folder g.F.Files.asked g.F.Files.faults c.args.files.now
    c.read_file.new.files in
    rw (error.1, error.2) (manifest_stops c.args.name.now files _ c.in_err-text.ensures.loaded)

pub returns-in_err-manifest-clause-loaded : goal.returns-in_err-manifest-clause-loaded
returns-in_err-manifest-clause-loaded g c =
    let residual = c.from_residual-in_err-manifest in
    let error = err_from_is_err_and residual.result residual.ensures.1 in
    let files =
    read g.F.Files.folder g.F.Files.asked g.F.Files.faults c.args.files.now
    c.read_file.new.files in
    rw (error.1, error.2)
    (manifest_is_faulty c.args.name.now files c.in_ok-text.text.items c.in_ok-text.ensures.loaded _
    (rw c.as_slice.ensures at c.in_err-manifest.ensures.manifest))

pub returns-clause-loaded : goal.returns-clause-loaded
returns-clause-loaded g c =
    let files =
    read g.F.Files.folder g.F.Files.asked g.F.Files.faults c.args.files.now
    c.read_file.new.files in
    let files_then =
    read g.F.Files.folder g.F.Files.asked g.F.Files.faults c.read_file.new.files
    c.load_manifest.new.files in
    manifest_goes_on c.args.name.now files c.in_ok-text.text.items c.in_ok-text.ensures.loaded verified_of
    c.load_manifest.result (manifest_view c.in_ok-manifest.manifest)
    (rw c.as_slice.ensures at c.in_ok-manifest.ensures.manifest) files_then (record {
      folder = c.in_ok-text.ensures.folder;
      asked = refl;
      faults = refl;
    }) c.load_manifest.ensures.loaded

-- no block is longer than the text that it stands in
pub load_manifest-requires : goal.load_manifest-requires
load_manifest-requires g c =
    blocks_are_within most_file_bytes c.in_ok-text.text.items
    (manifest_view c.in_ok-manifest.manifest)
    (rw c.as_slice.ensures at c.in_ok-manifest.ensures.manifest) c.in_ok-text.ensures.within
