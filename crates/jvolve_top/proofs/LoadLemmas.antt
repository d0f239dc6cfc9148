-- What is loaded for each mode.
use Rattle.std.proofs.Common.{◌≡◌, ℕ, List, Result, Ok, Err, refl, sym, ap}
use Rattle.jv_model.specs.LoadedClass.{LoadedClass}
use Rattle.jv_model.specs.Limits.{most_file_bytes}
use Rattle.jv_model.specs.Outside.{Folder}
use Rattle.manifest_model.specs.Manifest.{Manifest, manifest_of}
use Rattle.straight_line_model.specs.Machine.{Program}
use Rattle.load_model.specs.Loading.{Loading, ◌>>=◌, yields, placed, file_at}
use Rattle.load_model.specs.LoadItems.{load_items}
use Rattle.load_model.specs.Reads.{Read}
use Rattle.run_model.specs.CheckText.{check_text}
use Rattle.run_model.specs.Invocation.{run_of, check_of, asm_of}
use Rattle.run_model.specs.Later.{program_of, unless_later}
use Rattle.run_model.specs.LoadProgram.{VerifiedProgram, or_line, verified_program, load_manifest, load_text, load_program}
use Rattle.run_model.specs.LoadWork.{load_work, load_run, load_check, load_asm, class_file_of}
use Rattle.run_model.specs.Work.{Work, runs, writes}
use Rattle.manifest_reader.specs.Statements.{TellsManifest}
use Rattle.manifest_reader.specs.declared.error.ManifestError.{ManifestError}
use Rattle.manifest_reader.specs.declared.error.ManifestError.TheVariants as manifest_errors
use Rattle.class_loader.specs.declared.stop.Stop.{Stop}
use Rattle.class_loader.specs.Loads.{LoadsAll, StopsAt, IsLoaded}
use Rattle.class_loader.specs.Placed.{IsPlaced}
use Rattle.class_loader.specs.Stops.{manifest_stop}
use Rattle.class_loader.proofs.Loaders.{both, Follows, unread, unread-follows, stops_first, loads_behind, stops_behind, goes_on_with, loads_here, stops_here, starves_here, same_loading}
use Rattle.class_loader.proofs.PlacedLemmas.{placed_is_loaded}

-- ---- loading that goes on without a file

module _ {A B : Type 0} (first : Folder → Loading A) (next : A → Loading B) where
  stops_before : (files : Read) (stop : Stop) → StopsAt files first stop
      → StopsAt files (λ folder. first folder >>= next) stop
  stops_before files stop stopped = stops_first first (λ folder. next) files stop stopped

  goes_on : {T : Type 0} (view : T → B) (result : Result T Stop) (files : Read) (x : A)
      → LoadsAll files first x → IsPlaced view result (next x)
      → IsLoaded view result files (λ folder. first folder >>= next)
  goes_on view result files x loaded placed =
      goes_on_with first (λ folder. next) x files (unread files) (unread-follows files) loaded view
      result (placed_is_loaded view result files (λ folder. next x) (next x) (λ folder. refl) placed)

-- what is loaded is some work
module _ {A : Type 0} (first : Folder → Loading A) (work : A → Work) where
  comes_to_work : (files : Read) (x : A) → LoadsAll files first x
      → LoadsAll files (λ folder. first folder >>= λ y. yields (work y)) (work x)
  comes_to_work files x loaded =
      loads_behind first (λ folder y. yields (work y)) x files (unread files) (unread-follows files)
      loaded (work x) (loads_here files (λ folder. yields (work x)) (work x) (λ folder. refl))

-- ---- the program of a manifest

module _ (manifest : Manifest) where
  abbrev items_in : Folder → Loading (List LoadedClass)
  items_in folder = load_items folder 1 0 manifest.items

  pub items_stop : (files : Read) (stop : Stop) → StopsAt files items_in stop
      → StopsAt files (λ folder. load_manifest folder manifest) stop
  items_stop files stop stopped =
      stops_before items_in (verified_program manifest) files stop stopped

  pub items_go_on : {T : Type 0} (view : T → VerifiedProgram) (result : Result T Stop)
      (files : Read) (classes : List LoadedClass) → LoadsAll files items_in classes
      → IsPlaced view result (verified_program manifest classes)
      → IsLoaded view result files (λ folder. load_manifest folder manifest)
  items_go_on view result files classes loaded placed =
      goes_on items_in (verified_program manifest) view result files classes loaded placed

module _ (name : List ℕ) where
  abbrev named_file : Folder → Loading (List ℕ)
  named_file folder = file_at folder name most_file_bytes 0 0

  pub manifest_stops : (files : Read) (stop : Stop) → StopsAt files named_file stop
      → StopsAt files (λ folder. load_program folder name) stop
  unfolding load_program
  manifest_stops files stop stopped = stops_first named_file load_text files stop stopped

  module _ (files : Read) (text : List ℕ) (loaded : LoadsAll files named_file text) where
    text_goes_on : {T : Type 0} (view : T → VerifiedProgram) (result : Result T Stop)
        (files_then : Read) → Follows files files_then
        → IsLoaded view result files_then (λ folder. load_text folder text)
        → IsLoaded view result (both files files_then) (λ folder. load_program folder name)
    unfolding load_program
    text_goes_on view result files_then follows then =
        goes_on_with named_file load_text text files files_then follows loaded view result then

    pub manifest_is_faulty : (error : ManifestError)
        → TellsManifest (Err error) (manifest_of text)
        → StopsAt files (λ folder. load_program folder name) (manifest_stop error)
    unfolding load_program
    manifest_is_faulty (manifest_errors.Line fault) told =
        stops_behind named_file load_text text files (unread files) (unread-follows files) loaded
        (manifest_stop (manifest_errors.Line fault))
        (stops_here files (λ folder. load_text folder text) 0 0 _
        (λ folder. ap (λ read. placed 0 0 (or_line read) >>= load_manifest folder) told))
    manifest_is_faulty manifest_errors.NoMemory told =
        stops_behind named_file load_text text files (unread files) (unread-follows files) loaded
        (manifest_stop manifest_errors.NoMemory)
        (starves_here files (λ folder. load_text folder text))

    pub manifest_goes_on : {T : Type 0} (view : T → VerifiedProgram) (result : Result T Stop)
        (manifest : Manifest) → manifest_of text ≡ Ok manifest → (files_then : Read)
        → Follows files files_then
        → IsLoaded view result files_then (λ folder. load_manifest folder manifest)
        → IsLoaded view result (both files files_then) (λ folder. load_program folder name)
    manifest_goes_on view result manifest is files_then follows then =
        text_goes_on view result files_then follows
        (same_loading (λ folder. load_manifest folder manifest) (λ folder. load_text folder text)
        (λ folder. sym (ap (λ read. placed 0 0 (or_line read) >>= load_manifest folder) is)) view
        result files_then then)

  -- ---- what comes of it

  pub run_stops : (files : Read) (stop : Stop)
      → StopsAt files (λ folder. load_program folder name) stop
      → StopsAt files (λ folder. load_run folder name) stop
  unfolding load_run
  run_stops files stop stopped =
      stops_before (λ folder. load_program folder name)
      (λ verified. unless_later (program_of verified)) files stop stopped

  pub run_goes_on : {T : Type 0} (view : T → Program) (result : Result T Stop) (files : Read)
      (verified : VerifiedProgram)
      → LoadsAll files (λ folder. load_program folder name) verified
      → IsPlaced view result (unless_later (program_of verified))
      → IsLoaded view result files (λ folder. load_run folder name)
  unfolding load_run
  run_goes_on view result files verified loaded placed =
      goes_on (λ folder. load_program folder name) (λ verified. unless_later (program_of verified))
      view result files verified loaded placed

  pub check_stops : (files : Read) (stop : Stop)
      → StopsAt files (λ folder. load_program folder name) stop
      → StopsAt files (λ folder. load_check folder name) stop
  unfolding load_check
  check_stops files stop stopped =
      stops_before (λ folder. load_program folder name)
      (λ verified. unless_later (check_text verified)) files stop stopped

  pub check_goes_on : {T : Type 0} (view : T → List ℕ) (result : Result T Stop) (files : Read)
      (verified : VerifiedProgram)
      → LoadsAll files (λ folder. load_program folder name) verified
      → IsPlaced view result (unless_later (check_text verified))
      → IsLoaded view result files (λ folder. load_check folder name)
  unfolding load_check
  check_goes_on view result files verified loaded placed =
      goes_on (λ folder. load_program folder name) (λ verified. unless_later (check_text verified))
      view result files verified loaded placed

  pub asm_stops : (files : Read) (stop : Stop) → StopsAt files named_file stop
      → StopsAt files (λ folder. load_asm folder name) stop
  unfolding load_asm
  asm_stops files stop stopped = stops_before named_file class_file_of files stop stopped

  pub asm_goes_on : {T : Type 0} (view : T → List ℕ) (result : Result T Stop) (files : Read)
      (text : List ℕ) → LoadsAll files named_file text
      → IsPlaced view result (class_file_of text)
      → IsLoaded view result files (λ folder. load_asm folder name)
  unfolding load_asm
  asm_goes_on view result files text loaded placed =
      goes_on named_file class_file_of view result files text loaded placed

  -- ---- the work of each mode

  pub run_work_stops : (files : Read) (stop : Stop)
      → StopsAt files (λ folder. load_run folder name) stop
      → StopsAt files (λ folder. load_work folder (run_of name)) stop
  unfolding load_work
  run_work_stops files stop stopped =
      stops_before (λ folder. load_run folder name) (λ program. yields (runs program)) files stop
      stopped

  pub run_work : (files : Read) (program : Program)
      → LoadsAll files (λ folder. load_run folder name) program
      → LoadsAll files (λ folder. load_work folder (run_of name)) (runs program)
  unfolding load_work
  run_work files program loaded =
      comes_to_work (λ folder. load_run folder name) runs files program loaded

  pub check_work_stops : (files : Read) (stop : Stop)
      → StopsAt files (λ folder. load_check folder name) stop
      → StopsAt files (λ folder. load_work folder (check_of name)) stop
  unfolding load_work
  check_work_stops files stop stopped =
      stops_before (λ folder. load_check folder name) (λ text. yields (writes text)) files stop
      stopped

  pub check_work : (files : Read) (text : List ℕ)
      → LoadsAll files (λ folder. load_check folder name) text
      → LoadsAll files (λ folder. load_work folder (check_of name)) (writes text)
  unfolding load_work
  check_work files text loaded =
      comes_to_work (λ folder. load_check folder name) writes files text loaded

  pub asm_work_stops : (files : Read) (stop : Stop)
      → StopsAt files (λ folder. load_asm folder name) stop
      → StopsAt files (λ folder. load_work folder (asm_of name)) stop
  unfolding load_work
  asm_work_stops files stop stopped =
      stops_before (λ folder. load_asm folder name) (λ bytes. yields (writes bytes)) files stop
      stopped

  pub asm_work : (files : Read) (bytes : List ℕ)
      → LoadsAll files (λ folder. load_asm folder name) bytes
      → LoadsAll files (λ folder. load_work folder (asm_of name)) (writes bytes)
  unfolding load_work
  asm_work files bytes loaded =
      comes_to_work (λ folder. load_asm folder name) writes files bytes loaded
