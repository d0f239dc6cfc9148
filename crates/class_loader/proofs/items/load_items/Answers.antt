use Rattle.std.proofs.Common.{◌≡◌, ℕ, ◌+◌, List, [], Some, drop, map, refl, sym, ap, subst, ◌∙◌, arith}
use Rattle.std.specs.Prelude.{All, option_map, slice_get}
use Rattle.std.proofs.lemmas.List.{drop_all}
use Rattle.std.proofs.lemmas.Option.{get_or_from_slice_get, slice_get-map, slice_get_within}
use Rattle.std.proofs.lemmas.Result.{err_from_is_err_and}
use Rattle.jv_model.specs.Limits.{most_file_bytes}
use Rattle.jv_model.specs.Outside.{Folder}
use Rattle.manifest_model.specs.Manifest.{ManifestItem}
use Rattle.manifest_laws.specs.Laws.{BlockIsWithin}
use Rattle.code_reader.proofs.Starts.{drop_item}
use Rattle.load_model.specs.Loading.{yields}
use Rattle.load_model.specs.LoadItems.{load_items}
use Rattle.manifest_reader.specs.declared.item.ManifestItem as read_items
use Rattle.manifest_reader.specs.Items.{item_of}
use Rattle.load_model.specs.Reads.{Read}
use Rattle.class_loader.specs.declared.stop.Stop.{Stop}
use Rattle.class_loader.specs.Outside.{read}
use Rattle.class_loader.specs.Loads.{StopsAt}
use Rattle.class_loader.specs.Items.{classes_in, CameSoFar}
use Rattle.class_loader.proofs.ItemLemmas.{came_on, came_to_end, stops_further}
use Rattle.class_loader.proofs.items.load_items.Goals as goal

nothing_left : (folder : Folder) (number before : ℕ) (items : List ManifestItem) → items ≡ []
    → load_items folder number before items ≡ yields []
unfolding load_items
nothing_left folder number before items none = ap (load_items folder number before) none

stops_same : {stop : Stop} (files : Read) (number before : ℕ) (here there : List ManifestItem)
    → here ≡ there → StopsAt files (λ folder. load_items folder number before there) stop
    → StopsAt files (λ folder. load_items folder number before here) stop
stops_same {stop} files number before here there same stopped =
    subst (λ items. StopsAt files (λ folder. load_items folder number before items) stop) (sym same)
    stopped

item_fits : (items : List read_items.ManifestItem) (k : ℕ) (item : read_items.ManifestItem)
    → All (BlockIsWithin most_file_bytes) (map item_of items) → slice_get items k ≡ Some item
    → BlockIsWithin most_file_bytes (item_of item)
item_fits items k item fits is =
    let there : slice_get (map item_of items) k ≡ Some (item_of item) =
    slice_get-map item_of items k ∙ ap (option_map item_of) is in
    subst (BlockIsWithin most_file_bytes)
    (get_or_from_slice_get (map item_of items) k (item_of item) (item_of item) there)
    (fits k (item_of item) (slice_get_within (map item_of items) k (item_of item) there))

pub loop-index-preserved : goal.loop-index-preserved
loop-index-preserved g c =
    let items = c.args.items.now.items in
    let index = c.loop-index.index in
    let bytes = c.loop-index.gathered.bytes in
    let others = map item_of (drop (index + 1) items) in
    let seam = ap (map item_of) (drop_item items index c.get.result.now c.get.ensures) in
    let files =
    read g.F.Files.folder g.F.Files.asked g.F.Files.faults c.args.files.now c.loop-index.files in
    let files_then =
    read g.F.Files.folder g.F.Files.asked g.F.Files.faults c.loop-index.files
    c.add_item.new.files in
    let added = c.in_ok-add_item.ensures.item others in
    let rest = λ (folder : Folder).
    load_items folder (index + 1 + 1) c.add_item.new.gathered.bytes others in
    record {
      folder = c.add_item.ensures.folder ∙ c.loop-index.invariant.folder;
      came = rw added.1
          (came_on (λ folder. load_items folder 1 0 (map item_of items))
          (λ folder. load_items folder (index + 1) bytes (map item_of (drop index items))) rest
          (classes_in c.loop-index.gathered.classes) added.0 files files_then
          (record {
            folder = c.loop-index.invariant.folder;
            asked = refl;
            faults = refl;
          }) c.loop-index.invariant.came
          (subst (λ list. CameSoFar files_then
          (λ folder. load_items folder (index + 1) bytes list) rest added.0) (sym seam) added.2));
      read = λ fits.
          c.in_ok-add_item.ensures.read (item_fits items index c.get.result.now fits c.get.ensures)
          (c.loop-index.invariant.read fits);
      within = c.add_item.ensures.within;
    }

pub returns-in_err-add_item-clause-loaded : goal.returns-in_err-add_item-clause-loaded
returns-in_err-add_item-clause-loaded g c =
    let error = err_from_is_err_and c.from_residual.result c.from_residual.ensures.1 in
    let items = c.args.items.now.items in
    let index = c.loop-index.index in
    let bytes = c.loop-index.gathered.bytes in
    let others = map item_of (drop (index + 1) items) in
    let seam = ap (map item_of) (drop_item items index c.get.result.now c.get.ensures) in
    let files =
    read g.F.Files.folder g.F.Files.asked g.F.Files.faults c.args.files.now c.loop-index.files in
    let files_then =
    read g.F.Files.folder g.F.Files.asked g.F.Files.faults c.loop-index.files
    c.add_item.new.files in
    rw (error.1, error.2)
    (stops_further (λ folder. load_items folder 1 0 (map item_of items))
    (λ folder. load_items folder (index + 1) bytes (map item_of (drop index items)))
    (classes_in c.loop-index.gathered.classes) files files_then
    (record {
      folder = c.loop-index.invariant.folder;
      asked = refl;
      faults = refl;
    }) c.loop-index.invariant.came _
    (stops_same files_then (index + 1) bytes (map item_of (drop index items)) _ seam
    (c.in_err-add_item.ensures.item others)))

pub returns-clause-loaded : goal.returns-clause-loaded
returns-clause-loaded g c =
    let items = c.args.items.now.items in
    let index = c.loop-index.index in
    let none : map item_of (drop index items) ≡ [] =
    ap (map item_of) (drop_all index items (omega arith)) in
    let files =
    read g.F.Files.folder g.F.Files.asked g.F.Files.faults c.args.files.now c.loop-index.files in
    came_to_end (λ folder. load_items folder 1 0 (map item_of items))
    (λ folder. load_items folder (index + 1) c.loop-index.gathered.bytes
    (map item_of (drop index items))) (classes_in c.loop-index.gathered.classes) files
    (λ folder. nothing_left folder (index + 1) c.loop-index.gathered.bytes
    (map item_of (drop index items)) none) c.loop-index.invariant.came
