use Rattle.std.proofs.Common.{◌≡◌, ◌≤◌, ◌+◌, drop, map}
use Rattle.std.specs.Prelude.{All}
use Rattle.jv_model.specs.Limits.{most_file_bytes, most_all_files_bytes}
use Rattle.manifest_laws.specs.Laws.{BlockIsWithin}
use Rattle.load_model.specs.LoadItems.{load_items}
use Rattle.manifest_reader.specs.Items.{item_of}
use Rattle.class_loader.specs.Outside.{read}
use Rattle.class_loader.specs.Items.{classes_in, AreRead, CameSoFar}
use Rattle.class_loader.proofs.items.load_items.Given as goal

abbrev pub invariant-loop-index : goal.invariant-loop-index
invariant-loop-index g l = record {
  folder : g.F.Files.folder l.files ≡ g.F.Files.folder l.fn.files;
  came : CameSoFar
      (read g.F.Files.folder g.F.Files.asked g.F.Files.faults l.fn.files l.files)
      (λ folder. load_items folder 1 0 (map item_of l.items.items))
      (λ folder. load_items folder (l.index + 1) l.gathered.bytes
      (map item_of (drop l.index l.items.items)))
      (classes_in l.gathered.classes);
  read : All (BlockIsWithin most_file_bytes) (map item_of l.items.items) → AreRead l.gathered.classes;
  within : l.gathered.bytes ≤ most_all_files_bytes;
}
