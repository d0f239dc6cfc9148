use Rattle.std.proofs.Common.{[], sym}
use Rattle.std.proofs.lemmas.List.{append-nil}
use Rattle.manifest_reader.specs.Items.{update_of}
use Rattle.class_loader.specs.Outside.{read}
use Rattle.class_loader.proofs.ItemLemmas.{update_passed}
use Rattle.class_loader.proofs.items.add_item.Goals as goal

pub returns-in-Update-clause-item : goal.returns-in-Update-clause-item
returns-in-Update-clause-item g c = λ others.
    let files =
    read g.F.Files.folder g.F.Files.asked g.F.Files.faults c.args.files.now c.args.files.now in
    rw c.in-Update.is (
      [],
      sym (append-nil _),
      update_passed c.args.number c.args.gathered.now.bytes (update_of c.in-Update.field-0) others
          files,
    )
