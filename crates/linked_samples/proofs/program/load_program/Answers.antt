use Rattle.jv_model.specs.Limits.{most_file_bytes}
use Rattle.manifest_laws.proofs.LengthLemmas.{blocks_are_within}
use Rattle.manifest_reader.specs.Statements.{manifest_view}
use Rattle.linked_samples.proofs.program.load_program.Goals as goal

-- no block is longer than the text that it stands in
pub returns : goal.returns
returns g c =
    c.in_ok-classes.ensures.read
    (blocks_are_within most_file_bytes c.in_ok-text.text.items (manifest_view c.in_ok-manifest.manifest)
    (rw c.as_slice.ensures at c.in_ok-manifest.ensures.manifest) c.in_ok-text.ensures.within)
