-- The first line, then the others.
use Rattle.manifest_reader.proofs.ManifestLemmas.{tells_head, tells_whole}
use Rattle.manifest_reader.proofs.manifest.read_manifest.Goals as goal

pub returns-in_err-behind-clause-manifest : goal.returns-in_err-behind-clause-manifest
returns-in_err-behind-clause-manifest c =
    tells_head c.args.text.now c.in_err-behind.field-0.0 c.from_residual.result c.from_residual.ensures.1 c.in_err-behind.ensures

pub returns-clause-manifest : goal.returns-clause-manifest
returns-clause-manifest c =
    tells_whole c.args.text.now c.in_ok-behind.behind.now c.read_lines.result c.in_ok-behind.ensures c.read_lines.ensures
