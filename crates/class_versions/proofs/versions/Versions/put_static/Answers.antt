use Rattle.std.proofs.Common.{Some, if◌then◌else◌, ap, ◌∙◌}
use Rattle.static_fields.specs.Statics.{value_at, same_place}
use Rattle.class_versions.specs.Versions.{VersionTables}
use Rattle.class_versions.proofs.Keeping.{put_static}
use Rattle.class_versions.proofs.versions.Versions.put_static.Goals as goal

pub returns-clause-keeps : goal.returns-clause-keeps
returns-clause-keeps c =
    put_static c.args.self.now _ c.args.place c.args.value c.requires
    (λ other. c.put.ensures.values other
    ∙ ap (λ (t : VersionTables). if same_place c.args.place other then Some c.args.value else value_at t.statics other) c.self.view_is)
    (ap (λ (t : VersionTables). record t { statics = c.put.new.self }) c.self.view_is)
