use Rattle.std.proofs.Common.{ℕ, List, slice_set, ap, ◌∙◌}
use Rattle.class_versions.specs.Versions.{VersionTables}
use Rattle.class_versions.proofs.Keeping.{set_lock}
use Rattle.class_versions.proofs.versions.Versions.set_class_lock.Goals as goal

pub returns-clause-keeps : goal.returns-clause-keeps
returns-clause-keeps c =
    let it = c.self.inside in
    let with : List ℕ → VersionTables = λ locks. record {
      layouts = it.fields.layouts;
      slots = it.calls.slots;
      dispatch = it.calls.dispatch;
      marks = it.marks;
      statics = it.fields.statics;
      locks = locks;
      literals = it.strings.literals;
    } in
    set_lock c.args.self.now _ c.args.class c.args.word
    (ap with c.set.ensures.items
    ∙ ap (λ (t : VersionTables). record t { locks = slice_set t.locks c.args.class.0 c.args.word }) c.self.view_is)
