use Rattle.std.proofs.Common.{◌≡◌, Some, slice_set, ap, ◌∙◌}
use Rattle.literal_table.specs.Literals.{Literals}
use Rattle.class_versions.specs.Versions.{VersionTables}
use Rattle.class_versions.proofs.Keeping.{move_literal}
use Rattle.class_versions.proofs.versions.Versions.move_literal.Goals as goal

pub returns-clause-keeps : goal.returns-clause-keeps
returns-clause-keeps c =
    let it = c.self.inside in
    let new = c.move_literal.new.self in
    let with : Literals → VersionTables = λ literals. record {
      layouts = it.fields.layouts;
      slots = it.calls.slots;
      dispatch = it.calls.dispatch;
      marks = it.marks;
      statics = it.fields.statics;
      locks = it.strings.locks.items;
      literals = literals;
    } in
    let added : Literals → Literals = λ old. record old {
      addresses = slice_set old.addresses c.args.number (Some c.args.address);
    } in
    let is : new ≡ added it.strings.literals = λ i. record {
      texts = c.move_literal.ensures.texts i;
      addresses = c.move_literal.ensures.addresses i;
      order = c.move_literal.ensures.order i;
      left = c.move_literal.ensures.left i;
    } in
    move_literal c.args.self.now _ c.args.number c.args.address c.requires.inside c.requires.interned
    (ap with is ∙ ap (λ (t : VersionTables). record t { literals = added t.literals }) c.self.view_is)
