use Rattle.std.proofs.Common.{ℕ, List, length, ap, ◌∙◌}
use Rattle.std.proofs.lemmas.List.{length-replicate}
use Rattle.literal_table.proofs.Strings.{kept_none}
use Rattle.class_versions.proofs.Keeping.{has_statics}
use Rattle.class_versions.proofs.versions.Versions.open.Goals as goal

pub returns : goal.returns
returns c =
    let world = c.args.world.now in
    let calls = c.in_ok-calls.ensures in
    let strings = c.in_ok-strings.ensures in
    let literals = c.in_ok-strings.strings.literals in
    record {
      are = record {
        layouts = c.in_ok-fields.ensures.layouts;
        method_counts = calls.method_counts;
        slots = calls.are_slots;
        dispatch_count = calls.dispatch_count;
        selects = calls.selects;
        marks = c.in_ok-marks.ensures.each;
        codes = c.in_ok-marks.ensures.shown;
        statics = has_statics world c.in_ok-fields.fields.statics c.in_ok-fields.ensures.values;
        locks = ap (λ (l : List ℕ). length l) strings.locks ∙ length-replicate (length world.classes) 0;
        texts = strings.texts;
        named = strings.named;
        kept = kept_none literals.texts literals.addresses literals.order strings.addresses strings.order;
      };
      start = record {
        values = c.in_ok-fields.ensures.values;
        locks = strings.locks;
        addresses = strings.addresses;
        order = strings.order;
      };
      room = strings.room;
      each = strings.each;
    }
