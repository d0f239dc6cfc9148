-- What is read line by line is what the text says.
use Rattle.std.proofs.Common.{◌≡◌, ◌∷◌, [], ◌++◌, true, false, Some, None, ap, sym, ◌∙◌, arith}
use Rattle.std.specs.Prelude.{option_map}
use Rattle.std.proofs.lemmas.List.{map-append}
use Rattle.jv_model.specs.Lines.{lines_of}
use Rattle.jv_types.specs.Entry.{entry_of as view, entries_of}
use Rattle.jv_types.specs.Lines.{line_view}
use Rattle.text_model.specs.JournalText.{entry_of, is_end, journal_from, journal_of}
use Rattle.run_text.proofs.ReadLemmas.{behind, journal_from-none, journal_from-end, journal_from-bad, journal_from-entry}
use Rattle.run_text.proofs.journal_reader.read_journal.Goals.{else-loop-left-test, then-loop-left-test+else-is_end+in_default}
use Rattle.run_text.proofs.journal_reader.read_journal.Goals as goal

pub loop-left-init : goal.loop-left-init
unfolding journal_of
loop-left-init c = record { short = omega arith; same = rw c.new-entries.ensures }

pub returns-then-is_end : goal.returns-then-is_end
returns-then-is_end c =
    let entries = entries_of c.loop-left.entries.items in
    let line = line_view c.split_line.result.0 in
    let lines = lines_of c.split_line.result.1.now in
    let ends : is_end line ≡ true = sym c.is_end.ensures ∙ c.if-is_end.true in
    rw c.bad_behind_end.ensures (sym (journal_from-end entries c.loop-left.number line lines ends)
    ∙ ap (λ lines. behind entries (journal_from c.loop-left.number lines)) (sym c.split_line.ensures.line)
    ∙ c.loop-left.invariant.same)

pub loop-left-preserved : goal.loop-left-preserved
loop-left-preserved c =
    let entries = entries_of c.loop-left.entries.items in
    let line = line_view c.split_line.result.0 in
    let lines = lines_of c.split_line.result.1.now in
    let goes_on : is_end line ≡ false = sym c.is_end.ensures ∙ c.if-is_end.false in
    let is : entry_of line ≡ Some (view c.in-Some.entry) = sym c.read_entry.ensures ∙ ap (option_map view) c.in-Some.is in
    let added : entries_of c.push.new.self.items ≡ entries ++ view c.in-Some.entry ∷ [] =
    ap entries_of c.in_ok-push.ensures.ok ∙ map-append view c.loop-left.entries.items (c.in-Some.entry ∷ []) in
    record {
      short = omega arith;
      same = rw added (sym (journal_from-entry entries c.loop-left.number line lines (view c.in-Some.entry) goes_on is)
          ∙ ap (λ lines. behind entries (journal_from c.loop-left.number lines)) (sym c.split_line.ensures.line)
          ∙ c.loop-left.invariant.same);
    }

pub returns : goal.returns
returns c =
    let entries = entries_of c.loop-left.entries.items in
    elim c.loop-left-test.branch [
      | else-loop-left-test w ↦ sym (journal_from-none entries c.loop-left.number c.loop-left.left.now (sym w.loop-left-test.ensures)) ∙ c.loop-left.invariant.same
      | then-loop-left-test+else-is_end+in_default w ↦
          let line = line_view w.split_line.result.0 in
          let lines = lines_of w.split_line.result.1.now in
          let goes_on : is_end line ≡ false = sym w.is_end.ensures ∙ w.if-is_end.false in
          let bad : entry_of line ≡ None = sym w.in_default.ensures in
          sym (journal_from-bad entries c.loop-left.number line lines goes_on bad)
          ∙ ap (λ lines. behind entries (journal_from c.loop-left.number lines)) (sym w.split_line.ensures.line)
          ∙ c.loop-left.invariant.same
    ]
