-- What a journal's text says, as it is read.
use Rattle.std.specs.Prelude.{ℕ, List, Option, Ok}
use Rattle.jv_model.specs.Fallible.{◌>>=◌}
use Rattle.jv_model.specs.Limits.{most_entry_steps}
use Rattle.jv_model.specs.Journal.{Entry, run}
use Rattle.jv_types.specs.Entry.{entries_of}
use Rattle.text_model.specs.Numerals.{natural_in}
use Rattle.text_model.specs.JournalText.{ReadJournal, most_thread, read_entry}
use Rattle.run_text.specs.declared.journal_reader.JournalRead.{JournalRead}

abbrev pub read_of : JournalRead → ReadJournal
read_of read = record { entries = entries_of read.entries.items; bad = read.bad }

-- the entry of a thread and its steps, each as a word
abbrev pub run_of : List ℕ → List ℕ → Option Entry
run_of thread count =
    read_entry (natural_in 0 most_thread thread >>= λ t. natural_in 1 most_entry_steps count >>= λ k. Ok (run t k))
