-- What holds of lock words, whoever enters and leaves their monitors.
use Rattle.std.specs.Prelude.{◌≡◌, ℕ, zero, suc, ◌<◌, IsTrue, Option, Some, option_and_then}
use Rattle.jv_model.specs.Limits.{most_threads}
use Rattle.machine_model.specs.Heap.{Monitor}
use Rattle.machine_model.specs.WellKept.{owned_rightly}
use Rattle.vm_monitors.specs.Words.{monitor_of_word, word_of, IsLockWord, entered_word, left_word}

-- A monitor that a machine keeps has a word, and the word is that monitor.
abbrev pub WordsAreMonitors : Type 0
WordsAreMonitors = (m : Monitor) → IsTrue (owned_rightly most_threads m) → monitor_of_word (word_of m) ≡ m

-- so many changes one after the other, where each can be made
abbrev pub repeated : (ℕ → Option ℕ) → ℕ → ℕ → Option ℕ
repeated change zero word = Some word
repeated change (suc times) word = option_and_then (repeated change times) (change word)

-- A monitor that its owner leaves as often as it entered it has the word that it had, which is 0 where it was free.
abbrev pub LeavingUndoesEntering : Type 0
LeavingUndoesEntering = (t times word entered : ℕ) → t < most_threads → IsLockWord word
    → repeated (entered_word t) times word ≡ Some entered → repeated (left_word t) times entered ≡ Some word
