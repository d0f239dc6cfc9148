-- Entering, and then leaving.
use Rattle.std.proofs.Common.{◌≡◌, ℕ, zero, suc, ◌+◌, ◌<◌, ◌≤◌, IsTrue, Bool, true, false, Option, Some, None, refl, ap, add-one, arith, ◌∙◌}
use Rattle.std.specs.Prelude.{option_and_then, nat_lt}
use Rattle.std.proofs.lemmas.Grind.{common_steps}
use Rattle.jv_model.specs.Limits.{most_threads}
use Rattle.machine_model.specs.Heap.{Monitor, free, owned, entered, exited, is_owned_by, is_owned_by_other}
use Rattle.machine_model.specs.WellKept.{owned_rightly}
use Rattle.vm_monitors.specs.Words.{monitor_of_word, word_of, IsLockWord, entered_word, left_word}
use Rattle.vm_monitors.specs.Laws.{WordsAreMonitors, LeavingUndoesEntering, repeated}

words_are_monitors : WordsAreMonitors
words_are_monitors m rightly = grind (arith, common_steps)

word_is_kept : (word : ℕ) → IsTrue (owned_rightly most_threads (monitor_of_word word))
word_is_kept word = grind (arith, common_steps)

entered_is_kept : (t : ℕ) (m : Monitor) → t < most_threads → IsTrue (owned_rightly most_threads m)
    → IsTrue (owned_rightly most_threads (entered t m))
entered_is_kept t m bound rightly = grind (arith, common_steps)

entered_is_owned : (t : ℕ) (m : Monitor) → is_owned_by_other t m ≡ false → is_owned_by t (entered t m) ≡ true
entered_is_owned t m mine = grind (arith, common_steps)

exited_entered : (t : ℕ) (m : Monitor) → IsTrue (owned_rightly most_threads m) → exited (entered t m) ≡ m
exited_entered t m rightly = grind (arith, common_steps)

-- What leaving makes of the word that entering made.
record OneEntry (t word after : ℕ) : Type 0 where
  left : left_word t after ≡ Some word
  one : IsLockWord after

one_entry : (t word after : ℕ) → t < most_threads → IsLockWord word → entered_word t word ≡ Some after
    → OneEntry t word after
one_entry t word after bound one made = grind (arith, common_steps)

-- the last of several changes apart
repeated-last : (change : ℕ → Option ℕ) (times word : ℕ)
    → repeated change (suc times) word ≡ option_and_then change (repeated change times word)
repeated-last change zero word = grind (arith, common_steps)
repeated-last change (suc times) word = grind (arith, common_steps, repeated-last change times)

-- one more change, which comes first
one_more : (t times word after : ℕ) (first : Option ℕ) → t < most_threads
    → ((word after : ℕ) → IsLockWord word → repeated (entered_word t) times word ≡ Some after
    → repeated (left_word t) times after ≡ Some word)
    → IsLockWord word → entered_word t word ≡ first
    → option_and_then (repeated (entered_word t) times) first ≡ Some after
    → repeated (left_word t) (suc times) after ≡ Some word
one_more t times word after None bound undone one e made = grind (arith, common_steps)
one_more t times word after (Some next) bound undone one e made =
    let entry : OneEntry t word next = one_entry t word next bound one e in
    let back : repeated (left_word t) times after ≡ Some next = undone next after entry.one made in
    rw (repeated-last (left_word t) times after, back) entry.left

pub leaving_undoes_entering : LeavingUndoesEntering
leaving_undoes_entering t zero word after bound one made = grind (arith, common_steps)
leaving_undoes_entering t (suc times) word after bound one made =
    one_more t times word after (entered_word t word) bound
    (λ w a. leaving_undoes_entering t times w a bound) one refl made
