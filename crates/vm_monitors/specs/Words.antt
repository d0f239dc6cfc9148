-- Which monitor (JVMS 2.11.10) a lock word is: the number of threads times how often its owner entered it, and the
-- owner's number. A word that counts nothing is a free monitor.
use Rattle.std.specs.Prelude.{◌≡◌, ℕ, zero, suc, ◌+◌, ◌-◌, ◌*◌, ◌/◌, ◌%◌, ◌^◌, if◌then◌else◌, Option, Some, None}
use Rattle.jv_model.specs.Limits.{most_threads}
use Rattle.machine_model.specs.Heap as model
use Rattle.machine_model.specs.Heap.{free, owned, entered, exited, is_owned_by, is_owned_by_other}
use Rattle.vm_monitors.specs.declared.monitor.Monitor.{Monitor}
use Rattle.vm_monitors.specs.declared.monitor.Monitor.TheVariants.{Free, Owned}

-- the monitor that one of the code is
abbrev pub monitor_of : Monitor → model.Monitor
monitor_of Free = free
monitor_of (Owned owner count) = owned owner.0 count

abbrev pub owned_by : ℕ → ℕ → model.Monitor
owned_by owner zero = free
owned_by owner (suc others) = owned owner (suc others)

abbrev pub monitor_of_word : ℕ → model.Monitor
monitor_of_word word = owned_by (word % most_threads) (word / most_threads)

abbrev pub word_of : model.Monitor → ℕ
word_of free = 0
word_of (owned owner count) = count * most_threads + owner

-- It is the one word of its monitor.
abbrev pub IsLockWord : ℕ → Type 0
IsLockWord word = word_of (monitor_of_word word) ≡ word

-- how often the owner of a monitor entered it and didn't leave it
abbrev pub count_of : model.Monitor → ℕ
count_of free = 0
count_of (owned owner count) = count

-- the greatest count in a word of 64 bits
abbrev pub most_entries : ℕ
most_entries = 2 ^ 58 - 1

-- the word after thread t entered the monitor, where no other thread owns it
abbrev pub entered_word : ℕ → ℕ → Option ℕ
entered_word t word = if is_owned_by_other t (monitor_of_word word) then None
    else Some (word_of (entered t (monitor_of_word word)))

-- the word after thread t left the monitor, where it owns it
abbrev pub left_word : ℕ → ℕ → Option ℕ
left_word t word = if is_owned_by t (monitor_of_word word) then Some (word_of (exited (monitor_of_word word))) else None
