-- The monitors of a heap's objects, each by its lock word.
use Rattle.std.specs.Prelude.{ℕ, Option, Some, None, option_map, unwrap_or}
use Rattle.machine_model.specs.Heap.{Monitor}
use Rattle.heap_face.specs.declared.address.Addr.{Addr}
use Rattle.heap_face.specs.Heap.{HeapState, Stored, object_of, with_lock}
use Rattle.vm_monitors.specs.Words.{monitor_of_word, entered_word, left_word}

-- the lock word of the object at an address
abbrev pub lock_of : HeapState → Addr → ℕ
lock_of heap a = unwrap_or (option_map (λ (object : Stored ℕ). object.lock) (object_of heap a)) 0

-- the monitor of the object at an address
abbrev pub monitor_at : HeapState → Addr → Monitor
monitor_at heap a = monitor_of_word (lock_of heap a)

-- the heap with that lock word, or as it is where there is none
abbrev pub with_lock_or_same : Addr → HeapState → Option ℕ → HeapState
with_lock_or_same a heap (Some word) = with_lock a word heap
with_lock_or_same a heap None = heap

-- the heap after thread t entered the monitor of an object, or as it is where another thread owns that
abbrev pub entered_at : ℕ → Addr → HeapState → HeapState
entered_at t a heap = with_lock_or_same a heap (entered_word t (lock_of heap a))

-- the heap after thread t left the monitor of an object, or as it is where it doesn't own that
abbrev pub left_at : ℕ → Addr → HeapState → HeapState
left_at t a heap = with_lock_or_same a heap (left_word t (lock_of heap a))
