-- What changes of a state leave well kept.
use Rattle.std.proofs.Common.{◌≡◌, ℕ, zero, suc, ◌+◌, ◌≤◌, Bool, true, false, List, [], ◌∷◌, ◌++◌, length, Option, Some, None, refl, ap, ◌∙◌, arith, map, sum, length-append}
use Rattle.std.specs.Prelude.{slice_get, nat_le, nat_lt, bytes_eq}
use Rattle.std.specs.List.{list_all, IsDistinct}
use Rattle.std.proofs.lemmas.List.Sums.{sum_by-cons}
use Rattle.std.proofs.lemmas.Bool.{and_parts, le-leb, leb-false, lt-ltb, ltb-true}
use Rattle.jv_model.specs.Limits.{most_threads, most_output_bytes}
use Rattle.machine_model.specs.Heap.{Contents, string, Object, Monitor, free, owned, Heap, replace_at, with_object, with_contents, entered, exited}
use Rattle.machine_model.specs.State.{Thread, Static, ClassMonitor, Interned, State, with_thread, with_class_monitor}
use Rattle.machine_model.specs.Monitors.{change_monitor}
use Rattle.machine_model.specs.Strings.{with_interned, interned_string}
use Rattle.machine_model.specs.WellKept.{frames_fit, ended_rightly, owned_rightly, WellKept}
use Rattle.run_laws.proofs.Keeping.{length-replace_at}
use Rattle.frame_laws.proofs.Outcome.{both}
use Rattle.frame_laws.proofs.Growing.{all_pass}
use Rattle.state_laws.proofs.Lists.{all_replaced, all_with, all_where, all_last, distinct_last}

-- ---- monitors

abbrev pub objects_owned : ℕ → Heap → Bool
objects_owned threads heap = list_all (λ (o : Object). owned_rightly threads o.monitor) heap

abbrev pub classes_owned : ℕ → List ClassMonitor → Bool
classes_owned threads monitors = list_all (λ (m : ClassMonitor). owned_rightly threads m.monitor) monitors

pub entered_rightly : (threads t : ℕ) → nat_lt t threads ≡ true → (m : Monitor) → owned_rightly threads m ≡ true
    → owned_rightly threads (entered t m) ≡ true
entered_rightly threads t within free h = both (nat_lt t threads) (nat_le 1 1) within refl
entered_rightly threads t within (owned owner count) h =
    both (nat_lt owner threads) (nat_le 1 (count + 1)) (and_parts (nat_lt owner threads) (nat_le 1 count) h).0 (le-leb 1 (count + 1) (omega arith))

pub exited_rightly : (threads : ℕ) (m : Monitor) → owned_rightly threads m ≡ true → owned_rightly threads (exited m) ≡ true
exited_rightly threads free h = refl
exited_rightly threads (owned owner zero) h = refl
exited_rightly threads (owned owner (suc zero)) h = refl
exited_rightly threads (owned owner (suc (suc count))) h =
    both (nat_lt owner threads) (nat_le 1 (suc count)) (and_parts (nat_lt owner threads) (nat_le 1 (suc (suc count))) h).0 (le-leb 1 (suc count) (omega arith))

-- an owner is still a thread where there are more
more_rightly : (threads more : ℕ) → threads ≤ more → (m : Monitor) → owned_rightly threads m ≡ true → owned_rightly more m ≡ true
more_rightly threads more le free h = refl
more_rightly threads more le (owned owner count) h =
    let p = and_parts (nat_lt owner threads) (nat_le 1 count) h in
    both (nat_lt owner more) (nat_le 1 count) (let low = ltb-true owner threads p.0 in lt-ltb owner more (omega arith)) p.1

-- ---- all but the threads and the world

pub rest_kept : (state : State) (heap : Heap) (statics : List Static) (monitors : List ClassMonitor) (interned : List Interned)
    (output : List ℕ) (requests : ℕ) → WellKept state → objects_owned (length state.threads) heap ≡ true
    → classes_owned (length state.threads) monitors ≡ true → nat_le (length output) most_output_bytes ≡ true
    → IsDistinct bytes_eq (map (λ (i : Interned). i.units) interned)
    → WellKept (record state { heap = heap; statics = statics; class_monitors = monitors; interned = interned; output = output; requests = requests })
rest_kept state heap statics monitors interned output requests kept objects classes few distinct = record {
  threads = kept.threads;
  frames = kept.frames;
  output = few;
  ended = kept.ended;
  object_monitors = objects;
  class_monitors = classes;
  literals = distinct;
}

-- an object that changes keeps its monitor right
pub object_kept : (state : State) (id : ℕ) (change : Object → Object)
    → ((o : Object) → owned_rightly (length state.threads) o.monitor ≡ true → owned_rightly (length state.threads) (change o).monitor ≡ true)
    → WellKept state → WellKept (record state { heap = replace_at change state.heap id })
object_kept state id change each kept =
    rest_kept state (replace_at change state.heap id) state.statics state.class_monitors state.interned state.output state.requests kept
    (all_replaced (λ (o : Object). owned_rightly (length state.threads) o.monitor) change each state.heap id kept.object_monitors)
    kept.class_monitors kept.output kept.literals

pub contents_kept : (state : State) (id : ℕ) (contents : Contents) → WellKept state
    → WellKept (record state { heap = with_contents id contents state.heap })
contents_kept state id contents kept = object_kept state id (λ (o : Object). record o { contents = contents }) (λ o h. h) kept

pub added_kept : (state : State) (contents : Contents) → WellKept state
    → WellKept (record state { heap = with_object contents state.heap })
added_kept state contents kept =
    rest_kept state (with_object contents state.heap) state.statics state.class_monitors state.interned state.output state.requests kept
    (all_last (λ (o : Object). owned_rightly (length state.threads) o.monitor) state.heap (record { contents = contents; monitor = free }) kept.object_monitors refl)
    kept.class_monitors kept.output kept.literals

pub interned_kept : (state : State) (units : List ℕ) → interned_string units state ≡ None → WellKept state
    → WellKept (with_interned units state)
interned_kept state units none kept =
    let row : Interned = record { units = units; id = length state.heap } in
    let added = added_kept state (string units) kept in
    rest_kept state (with_object (string units) state.heap) state.statics state.class_monitors (state.interned ++ row ∷ []) state.output state.requests kept
    added.object_monitors kept.class_monitors kept.output (distinct_last state.interned row none kept.literals)

pub monitor_kept : (state : State) (class : List ℕ) (held : Option ℕ) (change : Monitor → Monitor)
    → ((m : Monitor) → owned_rightly (length state.threads) m ≡ true → owned_rightly (length state.threads) (change m) ≡ true)
    → WellKept state → WellKept (change_monitor class held change state)
monitor_kept state class (Some id) change each kept =
    object_kept state id (λ (o : Object). record o { monitor = change o.monitor }) (λ o h. each o.monitor h) kept
monitor_kept state class None change each kept =
    rest_kept state state.heap state.statics (with_class_monitor class change state.class_monitors) state.interned state.output state.requests kept
    kept.object_monitors
    (all_where (λ (m : ClassMonitor). owned_rightly (length state.threads) m.monitor) (λ (m : ClassMonitor). bytes_eq m.class class) (λ (m : ClassMonitor). record m { monitor = change m.monitor }) (λ m h. each m.monitor h) state.class_monitors kept.class_monitors)
    kept.output kept.literals

-- ---- threads

-- where as many threads stand there, and they have frames that fit and have ended rightly
with_threads : (state : State) (threads : List Thread) → length threads ≡ length state.threads
    → list_all (λ (th : Thread). frames_fit state.world th.frames) threads ≡ true → list_all ended_rightly threads ≡ true
    → WellKept state → WellKept (record state { threads = threads })
with_threads state threads same fit ended kept = record {
  threads = ap (λ (n : ℕ). nat_le n most_threads) same ∙ kept.threads;
  frames = fit;
  output = kept.output;
  ended = ended;
  object_monitors = ap (λ (n : ℕ). objects_owned n state.heap) same ∙ kept.object_monitors;
  class_monitors = ap (λ (n : ℕ). classes_owned n state.class_monitors) same ∙ kept.class_monitors;
  literals = kept.literals;
}

-- a thread has other frames, which fit
pub thread_kept : (state : State) (t : ℕ) (change : Thread → Thread) (th : Thread) → slice_get state.threads t ≡ Some th
    → frames_fit state.world (change th).frames ≡ true → ended_rightly (change th) ≡ true → WellKept state
    → WellKept (with_thread t change state)
thread_kept state t change th at fit ended kept =
    with_threads state (replace_at change state.threads t) (length-replace_at change state.threads t)
    (all_with (λ (th : Thread). frames_fit state.world th.frames) change state.threads t th at fit kept.frames)
    (all_with ended_rightly change state.threads t th at ended kept.ended) kept

pub mark_kept : (state : State) (t : ℕ) (mark : Bool) → WellKept state
    → WellKept (with_thread t (λ (th : Thread). record th { mark = mark }) state)
mark_kept state t mark kept =
    with_threads state (replace_at (λ (th : Thread). record th { mark = mark }) state.threads t) (length-replace_at (λ (th : Thread). record th { mark = mark }) state.threads t)
    (all_replaced (λ (th : Thread). frames_fit state.world th.frames) (λ (th : Thread). record th { mark = mark }) (λ th h. h) state.threads t kept.frames)
    (all_replaced ended_rightly (λ (th : Thread). record th { mark = mark }) (λ th h. h) state.threads t kept.ended) kept

-- one thread more
pub started_kept : (state : State) (th : Thread) → nat_le most_threads (length state.threads) ≡ false
    → frames_fit state.world th.frames ≡ true → ended_rightly th ≡ true → WellKept state
    → WellKept (record state { threads = state.threads ++ th ∷ [] })
started_kept state th room fit ended kept =
    let same : length (state.threads ++ th ∷ []) ≡ suc (length state.threads) = omega (arith, length-append state.threads (th ∷ [])) in
    let more : length state.threads ≤ length (state.threads ++ th ∷ []) = omega arith in
    record {
      threads = few (nat_le most_threads (length state.threads)) refl room same;
      frames = all_last (λ (th : Thread). frames_fit state.world th.frames) state.threads th kept.frames fit;
      output = kept.output;
      ended = all_last ended_rightly state.threads th kept.ended ended;
      object_monitors = all_pass (λ (o : Object). owned_rightly (length state.threads) o.monitor) (λ (o : Object). owned_rightly (length (state.threads ++ th ∷ [])) o.monitor)
          (λ o h. more_rightly (length state.threads) (length (state.threads ++ th ∷ [])) more o.monitor h) state.heap kept.object_monitors;
      class_monitors = all_pass (λ (m : ClassMonitor). owned_rightly (length state.threads) m.monitor) (λ (m : ClassMonitor). owned_rightly (length (state.threads ++ th ∷ [])) m.monitor)
          (λ m h. more_rightly (length state.threads) (length (state.threads ++ th ∷ [])) more m.monitor h) state.class_monitors kept.class_monitors;
      literals = kept.literals;
    }
  where
    few : (b : Bool) → nat_le most_threads (length state.threads) ≡ b → b ≡ false
        → length (state.threads ++ th ∷ []) ≡ suc (length state.threads) → nat_le (length (state.threads ++ th ∷ [])) most_threads ≡ true
    few true is h same = absurd cc
    few false is h same =
        le-leb (length (state.threads ++ th ∷ [])) most_threads (let high = leb-false most_threads (length state.threads) is in omega arith)

-- ---- words

pub sum_first : (n : ℕ) (ns : List ℕ) → sum (n ∷ ns) ≡ n + sum ns
sum_first n ns = sum_by-cons (λ (k : ℕ). k) n ns
