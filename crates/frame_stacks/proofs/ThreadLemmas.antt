-- A thread among others.
use Rattle.std.proofs.Common.{◌≡◌, ℕ, zero, suc, ◌+◌, ◌-◌, ◌<◌, List, [], ◌∷◌, ◌++◌, length, get_or, take, drop, set, refl, sym, ap, ◌∙◌, subst, arith}
use Rattle.std.specs.Prelude.{Option, Some, None, IsSomeAnd, slice_get, replicate, vec_len}
use Rattle.std.proofs.lemmas.List.{length-take, drop-set-lt, drop-drop}
use Rattle.std.proofs.Math.Seq.{take-suc-set}
use Rattle.std.proofs.lemmas.Option.{slice_get_within, slice_get-get_or}
use Rattle.std.specs.Vec.{with_item}
use Rattle.machine_model.specs.Heap.{replace_at}
use Rattle.frame_stacks.specs.declared.thread.Thread.{Thread}
use Rattle.frame_stacks.specs.declared.stacks.Stacks.TheInside.{Inside}
use Rattle.frame_stacks.specs.Threads.{Threads, IsOf, change_thread}
use Rattle.frame_stacks.specs.Kept.{unused, threads_of, AreKept}

replaced : (threads : List Thread) (count t : ℕ) (thread : Thread) (change : Thread → Thread) → t < count → slice_get threads t ≡ Some thread → take count (set threads t (change thread)) ≡ replace_at change (take count threads) t
replaced [] count t thread change h e = absurd cc
replaced (x ∷ threads) zero t thread change h e = absurd (omega arith)
replaced (x ∷ threads) (suc count) zero thread change h e =
    let same : thread ≡ x = cc in ap (λ y. change y ∷ take count threads) same
replaced (x ∷ threads) (suc count) (suc t) thread change h e =
    ap (λ others. x ∷ others) (replaced threads count t thread change (omega arith) e)

there : (threads : List Thread) (count t : ℕ) (thread : Thread) → t < count → slice_get threads t ≡ Some thread → slice_get (take count threads) t ≡ Some thread
there [] count t thread h e = absurd cc
there (x ∷ threads) zero t thread h e = absurd (omega arith)
there (x ∷ threads) (suc count) zero thread h e = e
there (x ∷ threads) (suc count) (suc t) thread h e = there threads count t thread (omega arith) e

-- ---- what is known of a thread

pub some_of : (P : Thread → Type 0) (all : Threads) (t : ℕ) → IsOf all t P → t < length all.threads
some_of P all t h = within (slice_get all.threads t) refl h
  where
    within : (found : Option Thread) → slice_get all.threads t ≡ found → IsSomeAnd found P → t < length all.threads
    within None e h = absurd h
    within (Some thread) e h = slice_get_within all.threads t thread e

pub counted : (it : Inside) (all : Threads) (t : ℕ) → threads_of it ≡ all → t < length all.threads → t < it.count
counted it all t view h = omega (arith, ap (λ (ts : Threads). length ts.threads) view, length-take it.count it.threads.items)

pub holds : (P : Thread → Type 0) (it : Inside) (all : Threads) (t : ℕ) (thread : Thread) → threads_of it ≡ all → slice_get it.threads.items t ≡ Some thread → IsOf all t P → P thread
holds P it all t thread view e h =
    let found = there it.threads.items it.count t thread (counted it all t view (some_of P all t h)) e in
    subst (λ (o : Option Thread). IsSomeAnd o P) (ap (λ (ts : Threads). slice_get ts.threads t) (sym view) ∙ found) h

pub tells : (P : Thread → Type 0) (it : Inside) (all : Threads) (t : ℕ) (thread : Thread) → threads_of it ≡ all → t < length all.threads → slice_get it.threads.items t ≡ Some thread → P thread → IsOf all t P
tells P it all t thread view h e p =
    let found = there it.threads.items it.count t thread (counted it all t view h) e in
    subst (λ (o : Option Thread). IsSomeAnd o P) (sym found ∙ ap (λ (ts : Threads). slice_get ts.threads t) view) p

-- ---- what a change leaves

pub kept : (it changed : Inside) (t : ℕ) (thread : Thread) → AreKept it → t < it.count → changed.count ≡ it.count → changed.threads.items ≡ set it.threads.items t thread → vec_len changed.threads ≡ vec_len it.threads → AreKept changed
kept it changed t thread are h count items long = record {
  most = omega (arith, count, are.most);
  few = omega (arith, count, long, are.few);
  others =
      ap (λ n. drop n changed.threads.items) count ∙ ap (drop it.count) items
      ∙ drop-set-lt it.count it.threads.items t thread h
      ∙ are.others
      ∙ ap (λ n. replicate n unused) (omega (arith, count, long));
}

pub renewed : (it changed : Inside) (all : Threads) (t : ℕ) (thread : Thread) (change : Thread → Thread) → threads_of it ≡ all → t < length all.threads → slice_get it.threads.items t ≡ Some thread
    → changed.count ≡ it.count → changed.threads.items ≡ set it.threads.items t (change thread) → vec_len changed.threads ≡ vec_len it.threads
    → threads_of changed ≡ change_thread t change all
renewed it changed all t thread change view h e count items long =
    let threads : take changed.count changed.threads.items ≡ replace_at change (take it.count it.threads.items) t =
    ap (λ n. take n changed.threads.items) count ∙ ap (take it.count) items
    ∙ replaced it.threads.items it.count t thread change (counted it all t view h) e in
    let is : List Thread → ℕ → Threads = λ ts room. record { threads = ts; room = room } in
    ap (λ ts. is ts (vec_len changed.threads)) threads
    ∙ ap (is (replace_at change (take it.count it.threads.items) t)) long
    ∙ ap (change_thread t change) view

-- ---- a thread that was written in place

pub found : (it : Inside) (all : Threads) (t : ℕ) (thread : Thread) → AreKept it → threads_of it ≡ all → t < length all.threads → thread ≡ get_or it.threads.items t thread → slice_get it.threads.items t ≡ Some thread
found it all t thread are view h value =
    let inside : t < length it.threads.items = omega (arith, counted it all t view h, are.few, it.threads.ok.0) in
    slice_get-get_or it.threads.items t thread inside ∙ ap Some (sym value)

pub kept_in : (it : Inside) (all : Threads) (t : ℕ) (thread : Thread) → AreKept it → threads_of it ≡ all → t < length all.threads → AreKept (record { threads = with_item it.threads t thread; count = it.count })
kept_in it all t thread are view h =
    kept it (record { threads = with_item it.threads t thread; count = it.count }) t thread are (counted it all t view h) refl refl refl

pub renewed_in : (it : Inside) (all : Threads) (t : ℕ) (thread changed : Thread) (change : Thread → Thread) → AreKept it → threads_of it ≡ all → t < length all.threads → thread ≡ get_or it.threads.items t thread → changed ≡ change thread
    → threads_of (record { threads = with_item it.threads t changed; count = it.count }) ≡ change_thread t change all
renewed_in it all t thread changed change are view h value is =
    renewed it (record { threads = with_item it.threads t changed; count = it.count }) all t thread change view h
    (found it all t thread are view h value) refl (ap (set it.threads.items t) is) refl

-- ---- a thread more

first_of : {A : Type 0} (list : List A) (n k : ℕ) (a : A) → drop n list ≡ replicate (suc k) a → slice_get list n ≡ Some a
first_of [] zero k a e = absurd cc
first_of [] (suc n) k a e = absurd cc
first_of (x ∷ list) zero k a e = let same : x ≡ a = cc in ap Some same
first_of (x ∷ list) (suc n) k a e = first_of list n k a e

-- the thread after those that there are is unused
pub next_unused : (it : Inside) (thread : Thread) → AreKept it → it.count < vec_len it.threads → thread ≡ get_or it.threads.items it.count thread → thread ≡ unused
next_unused it thread are h value =
    let inside : it.count < length it.threads.items = omega (arith, h, it.threads.ok.0) in
    let more : vec_len it.threads - it.count ≡ suc (vec_len it.threads - it.count - 1) = omega (arith, h) in
    let one : slice_get it.threads.items it.count ≡ Some thread = slice_get-get_or it.threads.items it.count thread inside ∙ ap Some (sym value) in
    let two : slice_get it.threads.items it.count ≡ Some unused = first_of it.threads.items it.count (vec_len it.threads - it.count - 1) unused (are.others ∙ ap (λ n. replicate n unused) more) in
    let both : Some thread ≡ Some unused = sym one ∙ two in
    cc

pub kept_more : (it : Inside) (thread : Thread) → AreKept it → it.count < vec_len it.threads → it.count < 64 → AreKept (record { threads = with_item it.threads it.count thread; count = it.count + 1 })
kept_more it thread are h few =
    let items = it.threads.items in
    let rest = vec_len it.threads - it.count in
    let more : rest ≡ suc (rest - 1) = omega (arith, h) in
    let less : rest - 1 ≡ vec_len it.threads - (it.count + 1) = omega arith in
    record {
      most = omega (arith, few);
      few = omega (arith, h);
      others =
          drop-set-lt (it.count + 1) items it.count thread (omega arith)
          ∙ sym (drop-drop 1 it.count items)
          ∙ ap (drop 1) (are.others ∙ ap (λ n. replicate n unused) more)
          ∙ ap (λ n. replicate n unused) less;
    }

pub added : (it : Inside) (all : Threads) (thread : Thread) → AreKept it → threads_of it ≡ all → it.count < vec_len it.threads → threads_of (record { threads = with_item it.threads it.count thread; count = it.count + 1 }) ≡ record { threads = all.threads ++ thread ∷ []; room = all.room }
added it all thread are view h =
    let inside : it.count < length it.threads.items = omega (arith, h, it.threads.ok.0) in
    let is : List Thread → Threads = λ ts. record { threads = ts; room = vec_len it.threads } in
    let next : it.count + 1 ≡ suc it.count = omega arith in
    ap is (ap (λ n. take n (set it.threads.items it.count thread)) next ∙ take-suc-set it.threads.items it.count thread inside)
    ∙ ap (λ (ts : Threads). let its : Threads = record { threads = ts.threads ++ thread ∷ []; room = ts.room } in its) view

pub counts : (it : Inside) (all : Threads) → AreKept it → threads_of it ≡ all → length all.threads ≡ it.count
counts it all are view = omega (arith, ap (λ (ts : Threads). length ts.threads) view, length-take it.count it.threads.items, are.few, it.threads.ok.0)
