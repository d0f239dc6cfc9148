-- What the words of deeds keep.
use Rattle.std.proofs.Common.{◌≡◌, ℕ, Bool, true, false, cond, List, ◌∷◌, length, Option, Some, None, refl}
use Rattle.machine_model.specs.Value.{Value, int, long, half, null, reference}
use Rattle.machine_model.specs.Heap.{Contents, words_of}
use Rattle.machine_model.specs.State.{Thread, State}
use Rattle.machine_model.specs.Deed.{Deed, does, wrong, Running, ◌>>=◌, with_frames, frame_after, has_room, finishes, goes_on, allocates, on_object}
use Rattle.run_laws.specs.Keeps.{Keeps, KeepsIn}
use Rattle.run_laws.proofs.Keeping.{then, thread_changed, object_added}

pub in_bind : {A : Type 0} (t : ℕ) (before : State) (found : Option A) (next : A → Deed)
    → ((a : A) → KeepsIn t before (next a)) → KeepsIn t before (found >>= next)
in_bind t before None next each = tt
in_bind t before (Some a) next each = each a

pub in_bind_is : {A : Type 0} (t : ℕ) (before : State) (found : Option A) (next : A → Deed)
    → ((a : A) → found ≡ Some a → KeepsIn t before (next a)) → KeepsIn t before (found >>= next)
in_bind_is t before None next each = tt
in_bind_is t before (Some a) next each = each a refl

pub in_test : (t : ℕ) (before : State) (test : Bool) (one other : Deed) → KeepsIn t before one → KeepsIn t before other
    → KeepsIn t before (cond test one other)
in_test t before true one other p q = p
in_test t before false one other p q = q

pub in_object : (t : ℕ) (before : State) (value : Value) (next : ℕ → Deed) → ((id : ℕ) → KeepsIn t before (next id))
    → KeepsIn t before (on_object value next)
in_object t before null next each = tt
in_object t before (reference id) next each = each id
in_object t before (int n) next each = tt
in_object t before (long n) next each = tt
in_object t before half next each = tt

pub in_finishes : (words : ℕ) (mark : Bool) (running : Running) (state : State) (rest : List Value)
    → Keeps running.thread running.state state
    → KeepsIn running.thread running.state (finishes words mark running state rest)
in_finishes words mark running state rest kept =
    in_test running.thread running.state (has_room running.body running.frame.stack rest) (does words mark (with_frames running (frame_after running rest ∷ running.callers) state)) wrong
    (then running.thread running.state state _ kept (thread_changed running.thread (λ (th : Thread). record th { frames = frame_after running rest ∷ running.callers }) state)) tt

pub in_goes_on : (running : Running) (state : State) (rest : List Value) → Keeps running.thread running.state state
    → KeepsIn running.thread running.state (goes_on running state rest)
in_goes_on running state rest kept = in_finishes 0 false running state rest kept

pub in_allocates : (mark : Bool) (running : Running) (contents : Contents) (rest : List Value)
    → KeepsIn running.thread running.state (allocates mark running contents rest)
in_allocates mark running contents rest =
    in_finishes (words_of contents) mark running _ (reference (length running.state.heap) ∷ rest) (object_added running.thread contents running.state)
