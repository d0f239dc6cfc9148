-- The newest frame of a thread goes on.
use Rattle.std.proofs.Common.{◌≡◌, ◌≤◌, ℕ, zero, suc, true, List, [], ◌∷◌, ◌++◌, Some, map, slice_get, length, refl, ap, sym, subst, ◌∙◌}
use Rattle.std.specs.Prelude.{IsTrue, option_to_list, reverse}
use Rattle.std.specs.List.{list_all}
use Rattle.std.proofs.lemmas.Bool.{and_from, and_parts}
use Rattle.std.proofs.lemmas.List.Folds.{list_all-append}
use Rattle.world_model.specs.World.{World}
use Rattle.machine_model.specs.Heap.{replace_at}
use Rattle.machine_model.specs.State as model
use Rattle.machine_model.specs.Reach.{ids_in}
use Rattle.jv_values.specs.declared.value.Value.{Value}
use Rattle.jv_values.specs.Values.{values_of}
use Rattle.thread_frames.specs.Frames.{FrameState, change_newest}
use Rattle.thread_frames.specs.Machine.{held_in}
use Rattle.frame_stacks.specs.declared.thread.Thread.{Thread}
use Rattle.heap_objects.specs.Ids.{Ids, are_live, thread_by, values_by}
use Rattle.machine_threads.specs.Threads.{thread_in, Marks, IsFrame, AreFrames, IsThread}
use Rattle.machine_threads.specs.Laws.{frame_in, frames_in, with_rest, goes_to, with_newest, marked_as, ThreadsGoOn}

-- ---- lists

pub map_both : {A B C : Type 0} (f : B → C) (g : A → B) (xs : List A) → map f (map g xs) ≡ map (λ x. f (g x)) xs
map_both f g [] = refl
map_both f g (x ∷ xs) = ap (λ ys. f (g x) ∷ ys) (map_both f g xs)

map_replaced : {A B : Type 0} (h : A → B) (f : A → A) (g : B → B) (xs : List A) (t : ℕ) (a : A) → slice_get xs t ≡ Some a
    → h (f a) ≡ g (h a) → map h (replace_at f xs t) ≡ replace_at g (map h xs) t
map_replaced h f g [] t a at same = refl
map_replaced h f g (x ∷ xs) zero a at same =
    let is : x ≡ a = cc in
    (λ i. h (f (is i)) ∷ map h xs) ∙ (λ i. same i ∷ map h xs) ∙ (λ i. g (h (sym is i)) ∷ map h xs)
map_replaced h f g (x ∷ xs) (suc t) a at same = ap (λ ys. h x ∷ ys) (map_replaced h f g xs t a at same)

pub replaced_twice : {A : Type 0} (f g : A → A) (xs : List A) (t : ℕ)
    → replace_at (λ x. g (f x)) xs t ≡ replace_at g (replace_at f xs t) t
replaced_twice f g [] t = refl
replaced_twice f g (x ∷ xs) zero = refl
replaced_twice f g (x ∷ xs) (suc t) = ap (λ ys. x ∷ ys) (replaced_twice f g xs t)

pub each_replaced : {A : Type 0} (P : A → Type 0) (f : A → A) (xs : List A) (t : ℕ) (a : A) → slice_get xs t ≡ Some a → P (f a)
    → ((u : ℕ) (x : A) → slice_get xs u ≡ Some x → P x) → (u : ℕ) (x : A) → slice_get (replace_at f xs t) u ≡ Some x → P x
each_replaced P f [] t a at one each u x there = absurd cc
each_replaced P f (y ∷ xs) zero a at one each zero x there =
    let is : y ≡ a = cc in
    let changed : f y ≡ x = cc in
    subst P (ap f (sym is) ∙ changed) one
each_replaced P f (y ∷ xs) zero a at one each (suc u) x there = each (suc u) x there
each_replaced P f (y ∷ xs) (suc t) a at one each zero x there = each zero x there
each_replaced P f (y ∷ xs) (suc t) a at one each (suc u) x there =
    each_replaced P f xs t a at one (λ v z own. each (suc v) z own) u x there

-- ---- the frame

module _ (world : World) (marks : Marks) (ids : Ids) (pc : ℕ) (words : List Value) where
  frame_goes : (frame : FrameState) → length words ≤ frame.max_stack → IsTrue (are_live ids (ids_in (values_of words)))
      → IsFrame world marks ids frame → IsFrame world marks ids (with_rest pc words frame)
  frame_goes frame room live is = record {
    body = is.body;
    code = is.code;
    mark = is.mark;
    locals = is.locals;
    operands = is.operands;
    within = room;
    live =
        list_all-append ids.is_live (option_to_list (held_in frame.held) ++ ids_in (values_of frame.locals)) (ids_in (values_of words))
        ∙ and_from (list_all ids.is_live (option_to_list (held_in frame.held) ++ ids_in (values_of frame.locals)))
        (list_all ids.is_live (ids_in (values_of words))) below live;
  }
    where
      below : list_all ids.is_live (option_to_list (held_in frame.held) ++ ids_in (values_of frame.locals)) ≡ true
      below = (and_parts (list_all ids.is_live (option_to_list (held_in frame.held) ++ ids_in (values_of frame.locals)))
          (list_all ids.is_live (ids_in (values_of frame.stack)))
          (sym (list_all-append ids.is_live (option_to_list (held_in frame.held) ++ ids_in (values_of frame.locals))
          (ids_in (values_of frame.stack))) ∙ is.live)).0

  frames_go : (frame : FrameState) (older : List FrameState) → length words ≤ frame.max_stack
      → IsTrue (are_live ids (ids_in (values_of words))) → AreFrames world marks ids (frame ∷ older)
      → AreFrames world marks ids (change_newest (with_rest pc words) (frame ∷ older))
  frames_go frame older room live are = (frame_goes frame room live are.0, are.1)

pub threads_go_on : ThreadsGoOn
threads_go_on world marks ids stacks threads t frame older pc words mark are newest room live =
    record {
      same = map_both (thread_by ids.id) (thread_in world) (replace_at (goes_to pc words mark) stacks.threads t)
          ∙ map_replaced named (goes_to pc words mark) (λ th. marked_as mark (with_newest after callers th)) stacks.threads t
          newest.thread newest.there changed
          ∙ replaced_twice (with_newest after callers) (marked_as mark) (map named stacks.threads) t
          ∙ ap (λ (l : List model.Thread). replace_at (marked_as mark) (replace_at (with_newest after callers) l t) t)
          (sym (map_both (thread_by ids.id) (thread_in world) stacks.threads) ∙ are.same);
      each = each_replaced (IsThread world marks ids) (goes_to pc words mark) stacks.threads t newest.thread newest.there thread_is are.each;
    }
  where
    named : Thread → model.Thread
    named thread = thread_by ids.id (thread_in world thread)

    after : model.Frame
    after = record (frame_in world ids frame) { pc = pc; stack = values_by ids.id (values_of (reverse words)) }

    callers : List model.Frame
    callers = frames_in world ids older

    changed : named (goes_to pc words mark newest.thread) ≡ marked_as mark (with_newest after callers (named newest.thread))
    changed = ap (λ (frames : List FrameState). named (record newest.thread { frames = change_newest (with_rest pc words) frames; mark = mark })) newest.frames

    thread_is : IsThread world marks ids (goes_to pc words mark newest.thread)
    thread_is =
        let one = are.each t newest.thread newest.there in
        record {
          frames = subst (λ (frames : List FrameState). AreFrames world marks ids (change_newest (with_rest pc words) frames)) (sym newest.frames)
              (frames_go world marks ids pc words frame older room live (subst (AreFrames world marks ids) newest.frames one.frames));
          to_start = one.to_start;
          thrown = one.thrown;
        }
