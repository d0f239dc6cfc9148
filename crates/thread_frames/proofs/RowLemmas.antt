-- A row of the frames of a thread: what is known of it, and what a change of it leaves.
use Rattle.std.proofs.Common.{◌≡◌, ℕ, suc, ◌+◌, ◌-◌, ◌<◌, ◌≤◌, List, [], ◌∷◌, length, take, drop, set, refl, sym, ap, ◌∙◌, subst, arith}
use Rattle.std.specs.Prelude.{Option, Some, None, IsSomeAnd, slice_get, reverse}
use Rattle.std.proofs.lemmas.List.{length-reverse, length-take, length-drop, length-set}
use Rattle.std.proofs.lemmas.Option.{slice_get_within}
use Rattle.jv_model.specs.Limits.{most_stack_words}
use Rattle.jv_values.specs.declared.value.Value.{Value}
use Rattle.thread_frames.specs.Splices.{spliced}
use Rattle.thread_frames.specs.declared.frames.Row.{Row}
use Rattle.thread_frames.specs.declared.frames.ThreadFrames.TheInside.{Inside}
use Rattle.thread_frames.specs.Frames.{FrameState, frame_at, change_at, newest, change_newest}
use Rattle.thread_frames.specs.Laid.{state_in, frames_in, frames_of, size_of, all_words, LaidFrom, AreLaid}
use Rattle.thread_frames.proofs.SpliceLemmas.{length-spliced, below, above}
use Rattle.thread_frames.proofs.LayLemmas.{stands_in, SamePlace, relaid}
use Rattle.thread_frames.proofs.FrameLemmas.{length-frames_in, newest_is, newest_changed, frame_there, changed_at}

-- A row, and where its words lie.
pub record Lies (it : Inside) (row : Row) : Type 0 where
  pub within : row.base + size_of row ≤ length it.words
  pub few : row.base + size_of row ≤ most_stack_words
  pub deep : row.depth ≤ row.max_stack
  pub locals : length (take row.locals (drop row.base it.words)) ≡ row.locals
  pub stack : length (take row.depth (drop (row.base + row.locals) it.words)) ≡ row.depth

pub lies : (it : Inside) (d : ℕ) (row : Row) → AreLaid it → slice_get it.rows.items d ≡ Some row → Lies it row
lies it d row are e =
    let stands = stands_in 0 it.rows.items d row are.laid e in
    record {
      within = omega (arith, stands.to, are.room, are.words);
      few = omega (arith, stands.to, are.room);
      deep = stands.deep;
      locals = omega (arith, stands.to, are.room, are.words, length-take row.locals (drop row.base it.words), length-drop row.base it.words);
      stack = omega (arith, stands.to, stands.deep, are.room, are.words, length-take row.depth (drop (row.base + row.locals) it.words), length-drop (row.base + row.locals) it.words);
    }

-- ---- the newest

-- the place of the last of some
pub last_place : (it : Inside) (now : List FrameState) → frames_of it ≡ now → 0 < length now → length it.rows.items ≡ suc (length it.rows.items - 1)
last_place it now view h = omega (arith, ap length view, length-frames_in it.words it.rows.items)

pub some_newest : (P : FrameState → Type 0) (frames : List FrameState) → IsSomeAnd (newest frames) P → 0 < length frames
some_newest P [] h = absurd h
some_newest P (frame ∷ older) h = omega arith

pub newest_holds : (P : FrameState → Type 0) (it : Inside) (now : List FrameState) (row : Row) → frames_of it ≡ now → slice_get it.rows.items (length it.rows.items - 1) ≡ Some row → IsSomeAnd (newest now) P → P (state_in it.words row)
newest_holds P it now row view e h =
    let is = newest_is it.words it.rows.items (length it.rows.items - 1) row (last_place it now view (some_newest P now h)) e in
    subst (λ (o : Option FrameState). IsSomeAnd o P) (sym (ap newest view) ∙ is) h

-- what holds of the newest frame of the row
pub holds_newest : (P : FrameState → Type 0) (it : Inside) (now : List FrameState) (row : Row) → frames_of it ≡ now → 0 < length now → slice_get it.rows.items (length it.rows.items - 1) ≡ Some row → P (state_in it.words row) → IsSomeAnd (newest now) P
holds_newest P it now row view some e h =
    let is = newest_is it.words it.rows.items (length it.rows.items - 1) row (last_place it now view some) e in
    subst (λ (o : Option FrameState). IsSomeAnd o P) (sym is ∙ ap newest view) h

-- ---- a frame by its depth

pub depth_holds : (P : FrameState → Type 0) (it : Inside) (now : List FrameState) (d : ℕ) (row : Row) → frames_of it ≡ now → slice_get it.rows.items d ≡ Some row → IsSomeAnd (frame_at now d) P → P (state_in it.words row)
depth_holds P it now d row view e h =
    subst (λ (o : Option FrameState). IsSomeAnd o P) (sym (ap (λ frames. frame_at frames d) view) ∙ frame_there it.words it.rows.items d row e) h

some_at : {A : Type 0} (P : A → Type 0) (found : Option A) → IsSomeAnd found P → (a : A) × (found ≡ Some a)
some_at P None h = absurd h
some_at P (Some a) h = (a, refl)

pub depth_within : (P : FrameState → Type 0) (it : Inside) (now : List FrameState) (d : ℕ) → frames_of it ≡ now → IsSomeAnd (frame_at now d) P → d < length it.rows.items
depth_within P it now d view h =
    let found = some_at P (frame_at now d) h in
    let within = slice_get_within (reverse now) d found.0 found.1 in
    omega (arith, within, length-reverse now, ap length view, length-frames_in it.words it.rows.items)

-- ---- what a change leaves

pub kept : (it changed : Inside) (d : ℕ) (row its : Row) → AreLaid it → slice_get it.rows.items d ≡ Some row → SamePlace row its
    → changed.rows.items ≡ set it.rows.items d its → changed.rows.spare ≡ it.rows.spare → length changed.words ≡ length it.words → AreLaid changed
kept it changed d row its are e same items spare words =
    let again = relaid 0 it.rows.items d row its are.laid e same in
    record {
      laid = subst (LaidFrom 0) (sym items) again.laid;
      words = words ∙ are.words;
      room = omega (arith, ap all_words items, again.words, are.room);
      few = omega (arith, ap length items, length-set it.rows.items d its, are.few);
      rows = omega (arith, ap length items, length-set it.rows.items d its, spare, are.rows);
    }

-- only the words of a row were written
pub record WrittenIn (row : Row) (words after : List Value) : Type 0 where
  pub below : take row.base after ≡ take row.base words
  pub above : drop (row.base + size_of row) after ≡ drop (row.base + size_of row) words
  pub long : length after ≡ length words

pub unwritten : (row : Row) (words : List Value) → WrittenIn row words words
unwritten row words = record { below = refl; above = refl; long = refl }

pub written : (row : Row) (words : List Value) (at : ℕ) (group : List Value) → row.base ≤ at → at + length group ≤ row.base + size_of row → row.base + size_of row ≤ length words → WrittenIn row words (spliced at group words)
written row words at group from to long = record {
  below = below at group words (omega arith) row.base from;
  above = above at group words (omega arith) (row.base + size_of row) to;
  long = length-spliced at group words (omega arith);
}

pub written_again : (row : Row) (words once twice : List Value) → WrittenIn row words once → WrittenIn row once twice → WrittenIn row words twice
written_again row words once twice first second = record {
  below = second.below ∙ first.below;
  above = second.above ∙ first.above;
  long = second.long ∙ first.long;
}

pub newest_renewed : (it changed : Inside) (now : List FrameState) (row its : Row) (change : FrameState → FrameState) → AreLaid it → frames_of it ≡ now → 0 < length now
    → slice_get it.rows.items (length it.rows.items - 1) ≡ Some row
    → changed.rows.items ≡ set it.rows.items (length it.rows.items - 1) its → WrittenIn row it.words changed.words
    → state_in changed.words its ≡ change (state_in it.words row)
    → frames_of changed ≡ change_newest change now
newest_renewed it changed now row its change are view some e items only is =
    ap (frames_in changed.words) items
    ∙ newest_changed it.rows.items (length it.rows.items - 1) row its changed.words it.words change are.laid (last_place it now view some) e only.below only.above is
    ∙ ap (change_newest change) view

pub depth_renewed : (it changed : Inside) (now : List FrameState) (d : ℕ) (row its : Row) (change : FrameState → FrameState) → AreLaid it → frames_of it ≡ now
    → slice_get it.rows.items d ≡ Some row
    → changed.rows.items ≡ set it.rows.items d its → WrittenIn row it.words changed.words
    → state_in changed.words its ≡ change (state_in it.words row)
    → frames_of changed ≡ change_at change now d
depth_renewed it changed now d row its change are view e items only is =
    ap (frames_in changed.words) items
    ∙ changed_at it.rows.items d row its changed.words it.words change are.laid e only.below only.above is
    ∙ ap (λ frames. change_at change frames d) view
