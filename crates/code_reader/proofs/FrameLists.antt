-- The types of an entry, and the frames of a stack map, one behind another.
use Rattle.std.proofs.Common.{◌≡◌, ℕ, ◌+◌, ◌≤◌, ◌==◌, Bool, true, false, if◌then◌else◌, List, [], ◌∷◌, ◌++◌, length, map, drop, option_map, Option, Some, None, Err, refl, sym, ap, append_assoc, ◌∙◌, arith}
use Rattle.std.specs.Prelude.{option_and_then, sum}
use Rattle.std.proofs.lemmas.Bool.{eqb-true}
use Rattle.std.specs.List.{slice_get}
use Rattle.std.proofs.lemmas.List.{append-nil}
use Rattle.std.proofs.Math.ListN.{drop_of_length-le}
use Rattle.jv_model.specs.Refusal.{Cause, wrong_map_frame}
use Rattle.jv_model.specs.ClassData.{Const}
use Rattle.jv_model.specs.Code.{MapType, map_top, map_int, map_long, map_null, map_this, map_object, map_argument, map_new, MapFrame}
use Rattle.jv_types.specs.Frames as shared
use Rattle.jv_types.specs.Frames.{locals_behind, last_locals, type_words}
use Rattle.jv_types.proofs.FrameRows.{locals_push}
use Rattle.code_model.specs.StackMapEntries.{EntryType, Entry}
use Rattle.code_model.specs.StackMaps.{Bounds, Types, known_type, known_types, types_of, words_of_map_type, words_of, place_behind, fits, frame_at, frame_of}
use Rattle.code_model.specs.CodeReading.{frames_end, frames_from}
use Rattle.code_reader.proofs.Starts.{drop_item}
use Rattle.code_reader.proofs.InstructionLists.{items_in_front, first_in_front}

-- ---- types

-- these types in front
abbrev pub types_in_front : List (MapType ℕ) → Option (List (MapType ℕ)) → Option (List (MapType ℕ))
types_in_front front read = option_map (λ others. front ++ others) read

known_twice : (front : List (MapType ℕ)) (type : MapType ℕ) (read : Option (List (MapType ℕ)))
    → types_in_front front (option_and_then (λ others. Some (type ∷ others)) read)
    ≡ types_in_front (front ++ type ∷ []) read
known_twice front type None = refl
known_twice front type (Some others) = ap Some (sym (append_assoc front (type ∷ []) others))

module _ (pool : List Const) (types : List EntryType) (i : ℕ) (front : List (MapType ℕ))
    (type : EntryType) (is : slice_get types i ≡ Some type) where
  pub known_more : (known : MapType ℕ) → Some known ≡ known_type pool type
      → types_in_front front (known_types pool (drop i types))
      ≡ types_in_front (front ++ known ∷ []) (known_types pool (drop (i + 1) types))
  unfolding known_types
  known_more known known_is =
      rw (drop_item types i type is, ← known_is)
      (known_twice front known (known_types pool (drop (i + 1) types)))

  pub unknown : None ≡ known_type pool type
      → types_in_front front (known_types pool (drop i types)) ≡ None
  unfolding known_types
  unknown none = rw (drop_item types i type is, ← none) refl

pub all_known : (pool : List Const) (types : List EntryType) (i : ℕ) (front : List (MapType ℕ))
    → length types ≤ i
    → types_in_front front (known_types pool (drop i types)) ≡ Some front
unfolding known_types
all_known pool types i front past =
    rw (drop_of_length-le types past) (ap Some (append-nil front))

-- ---- the frame of an entry

module _ (bounds : Bounds) (place : Option ℕ) (before : List (MapType ℕ)) (entry : Entry) where
  pub no_types : None ≡ types_of bounds.pool before entry.form → None ≡ frame_of bounds place before entry
  unfolding frame_of
  no_types none = rw (← none) refl

  pub if_fits : (types : Types) → Some types ≡ types_of bounds.pool before entry.form
      → (if fits bounds (frame_at (place_behind place entry.offset_delta) types)
      then Some (frame_at (place_behind place entry.offset_delta) types) else None)
      ≡ frame_of bounds place before entry
  unfolding frame_of
  if_fits types is = rw (← is) refl

  pub fitting : (types : Types) (pc : ℕ) (does : Bool) → Some types ≡ types_of bounds.pool before entry.form
      → pc ≡ place_behind place entry.offset_delta → does ≡ fits bounds (frame_at pc types)
      → (if does then Some (frame_at pc types) else None) ≡ frame_of bounds place before entry
  fitting types pc does is at does_is =
      ap (λ (b : Bool). if b then Some (frame_at pc types) else None) does_is
      ∙ ap (λ (p : ℕ). if fits bounds (frame_at p types) then Some (frame_at p types) else None) at
      ∙ if_fits types is

-- whether the last one fits
pub last_fits : (bounds : Bounds) (old new : List (MapFrame ℕ)) (types : Types) (pc : ℕ) (does : Bool)
    → does ≡ fits bounds (record { pc = pc; locals = last_locals new; stack = types.1 })
    → new ≡ old ++ frame_at pc types ∷ [] → does ≡ fits bounds (frame_at pc types)
last_fits bounds old new types pc does told pushed =
    told
    ∙ ap (λ (locals : List (MapType ℕ)). fits bounds (record { pc = pc; locals = locals; stack = types.1 }))
    (ap last_locals pushed ∙ locals_push [] old (frame_at pc types))

-- ---- the locals before a frame

pub behind_none : (first : List (MapType ℕ)) (frames : List (MapFrame ℕ)) → (length frames == 0) ≡ true
    → locals_behind first frames ≡ first
behind_none first [] is = refl
behind_none first (frame ∷ frames) is = absurd (omega (arith, eqb-true (length (frame ∷ frames)) 0 is))

pub behind_last : (first : List (MapType ℕ)) (frames : List (MapFrame ℕ)) → (length frames == 0) ≡ false
    → locals_behind first frames ≡ last_locals frames
behind_last first [] is = absurd cc
behind_last first (frame ∷ frames) is = refl

same_words_of : (type : MapType ℕ) → type_words type ≡ words_of_map_type type
same_words_of map_top = refl
same_words_of map_int = refl
same_words_of map_long = refl
same_words_of map_null = refl
same_words_of map_this = refl
same_words_of (map_object index) = refl
same_words_of (map_argument number) = refl
same_words_of (map_new pc) = refl

same_all : (types : List (MapType ℕ)) → map type_words types ≡ map words_of_map_type types
same_all [] = refl
same_all (type ∷ types) =
    (λ i. same_words_of type i ∷ map type_words types) ∙ ap (λ (ns : List ℕ). words_of_map_type type ∷ ns) (same_all types)

pub same_words : (types : List (MapType ℕ)) → shared.words_of types ≡ words_of types
same_words types = ap sum (same_all types)

-- ---- frames

module _ (bounds : Bounds) (method index : ℕ) (place : Option ℕ) (before : List (MapType ℕ))
    (end : Option Cause) (entries : List Entry) (i : ℕ) (front : List (MapFrame ℕ))
    (entry : Entry) (is : slice_get entries i ≡ Some entry) where
  frame_more : (frame : MapFrame ℕ) → Some frame ≡ frame_of bounds place before entry
      → items_in_front front (frames_from bounds method index place before end (drop i entries))
      ≡ items_in_front (front ++ frame ∷ [])
      (frames_from bounds method (index + 1) (Some frame.pc) frame.locals end (drop (i + 1) entries))
  unfolding frames_from
  frame_more frame frame_is =
      rw (drop_item entries i entry is, ← frame_is)
      (first_in_front front frame
      (frames_from bounds method (index + 1) (Some frame.pc) frame.locals end (drop (i + 1) entries)))

  -- the frame is added to those in front
  pub frame_added : (first : List (MapType ℕ)) (frame : MapFrame ℕ) (new : List (MapFrame ℕ)) (pc : ℕ)
      → Some frame ≡ frame_of bounds place before entry → new ≡ front ++ frame ∷ [] → frame.pc ≡ pc
      → items_in_front front (frames_from bounds method index place before end (drop i entries))
      ≡ items_in_front new
      (frames_from bounds method (index + 1) (Some pc) (locals_behind first new) end (drop (i + 1) entries))
  frame_added first frame new pc frame_is new_is pc_is =
      let locals : frame.locals ≡ locals_behind first new =
      sym (ap (locals_behind first) new_is ∙ locals_push first front frame) in
      let front_is : front ++ frame ∷ [] ≡ new = sym new_is in
      frame_more frame frame_is
      ∙ (λ j. items_in_front (front_is j)
      (frames_from bounds method (index + 1) (Some (pc_is j)) (locals j) end (drop (i + 1) entries)))

  pub no_frame : None ≡ frame_of bounds place before entry
      → items_in_front front (frames_from bounds method index place before end (drop i entries))
      ≡ Err (wrong_map_frame method index)
  unfolding frames_from
  no_frame none = rw (drop_item entries i entry is, ← none) refl

pub frames_past : (bounds : Bounds) (method index : ℕ) (place : Option ℕ)
    (before : List (MapType ℕ)) (end : Option Cause) (entries : List Entry) (i : ℕ)
    (front : List (MapFrame ℕ)) → length entries ≤ i
    → items_in_front front (frames_from bounds method index place before end (drop i entries))
    ≡ items_in_front front (frames_end end)
unfolding frames_from
frames_past bounds method index place before end entries i front past =
    rw (drop_of_length-le entries past) refl
