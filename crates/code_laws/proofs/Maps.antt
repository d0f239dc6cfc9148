-- Stack maps are read as they are spelled.
use Rattle.std.proofs.Common.{◌≡◌, ℕ, zero, suc, ◌+◌, cond, eqb, List, [], ◌∷◌, ◌++◌, length, Option, Some, None, Ok, Err, refl, sym, ap, subst, ◌∙◌, arith, IsTrue, inl, inr}
use Rattle.std.specs.Prelude.{option_and_then, ok_or}
use Rattle.std.specs.List.{AllByRecursion, list_all}
use Rattle.std.proofs.lemmas.Bool.{and_parts, and_from, cases_Bool, eqb-true}
use Rattle.jv_model.specs.Refusal.{Cause, wrong_map_frame}
use Rattle.jv_model.specs.Input.{Input, number_at}
use Rattle.jv_model.specs.ClassBytes.{u2}
use Rattle.jv_model.specs.Profile.{IsU1, IsU2}
use Rattle.jv_model.specs.Code.{MapType, MapFrame}
use Rattle.code_model.specs.StackMapEntries.{Entry, MapTable, Read, no_table, entry_at, entry_in_front, entries_at, table_at}
use Rattle.code_model.specs.StackMaps.{Bounds, Types, types_of, place_behind, fits, frame_at, frame_of}
use Rattle.code_model.specs.CodeReading.{frames_from, frames_of}
use Rattle.code_model.specs.SpellsFrames.{SpellsFrames, SpellsMap}
use Rattle.class_laws.proofs.Numbers.{IsBytes, IsBytes-from_all, bind_ok, ok_is, number_takes, number_again}
use Rattle.code_laws.proofs.Options.{option_bind, passes}
use Rattle.code_laws.proofs.MapEntries.{entry_reads}
use Rattle.code_laws.proofs.MapFrames.{entry_spelled}
use Rattle.code_laws.proofs.FrameEntries.{spelled_entry}
use Rattle.code_laws.proofs.Instructions.{no_bytes}

-- there is one, where its lack would be a fault
there_is :
    {A : Type 0} (o : Option A) (cause : Cause) (x : A) → ok_or o cause ≡ Ok x → o ≡ Some x
there_is None cause x e = absurd cc
there_is (Some y) cause x e = cc

-- ---- a frame of an entry

-- what an entry gave
record Given
    (b : Bounds) (place : Option ℕ) (before : List (MapType ℕ)) (entry : Entry)
    (frame : MapFrame ℕ) : Type 0 where
  pc : frame.pc ≡ place_behind place entry.offset_delta
  gives : types_of b.pool before entry.form ≡ Some (frame.locals, frame.stack)
  fit : IsTrue (fits b frame)

-- a frame that fits
abbrev fitting : Bounds → MapFrame ℕ → Option (MapFrame ℕ)
fitting b frame = cond (fits b frame) (Some frame) None

-- a frame that an entry gives stands at its place, has its types, and fits
given :
    (b : Bounds) (place : Option ℕ) (before : List (MapType ℕ)) (entry : Entry)
    (frame : MapFrame ℕ) → frame_of b place before entry ≡ Some frame
    → Given b place before entry frame
unfolding frame_of
given b place before entry frame e =
    let at : ℕ = place_behind place entry.offset_delta in
    let types =
    option_bind (types_of b.pool before entry.form) (λ types. fitting b (frame_at at types))
    frame e in
    let its = passes (fits b (frame_at at types.0)) (frame_at at types.0) frame types.2 in
    subst (λ (f : MapFrame ℕ). Given b place before entry f) its.1
    (record { pc = refl; gives = types.1; fit = its.0 })

-- a frame at an entry's place, with its types, that fits, is given
frame_found :
    (b : Bounds) (place : Option ℕ) (before : List (MapType ℕ)) (entry : Entry)
    (frame : MapFrame ℕ) → Given b place before entry frame
    → frame_of b place before entry ≡ Some frame
unfolding frame_of
frame_found b place before entry frame given =
    let at : ℕ = place_behind place entry.offset_delta in
    let its : MapFrame ℕ = frame_at at (frame.locals, frame.stack) in
    let same : its ≡ frame =
    ap (λ (n : ℕ). frame_at n (frame.locals, frame.stack)) (sym given.pc) in
    let fit : IsTrue (fits b its) =
    subst (λ (f : MapFrame ℕ). IsTrue (fits b f)) (sym same) given.fit in
    let kept : fitting b its ≡ Some its = rw fit refl in
    ap (λ (o : Option Types). option_and_then (λ types. fitting b (frame_at at types)) o)
    given.gives
    ∙ kept ∙ ap (λ (f : MapFrame ℕ). Some f) same

-- ---- what is read is spelled

-- frames from so many entries
record Framed
    (b : Bounds) (count : ℕ) (place : Option ℕ) (before : List (MapType ℕ)) (bytes : List ℕ)
    (frames : List (MapFrame ℕ)) : Type 0 where
  spelled : SpellsFrames b.pool place before bytes frames
  fit : IsTrue (list_all (fits b) frames)
  as_many : length frames ≡ count

-- the frames of a table's entries, from that index on, are these
abbrev HasFrames :
    Bounds → ℕ → ℕ → Option ℕ → List (MapType ℕ) → MapTable → List (MapFrame ℕ) → Type 0
HasFrames b method index place before table frames =
    frames_from b method index place before table.end table.entries ≡ Ok frames

abbrev no_more : Cause → MapTable
no_more refusal = record { entries = []; end = Some refusal }

abbrev with_entry : Entry → MapTable → MapTable
with_entry entry table = record { entries = entry ∷ table.entries; end = table.end }

-- frames that are read of so many entries are spelled, and fit
framed :
    (b : Bounds) (method count index place_index : ℕ) (input : Input) (table : MapTable)
    (frames : List (MapFrame ℕ)) (place : Option ℕ) (before : List (MapType ℕ))
    → entries_at method index count input ≡ Ok table → IsBytes input.bytes
    → HasFrames b method place_index place before table frames
    → Framed b count place before input.bytes frames
unfolding entries_at frames_from
framed b method zero index place_index input table frames place before e are_bytes f =
    elim (cases_Bool (eqb (length input.bytes) 0)) [
      | inl is ↦
          let empty : no_table ≡ table = ok_is _ _ (rw is at e) in
          let none : [] ≡ frames =
          ok_is _ _ (subst (λ t. HasFrames b method place_index place before t frames)
          (sym empty) f) in
          subst (λ (fs : List (MapFrame ℕ)). Framed b 0 place before input.bytes fs) none
          (record { spelled = no_bytes input.bytes (eqb-true _ 0 is); fit = refl; as_many = refl })
      | inr not ↦ absurd (failed (rw not at e))
    ]
  where
    failed : {cause : Cause} → Err cause ≡ Ok table → ⊥
    failed e = cc
framed b method (suc count) index place_index input table frames place before e are_bytes f =
    in_front (λ i t fs p l. framed b method count (index + 1) (place_index + 1) i t fs p l)
    (entry_at (wrong_map_frame method index) input) refl e
  where
    -- an entry in front of others, of which it holds
    in_front :
        ((i : Input) (t : MapTable) (fs : List (MapFrame ℕ)) (p : Option ℕ) (l : List (MapType ℕ))
        → entries_at method (index + 1) count i ≡ Ok t → IsBytes i.bytes
        → HasFrames b method (place_index + 1) p l t fs → Framed b count p l i.bytes fs)
        → (read : Read) → entry_at (wrong_map_frame method index) input ≡ read
        → entry_in_front read (entries_at method (index + 1) count) ≡ Ok table
        → Framed b (suc count) place before input.bytes frames
    in_front ih (Err (wrong_map_frame m i)) is e =
        let ends : no_more (wrong_map_frame m i) ≡ table = ok_is _ _ e in
        let no : Err (wrong_map_frame m i) ≡ Ok frames =
        subst (λ t. HasFrames b method place_index place before t frames) (sym ends) f in
        absurd cc
    in_front ih (Err cause) is e = absurd cc
    in_front ih (Ok (entry, rest)) is e =
        let others = bind_ok (entries_at method (index + 1) count rest) _ table e in
        let made : with_entry entry others.0 ≡ table = ok_is _ _ others.2 in
        let its = subst (λ t. HasFrames b method place_index place before t frames) (sym made) f in
        let read = ok_or (frame_of b place before entry) (wrong_map_frame method place_index) in
        let frame = bind_ok read _ frames its in
        let one = frame.0 in
        let more =
        bind_ok (frames_from b method (place_index + 1)
        (Some one.pc) one.locals others.0.end others.0.entries)
        _ frames frame.2 in
        let gave = given b place before entry one (there_is _ _ one frame.1) in
        let unknown = wrong_map_frame method index in
        let taken = (entry_reads unknown).takes input (entry, rest) is are_bytes in
        let spelled =
        entry_spelled b.pool before one input.at taken.text entry gave.gives taken.spelled in
        let behind =
        ih rest others.0 more.0 (Some one.pc) one.locals others.1 taken.takes.rest_fits more.1 in
        subst (λ (fs : List (MapFrame ℕ)). Framed b (suc count) place before input.bytes fs)
        (ok_is (one ∷ more.0) frames more.2)
        (record {
          spelled = (
            entry.offset_delta,
            taken.text,
            rest.bytes,
            taken.takes.parts,
            spelled.0,
            gave.pc,
            spelled.1,
            behind.spelled,
          );
          fit = and_from _ _ gave.fit behind.fit;
          as_many = ap suc behind.as_many;
        })

-- ---- what is spelled is read

-- a table that is read of the bytes of frames, wherever they stand, and has the frames
record Found
    (b : Bounds) (method : ℕ) (place : Option ℕ) (before : List (MapType ℕ)) (bytes : List ℕ)
    (frames : List (MapFrame ℕ)) : Type 0 where
  table : MapTable
  read :
      (at index : ℕ)
      → entries_at method index (length frames) (record { at = at; bytes = bytes }) ≡ Ok table
  framed : (index : ℕ) → HasFrames b method index place before table frames

-- frames that are spelled and fit are read
frames_are_found :
    (b : Bounds) (method : ℕ) (place : Option ℕ) (before : List (MapType ℕ)) (bytes : List ℕ)
    (frames : List (MapFrame ℕ)) → SpellsFrames b.pool place before bytes frames
    → IsTrue (list_all (fits b) frames) → Found b method place before bytes frames
unfolding entries_at frames_from
frames_are_found b method place before bytes [] spelled fit = record {
  table = no_table;
  read = λ at index. rw spelled refl;
  framed = λ index. refl;
}
frames_are_found b method place before bytes (frame ∷ frames)
    (delta, own, rest, parts, small, pc, its, others) fit =
    let both = and_parts (fits b frame) (list_all (fits b) frames) fit in
    let behind = frames_are_found b method (Some frame.pc) frame.locals rest frames others both.1 in
    let entered = spelled_entry b.pool before delta own frame small its in
    let place_is : frame.pc ≡ place_behind place entered.entry.offset_delta =
    pc ∙ ap (λ (n : ℕ). place_behind place n) (sym entered.delta_is) in
    let one =
    frame_found b place before entered.entry frame
    (record { pc = place_is; gives = entered.gives; fit = both.0 }) in
    record {
      table = with_entry entered.entry behind.table;
      read = λ at index.
          let reads = entry_reads (wrong_map_frame method index) in
          let first = reads.finds at own entered.entry (entered.read at) rest in
          let more = behind.read (at + length own) (index + 1) in
          rw (parts, first, more) refl;
      framed = λ index. let more = behind.framed (index + 1) in rw (one, more) refl;
    }

-- ---- the law

-- Stack maps are read as they are spelled.
pub record MapsAreRead : Type 0 where
  pub takes :
      (bounds : Bounds) (method at : ℕ) (first : List (MapType ℕ)) (bytes : List ℕ)
      (table : MapTable)
      (frames : List (MapFrame ℕ)) → table_at method (record { at = at; bytes = bytes }) ≡ Ok table
      → AllByRecursion IsU1 bytes → frames_of bounds method first table ≡ Ok frames
      → SpellsMap bounds.pool first bytes frames × IsTrue (list_all (fits bounds) frames)
  pub finds :
      (bounds : Bounds) (method : ℕ) (first : List (MapType ℕ)) (bytes : List ℕ)
      (frames : List (MapFrame ℕ))
      → SpellsMap bounds.pool first bytes frames → IsTrue (list_all (fits bounds) frames)
      → (table : MapTable)
      × ((at : ℕ) → table_at method (record { at = at; bytes = bytes }) ≡ Ok table)
      × (frames_of bounds method first table ≡ Ok frames)

-- a stack map is read as it's spelled
pub maps_are_read : MapsAreRead
maps_are_read = record {
  takes = λ b method at first bytes table frames e are_bytes f.
      let input : Input = record { at = at; bytes = bytes } in
      let count =
      bind_ok (number_at 2 input) (λ count. entries_at method 0 count.0 count.1) table e in
      let rest = count.0.1 in
      let front = number_takes 2 input count.0 count.1 (IsBytes-from_all bytes are_bytes) in
      let its =
      framed b method count.0.0 0 0 rest table frames None first count.2 front.0.rest_fits f in
      let few : IsU2 (length frames) = omega (arith, its.as_many, front.1) in
      let parts : bytes ≡ u2 (length frames) ++ rest.bytes =
      subst (λ (n : ℕ). bytes ≡ u2 n ++ rest.bytes) (sym its.as_many) front.0.parts in
      ((rest.bytes, few, parts, its.spelled), its.fit);
  finds = λ b method first bytes frames (run, few, parts, spelled) fit.
      let found = frames_are_found b method None first run frames spelled fit in
      let read : (at : ℕ) → table_at method (record { at = at; bytes = bytes }) ≡ Ok found.table =
      λ at.
      let count = number_again 2 (length frames) few at run in
      let more = found.read (at + 2) 0 in
      rw (parts, count, more) refl in
      (found.table, read, found.framed 0);
}
