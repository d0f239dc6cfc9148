-- The bytes of a frame are those of an entry that gives it.
use Rattle.std.proofs.Common.{◌≡◌, ℕ, ◌+◌, ◌-◌, ◌<◌, ◌≤◌, Bool, true, false, eqb, leb, List, [], ◌∷◌, ◌++◌, length, map, take, Option, Some, refl, sym, ap, subst, ◌∙◌, append-nil, append_assoc, length-append, arith}
use Rattle.std.specs.List.{flat_map}
use Rattle.std.proofs.lemmas.Bool.{le-leb, lt-leb, ne_eqb}
use Rattle.std.proofs.lemmas.List.{take_at}
use Rattle.jv_model.specs.ClassData.{Const}
use Rattle.jv_model.specs.ClassBytes.{u1, u2, table}
use Rattle.jv_model.specs.Profile.{IsU2}
use Rattle.jv_model.specs.Code.{MapType, MapFrame}
use Rattle.code_model.specs.StackMapEntries.{EntryType, Entry, same, chop, entry_of}
use Rattle.code_model.specs.StackMaps.{Types, types_of}
use Rattle.code_model.specs.SpellsFrames.{IsEntryType, type_bytes, AreEntryTypes, SpellsFrame, same_frame, same_locals_1_stack_item_frame, same_locals_1_stack_item_frame_extended, chop_frame, same_frame_extended, append_frame, full_frame}
use Rattle.class_laws.proofs.Readers.{Spelling, Many, spelt_then, spelt_last}
use Rattle.code_laws.proofs.MapTypes.{If, TypeRead, spelled_type, spelled_types, right_known, all_right_known}
use Rattle.code_laws.proofs.MapEntries.{with_item, with_more, with_all, Extended, EntryRead}

-- the first of two readings, where the test holds
if_true :
    (test : Bool) (First Second : Spelling Entry) (at : ℕ) (text : List ℕ) (entry : Entry)
    → test ≡ true → First at text entry → If test First Second at text entry
if_true true First Second at text entry is spelled = spelled
if_true false First Second at text entry is spelled = absurd cc

-- the second, where it doesn't
if_false :
    (test : Bool) (First Second : Spelling Entry) (at : ℕ) (text : List ℕ) (entry : Entry)
    → test ≡ false → Second at text entry → If test First Second at text entry
if_false true First Second at text entry not spelled = absurd cc
if_false false First Second at text entry not spelled = spelled

-- an entry of a type above 246
extended_read :
    (at type delta : ℕ) (text rest : List ℕ) (entry : Entry) → IsU2 delta → 246 < type → type < 256
    → text ≡ u1 type ++ (u2 delta ++ rest) → Extended type delta (at + 1 + 2) rest entry
    → EntryRead at text entry
extended_read at type delta text rest entry small above byte bytes_are spelled =
    rw bytes_are (
    spelt_then type (u2 delta ++ rest) byte (
    if_false (leb type 63) _ _ _ _ _ (lt-leb type 63 (omega (arith, above))) (
    if_false (leb type 127) _ _ _ _ _ (lt-leb type 127 (omega (arith, above))) (
    if_false (leb type 246) _ _ _ _ _ (lt-leb type 246 above) (
    spelt_then delta rest small spelled)))))

-- an entry that is read of those bytes and gives the frame
pub record Entered
    (pool : List Const) (before : List (MapType ℕ)) (delta : ℕ) (text : List ℕ)
    (frame : MapFrame ℕ) : Type 0 where
  pub entry : Entry
  pub read : (at : ℕ) → EntryRead at text entry
  pub delta_is : entry.offset_delta ≡ delta
  pub gives : types_of pool before entry.form ≡ Some (frame.locals, frame.stack)

abbrev some_types : List (MapType ℕ) → List (MapType ℕ) → Option Types
some_types locals stack = Some (locals, stack)

-- the types of a frame
types_are :
    (locals stack : List (MapType ℕ)) (frame : MapFrame ℕ) → frame.locals ≡ locals
    → frame.stack ≡ stack → some_types locals stack ≡ Some (frame.locals, frame.stack)
types_are locals stack frame e f = rw (e, f) refl

-- types, each known
abbrev each_some : List (MapType ℕ) → List EntryType
each_some types = map (λ (t : MapType ℕ). Some t) types

module _ (pool : List Const) (before : List (MapType ℕ)) (delta : ℕ) (text : List ℕ)
    (frame : MapFrame ℕ) where
  abbrev Its : Type 0
  Its = Entered pool before delta text frame

  -- type 0 to 63
  same_entered : delta < 64 → frame.locals ≡ before → frame.stack ≡ [] → text ≡ u1 delta → Its
  unfolding types_of
  same_entered under locals stack bytes_are = record {
    entry = entry_of delta same;
    read = λ at.
        rw bytes_are (spelt_last delta (omega (arith, under))
        (if_true (leb delta 63) _ _ _ _ _ (le-leb delta 63 (omega (arith, under))) (refl, refl)));
    delta_is = refl;
    gives = types_are before [] frame locals stack;
  }

  -- type 64 to 127
  item_entered :
      (item : MapType ℕ) → IsEntryType pool item → delta < 64 → frame.locals ≡ before
      → frame.stack ≡ item ∷ [] → text ≡ u1 (64 + delta) ++ type_bytes item → Its
  unfolding types_of
  item_entered item right under locals stack bytes_are = record {
    entry = with_item delta (Some item);
    read = λ at.
        rw bytes_are (spelt_then (64 + delta) (type_bytes item) (omega (arith, under))
        (if_false (leb (64 + delta) 63) _ _ _ _ _ (lt-leb (64 + delta) 63 (omega arith))
        (if_true (leb (64 + delta) 127) _ _ _ _ _ (le-leb (64 + delta) 127 (omega (arith, under))) (
          Some item,
          spelled_type pool (at + 1) item right,
          ap (λ (n : ℕ). with_item n (Some item)) (back delta),
        ))));
    delta_is = refl;
    gives = rw (right_known pool item right) (types_are before (item ∷ []) frame locals stack);
  }
    where
      back : (n : ℕ) → n ≡ 64 + n - 64
      back n = omega arith

  -- type 247
  extended_item_entered :
      (item : MapType ℕ) → IsU2 delta → IsEntryType pool item → frame.locals ≡ before
      → frame.stack ≡ item ∷ [] → text ≡ u1 247 ++ (u2 delta ++ type_bytes item) → Its
  unfolding types_of
  extended_item_entered item small right locals stack bytes_are = record {
    entry = with_item delta (Some item);
    read = λ at.
        extended_read at 247 delta text (type_bytes item) _ small (omega arith)
        (omega arith) bytes_are
        (Some item, spelled_type pool (at + 1 + 2) item right, refl);
    delta_is = refl;
    gives = rw (right_known pool item right) (types_are before (item ∷ []) frame locals stack);
  }

  -- type 248 to 250
  chop_entered :
      (gone : List (MapType ℕ)) → IsU2 delta → 1 ≤ length gone → length gone ≤ 3
      → before ≡ frame.locals ++ gone → frame.stack ≡ [] → text ≡ u1 (251 - length gone) ++ u2 delta
      → Its
  unfolding types_of
  chop_entered gone small some few locals stack bytes_are =
      let lengths : length before ≡ length frame.locals + length gone =
      ap (λ (l : List (MapType ℕ)). length l) locals ∙ length-append frame.locals gone in
      let enough : leb (length gone) (length before) ≡ true = le-leb _ _ (omega (arith, lengths)) in
      let left : length before - length gone ≡ length frame.locals = omega (arith, lengths) in
      let front : take (length before - length gone) before ≡ frame.locals =
      rw (left, locals) (take_at frame.locals gone (length frame.locals) refl) in
      let back : 251 - (251 - length gone) ≡ length gone = omega (arith, few) in
      let padded : text ≡ u1 (251 - length gone) ++ (u2 delta ++ []) = rw append-nil bytes_are in
      record {
        entry = entry_of delta (chop (length gone));
        read = λ at.
            extended_read at (251 - length gone) delta text [] _ small (omega (arith, few))
            (omega arith)
            padded
            (if_false (eqb (251 - length gone) 247) _ _ _ _ _
            (ne_eqb _ 247 (λ e. omega (arith, e, few)))
            (if_true (leb (251 - length gone) 250) _ _ _ _ _ (le-leb _ 250 (omega (arith, some)))
            (refl, ap (λ (n : ℕ). entry_of delta (chop n)) (sym back))));
        delta_is = refl;
        gives = rw enough (types_are _ [] frame (sym front) stack);
      }

  -- type 251
  extended_same_entered :
      IsU2 delta → frame.locals ≡ before → frame.stack ≡ [] → text ≡ u1 251 ++ u2 delta → Its
  unfolding types_of
  extended_same_entered small locals stack bytes_are =
      let padded : text ≡ u1 251 ++ (u2 delta ++ []) = rw append-nil bytes_are in
      record {
        entry = entry_of delta same;
        read = λ at.
            extended_read at 251 delta text [] _ small (omega arith) (omega arith) padded
            (refl, refl);
        delta_is = refl;
        gives = types_are before [] frame locals stack;
      }

  -- type 252 to 254
  append_entered :
      (more : List (MapType ℕ)) → IsU2 delta → 1 ≤ length more → length more ≤ 3
      → AreEntryTypes pool more → frame.locals ≡ before ++ more → frame.stack ≡ []
      → text ≡ u1 (251 + length more) ++ (u2 delta ++ flat_map type_bytes more) → Its
  unfolding types_of
  append_entered more small some few right locals stack bytes_are =
      let count : ℕ = 251 + length more in
      let back : length more ≡ 251 + length more - 251 = omega arith in
      record {
        entry = with_more delta (each_some more);
        read = λ at.
            extended_read at count delta text (flat_map type_bytes more) _ small (omega arith)
            (omega (arith, few)) bytes_are
            (if_false (eqb count 247) _ _ _ _ _ (ne_eqb _ 247 (λ e. omega (arith, e)))
            (if_false (leb count 250) _ _ _ _ _ (lt-leb _ 250 (omega arith))
            (if_false (eqb count 251) _ _ _ _ _ (ne_eqb _ 251 (λ e. omega (arith, e, some)))
            (if_true (leb count 254) _ _ _ _ _ (le-leb _ 254 (omega (arith, few))) (
              each_some more,
              subst (λ (n : ℕ). Many TypeRead n (at + 1 + 2) (flat_map type_bytes more)
                  (each_some more))
                  back (spelled_types pool (at + 1 + 2) more right.1),
              refl,
            )))));
        delta_is = refl;
        gives =
            rw (all_right_known pool more right.1)
            (types_are (before ++ more) [] frame locals stack);
      }

  -- type 255
  full_entered :
      IsU2 delta → AreEntryTypes pool frame.locals → AreEntryTypes pool frame.stack
      → text
      ≡ u1 255 ++ (u2 delta ++ (table type_bytes frame.locals ++ table type_bytes frame.stack))
      → Its
  unfolding types_of
  full_entered small locals stack bytes_are =
      let local_bytes = flat_map type_bytes frame.locals in
      let stack_bytes = flat_map type_bytes frame.stack in
      let grouped =
      append_assoc (u2 (length frame.locals)) local_bytes (table type_bytes frame.stack) in
      record {
        entry = with_all delta (each_some frame.locals) (each_some frame.stack);
        read = λ at.
            extended_read at 255 delta text
            (table type_bytes frame.locals ++ table type_bytes frame.stack) _
            small (omega arith) (omega arith) bytes_are
            (rw grouped (spelt_then (length frame.locals) _ locals.0 (record {
              first = each_some frame.locals;
              front = local_bytes;
              rest = table type_bytes frame.stack;
              parts = refl;
              spelled = spelled_types pool _ frame.locals locals.1;
              others =
                  spelt_then (length frame.stack) stack_bytes stack.0
                  (each_some frame.stack, spelled_types pool _ frame.stack stack.1, refl);
            })));
        delta_is = refl;
        gives =
            rw (
              all_right_known pool frame.locals locals.1,
              all_right_known pool frame.stack
                  stack.1,
            ) refl;
      }

-- an entry of each form is read of the bytes of a frame, and gives the frame
pub spelled_entry :
    (pool : List Const) (before : List (MapType ℕ)) (delta : ℕ) (text : List ℕ) (frame : MapFrame ℕ)
    → IsU2 delta → SpellsFrame pool before delta text frame → Entered pool before delta text frame
spelled_entry pool before delta text frame small (same_frame under locals stack bytes_are) =
    same_entered pool before delta text frame under locals stack bytes_are
spelled_entry pool before delta text frame small
    (same_locals_1_stack_item_frame item right under locals stack bytes_are) =
    item_entered pool before delta text frame item right under locals stack bytes_are
spelled_entry pool before delta text frame small
    (same_locals_1_stack_item_frame_extended item right locals stack bytes_are) =
    extended_item_entered pool before delta text frame item small right locals stack bytes_are
spelled_entry pool before delta text frame small (chop_frame gone some few locals stack bytes_are) =
    chop_entered pool before delta text frame gone small some few locals stack bytes_are
spelled_entry pool before delta text frame small (same_frame_extended locals stack bytes_are) =
    extended_same_entered pool before delta text frame small locals stack bytes_are
spelled_entry pool before delta text frame small
    (append_frame more some few right locals stack bytes_are) =
    append_entered pool before delta text frame more small some few right locals stack bytes_are
spelled_entry pool before delta text frame small (full_frame locals stack bytes_are) =
    full_entered pool before delta text frame small locals stack bytes_are
