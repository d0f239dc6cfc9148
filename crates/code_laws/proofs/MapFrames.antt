-- An entry of a stack map that gives a frame was read of that frame's bytes.
use Rattle.std.proofs.Common.{◌≡◌, ℕ, ◌+◌, ◌-◌, ◌<◌, ◌≤◌, Bool, true, false, eqb, leb, List, [], ◌∷◌, ◌++◌, length, take, drop, Some, refl, sym, ap, subst, ◌∙◌, append_assoc, arith, IsTrue, inl, inr}
use Rattle.std.specs.Prelude.{option_and_then}
use Rattle.std.specs.List.{flat_map}
use Rattle.std.proofs.lemmas.Bool.{eqb-true, eqb-false, leb-true, leb-false, cases_Bool}
use Rattle.std.proofs.lemmas.List.{take-append-drop, length-drop}
use Rattle.jv_model.specs.ClassData.{Const}
use Rattle.jv_model.specs.ClassBytes.{u1, u2, table}
use Rattle.jv_model.specs.Profile.{IsU2}
use Rattle.jv_model.specs.Code.{MapType, MapFrame}
use Rattle.code_model.specs.StackMapEntries.{EntryType, Entry, FrameForm, same, same_with_item, chop, append, full, entry_of}
use Rattle.code_model.specs.StackMaps.{known_type, known_types, Types, types_of}
use Rattle.code_model.specs.SpellsFrames.{type_bytes, SpellsFrame, same_frame, same_locals_1_stack_item_frame, same_locals_1_stack_item_frame_extended, chop_frame, same_frame_extended, append_frame, full_frame}
use Rattle.class_laws.proofs.Readers.{Spelling}
use Rattle.code_laws.proofs.MapTypes.{If, type_spelled, types_spelled}
use Rattle.code_laws.proofs.Options.{some_is, none_is, option_bind}
use Rattle.code_laws.proofs.MapEntries.{with_item, with_more, with_all, Full, Extended, EntryRead}

-- what follows of one of two readings, as its test says
by_test :
    {P : Type 0} (test : Bool) (First Second : Spelling Entry) (at : ℕ) (text : List ℕ)
    (entry : Entry)
    → (IsTrue test → First at text entry → P) → (test ≡ false → Second at text entry → P)
    → If test First Second at text entry → P
by_test true First Second at text entry here others spelled = here refl spelled
by_test false First Second at text entry here others spelled = others refl spelled

module _ (pool : List Const) (before : List (MapType ℕ)) (frame : MapFrame ℕ) where
  -- the frame has these types
  abbrev Gives : FrameForm → Type 0
  Gives form = types_of pool before form ≡ Some (frame.locals, frame.stack)

  abbrev Frame : List ℕ → Entry → Type 0
  Frame text entry = IsU2 entry.offset_delta × SpellsFrame pool before entry.offset_delta text frame

  -- the locals before, and no stack
  same_gives : Gives same → (frame.locals ≡ before) × (frame.stack ≡ [])
  unfolding types_of
  same_gives e =
      let is = some_is (before, []) (frame.locals, frame.stack) e in
      (sym (ap (λ (t : Types). t.0) is), sym (ap (λ (t : Types). t.1) is))

  -- the locals before, and a known item
  item_gives :
      (item : EntryType) → Gives (same_with_item item)
      → (type : MapType ℕ) × (known_type pool item ≡ Some type) × (frame.locals ≡ before)
      × (frame.stack ≡ type ∷ [])
  unfolding types_of
  item_gives item e =
      let type =
      option_bind (known_type pool item) (λ type. Some (before, type ∷ []))
      (frame.locals, frame.stack) e in
      let is = some_is (before, type.0 ∷ []) (frame.locals, frame.stack) type.2 in
      (type.0, type.1, sym (ap (λ (t : Types). t.0) is), sym (ap (λ (t : Types). t.1) is))

  -- more locals, all known
  more_gives :
      (types : List EntryType) → Gives (append types)
      → (more : List (MapType ℕ)) × (known_types pool types ≡ Some more)
      × (frame.locals ≡ before ++ more) × (frame.stack ≡ [])
  unfolding types_of
  more_gives types e =
      let more =
      option_bind (known_types pool types) (λ more. Some (before ++ more, []))
      (frame.locals, frame.stack) e in
      let is = some_is (before ++ more.0, []) (frame.locals, frame.stack) more.2 in
      (more.0, more.1, sym (ap (λ (t : Types). t.0) is), sym (ap (λ (t : Types). t.1) is))

  -- all locals and all of the stack, known
  all_gives :
      (locals stack : List EntryType) → Gives (full locals stack)
      → (known_types pool locals ≡ Some frame.locals) × (known_types pool stack ≡ Some frame.stack)
  unfolding types_of
  all_gives locals stack e =
      let its =
      option_bind (known_types pool locals)
      (λ ls. option_and_then (λ ss. Some (ls, ss)) (known_types pool stack))
      (frame.locals, frame.stack) e in
      let others =
      option_bind (known_types pool stack) (λ ss. Some (its.0, ss))
      (frame.locals, frame.stack) its.2 in
      let is = some_is (its.0, others.0) (frame.locals, frame.stack) others.2 in
      (its.1 ∙ ap (λ (t : Types). Some t.0) is, others.1 ∙ ap (λ (t : Types). Some t.1) is)

  -- fewer locals
  chop_gives :
      (count : ℕ) → Gives (chop count)
      → (gone : List (MapType ℕ)) × (length gone ≡ count) × (before ≡ frame.locals ++ gone)
      × (frame.stack ≡ [])
  unfolding types_of
  chop_gives count e =
      elim (cases_Bool (leb count (length before))) [
        | inl is ↦
            let enough : count ≤ length before = leb-true count (length before) is in
            let same =
            some_is (take (length before - count) before, []) (frame.locals, frame.stack)
            (rw is at e) in
            let locals : take (length before - count) before ≡ frame.locals =
            ap (λ (t : Types). t.0) same in (
              drop (length before - count) before,
              omega (arith, enough, length-drop (length before - count) before),
              sym (take-append-drop (length before - count) before)
                  ∙ ap (λ (front : List (MapType ℕ)). front ++ drop (length before - count) before)
                  locals,
              sym (ap (λ (t : Types). t.1) same),
            )
        | inr not ↦ none_is (frame.locals, frame.stack) (rw not at e)
      ]

  -- what was read is this entry, which gives the frame
  on_entry :
      (text : List ℕ) (entry its : Entry) → entry ≡ its → Gives entry.form
      → (Gives its.form → Frame text its) → Frame text entry
  on_entry text entry its is gives go =
      subst (λ (x : Entry). Frame text x) (sym is)
      (go (subst (λ (x : Entry). Gives x.form) is gives))

  -- a full frame is spelled
  full_spelled :
      (at delta : ℕ) (text rest : List ℕ) (entry : Entry) → IsU2 delta
      → text ≡ u1 255 ++ (u2 delta ++ rest) → Gives entry.form → Full delta at rest entry
      → Frame text entry
  full_spelled at delta text rest entry small bytes_are gives spelled =
      let locals = spelled.others in
      let stack_count = locals.others in
      let stack = stack_count.others in
      on_entry text entry (with_all delta locals.first stack.0) stack.2 gives (λ g.
      let known = all_gives locals.first stack.0 g in
      let ls =
      types_spelled pool spelled.first _ locals.front locals.first frame.locals known.0
      locals.spelled in
      let ss =
      types_spelled pool stack_count.first _ stack_count.rest stack.0 frame.stack known.1
      stack.1 in
      let local_count : IsU2 (length frame.locals) = rw ls.as_many spelled.spelled.right in
      let stack_size : IsU2 (length frame.stack) = rw ss.as_many stack_count.spelled.right in
      let tables : rest ≡ table type_bytes frame.locals ++ table type_bytes frame.stack =
      tables_joined rest _ _ _ _ _ _ spelled.first stack_count.first frame.locals frame.stack
      spelled.parts locals.parts stack_count.parts spelled.spelled.text_is ls.text_is
      stack_count.spelled.text_is ss.text_is ls.as_many ss.as_many in (
        small,
        full_frame (local_count, ls.right) (stack_size, ss.right)
            (bytes_are ∙ ap (λ (r : List ℕ). u1 255 ++ (u2 delta ++ r)) tables),
      ))
    where
      -- locals behind their count, and the stack behind its
      tables_joined :
          (rest a a' b b' c c' : List ℕ) (m n : ℕ) (locals stack : List (MapType ℕ))
          → rest ≡ a ++ a' → a' ≡ b ++ b' → b' ≡ c ++ c' → a ≡ u2 m → b ≡ flat_map type_bytes locals
          → c ≡ u2 n → c' ≡ flat_map type_bytes stack → length locals ≡ m → length stack ≡ n
          → rest ≡ table type_bytes locals ++ table type_bytes stack
      tables_joined rest a a' b b' c c' m n locals stack p q r s t u v w x =
          rw (p, q, r, s, t, u, v, ← w, ← x)
          (sym (append_assoc (u2 (length locals)) (flat_map type_bytes locals)
          (table type_bytes stack)))

  -- an entry with its offset_delta behind its type is spelled
  extended_spelled :
      (at type delta : ℕ) (text rest : List ℕ) (entry : Entry) → IsU2 delta → type < 256
      → 246 < type → text ≡ u1 type ++ (u2 delta ++ rest) → Gives entry.form
      → Extended type delta at rest entry → Frame text entry
  extended_spelled at type delta text rest entry small byte above bytes_are gives =
      by_test (eqb type 247) _ _ at rest entry
      (λ is made. on_entry text entry (with_item delta made.0) made.2 gives (λ g.
      let item = item_gives made.0 g in
      let its = type_spelled pool at rest made.0 item.0 item.1 made.1 in
      let e : type ≡ 247 = eqb-true type 247 is in (
        small,
        same_locals_1_stack_item_frame_extended item.0 its.1 item.2 item.3
            (rw (bytes_are, e, its.0) refl),
      )))
      (λ not_item. by_test (leb type 250) _ _ at rest entry
      (λ is nothing. on_entry text entry (entry_of delta (chop (251 - type))) nothing.1 gives (λ g.
      let gone = chop_gives (251 - type) g in
      let under : type ≤ 250 = leb-true type 250 is in
      let count : 251 - length gone.0 ≡ type = omega (arith, gone.1, under) in
      let other : type ≡ 247 → ⊥ = eqb-false type 247 not_item in (
        small,
        chop_frame gone.0 (omega (arith, gone.1, under))
            (omega (arith, gone.1, above, other)) gone.2 gone.3
            (rw (bytes_are, nothing.0, count) refl),
      )))
      (λ not_chop. by_test (eqb type 251) _ _ at rest entry
      (λ is nothing. on_entry text entry (entry_of delta same) nothing.1 gives (λ g.
      let its = same_gives g in
      let e : type ≡ 251 = eqb-true type 251 is in
      (small, same_frame_extended its.0 its.1 (rw (bytes_are, e, nothing.0) refl))))
      (λ not_same. by_test (leb type 254) _ _ at rest entry
      (λ is made. on_entry text entry (with_more delta made.0) made.2 gives (λ g.
      let more = more_gives made.0 g in
      let its = types_spelled pool (type - 251) at rest made.0 more.0 more.1 made.1 in
      let under : type ≤ 254 = leb-true type 254 is in
      let over : 250 < type = leb-false type 250 not_chop in
      let other : type ≡ 251 → ⊥ = eqb-false type 251 not_same in
      let count : 251 + length more.0 ≡ type = omega (arith, its.as_many, over) in
      let few : IsU2 (length more.0) = omega (arith, its.as_many, under) in (
        small,
        append_frame more.0 (omega (arith, its.as_many, over, other))
            (omega (arith, its.as_many, under)) (few, its.right) more.2 more.3
            (rw (bytes_are, count, its.text_is) refl),
      )))
      (λ not_more spelled.
      let over : 254 < type = leb-false type 254 not_more in
      let e : type ≡ 255 = omega (arith, over, byte) in
      full_spelled at delta text rest entry small (rw (bytes_are, e) refl) gives spelled))))

  -- an entry that gives the frame is the frame's
  pub entry_spelled :
      (at : ℕ) (text : List ℕ) (entry : Entry)
      → types_of pool before entry.form ≡ Some (frame.locals, frame.stack) → EntryRead at text entry
      → IsU2 entry.offset_delta × SpellsFrame pool before entry.offset_delta text frame
  entry_spelled at text entry gives read =
      let type : ℕ = read.first in
      let rest : List ℕ = read.rest in
      let bytes_are : text ≡ u1 type ++ rest = rw (read.parts, read.spelled.text_is) refl in
      by_test (leb type 63) _ _ (at + length read.front) rest entry
      (λ is nothing. on_entry text entry (entry_of type same) nothing.1 gives (λ g.
      let its = same_gives g in
      let under : type ≤ 63 = leb-true type 63 is in (
        omega (arith, under),
        same_frame (omega (arith, under)) its.0 its.1
            (bytes_are ∙ ap (λ (r : List ℕ). u1 type ++ r) nothing.0),
      )))
      (λ not_same. by_test (leb type 127) _ _ (at + length read.front) rest entry
      (λ is made. on_entry text entry (with_item (type - 64) made.0) made.2 gives (λ g.
      let item = item_gives made.0 g in
      let its = type_spelled pool (at + length read.front) rest made.0 item.0 item.1 made.1 in
      let under : type ≤ 127 = leb-true type 127 is in
      let over : 63 < type = leb-false type 63 not_same in
      let e : 64 + (type - 64) ≡ type = omega (arith, over) in (
        omega (arith, under),
        same_locals_1_stack_item_frame item.0 its.1
            (omega (arith, under, over)) item.2 item.3 (rw (bytes_are, e, its.0) refl),
      )))
      (λ not_item. by_test (leb type 246) _ _ (at + length read.front) rest entry
      (λ is never. absurd never)
      (λ not_reserved delta.
      let over : 246 < type = leb-false type 246 not_reserved in
      extended_spelled _ type delta.first text delta.rest entry delta.spelled.right
      read.spelled.right over (rw (bytes_are, delta.parts, delta.spelled.text_is) refl) gives
      delta.others)))
      read.others
