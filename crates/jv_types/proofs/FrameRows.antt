-- Frames over rows that they share.
use Rattle.std.proofs.Common.{◌≡◌, ℕ, suc, inl, inr, Bool, true, false, ◌||◌, List, [], ◌∷◌, ◌++◌, length, flat_map, take, drop, slice_get, Option, Some, None, refl, sym, ap, subst, ◌∙◌, arith}
use Rattle.std.specs.List.{list_any}
use Rattle.std.proofs.lemmas.List.{append-nil, take-append-drop, map_push}
use Rattle.std.proofs.lemmas.List.Folds.{list_any-append}
use Rattle.std.proofs.lemmas.Grind.{flat_map-append}
use Rattle.jv_model.specs.Code.{MapType, MapFrame}
use Rattle.jv_types.specs.declared.frames.TypeRow.{TypeRow}
use Rattle.jv_types.specs.declared.frames.FrameRow.{FrameRow}
use Rattle.jv_types.specs.declared.frames.SharedTypes.{SharedTypes}
use Rattle.jv_types.specs.Frames.{locals_behind, last_locals, words_of, frame_types, row_types, types_in, frame_in, frames_in, IsInside, AreFrames, Grows, AddTypes}
use Rattle.jv_types.proofs.Rows.{one_more, types_none, types_begin, rows_none, grows_more}

-- ---- the locals of the last frame

pub locals_push : (before : List (MapType ℕ)) (frames : List (MapFrame ℕ)) (frame : MapFrame ℕ)
    → locals_behind before (frames ++ frame ∷ []) ≡ frame.locals
locals_push before [] frame = refl
locals_push before (first ∷ frames) frame = locals_push first.locals frames frame

last_among_by : (last before first stack rest : Bool) → (last || (first || rest)) ≡ (first || rest)
    → (last || (before || ((first || stack) || rest))) ≡ (before || ((first || stack) || rest))
last_among_by false before first stack rest is = refl
last_among_by true true first stack rest is = refl
last_among_by true false true stack rest is = refl
last_among_by true false false true rest is = refl
last_among_by true false false false rest is = is

-- what some local of the last frame passes, some type of the frames passes
last_among : (test : MapType ℕ → Bool) (before : List (MapType ℕ)) (frames : List (MapFrame ℕ))
    → (list_any test (locals_behind before frames)
    || (list_any test before || list_any test (flat_map frame_types frames)))
    ≡ (list_any test before || list_any test (flat_map frame_types frames))
last_among test before [] = by (list_any test before)
  where
    by : (b : Bool) → (b || (b || false)) ≡ (b || false)
    by true = refl
    by false = refl
last_among test before (frame ∷ frames) =
    let rest = flat_map frame_types frames in
    let parts : list_any test (frame_types frame ++ rest)
    ≡ ((list_any test frame.locals || list_any test frame.stack) || list_any test rest) =
    list_any-append test (frame_types frame) rest
    ∙ ap (λ (b : Bool). b || list_any test rest) (list_any-append test frame.locals frame.stack) in
    rw parts (last_among_by (list_any test (locals_behind frame.locals frames)) (list_any test before)
    (list_any test frame.locals) (list_any test frame.stack) (list_any test rest)
    (last_among test frame.locals frames))

-- ---- one frame more

used_by : (kept dropped all more stack : Bool) → ((kept || dropped) || all) ≡ all
    → ((all || more) || stack) ≡ (all || ((kept || more) || stack))
used_by kept dropped true more stack is = refl
used_by false dropped false more stack is = refl
used_by true dropped false more stack is = absurd cc

-- no type is new but those that are added
used_more : (test : MapType ℕ → Bool) (frames : List (MapFrame ℕ)) (rows more stack : List (MapType ℕ)) (kept : ℕ)
    → list_any test rows ≡ list_any test (flat_map frame_types frames)
    → list_any test ((rows ++ more) ++ stack)
    ≡ list_any test (flat_map frame_types frames ++ ((take kept (last_locals frames) ++ more) ++ stack))
used_more test frames rows more stack kept is =
    let all = flat_map frame_types frames in
    let last = last_locals frames in
    let there : ((list_any test (take kept last) || list_any test (drop kept last)) || list_any test all) ≡ list_any test all =
    ap (λ (b : Bool). b || list_any test all) (sym (list_any-append test (take kept last) (drop kept last))
    ∙ ap (list_any test) (take-append-drop kept last))
    ∙ last_among test [] frames in
    list_any-append test (rows ++ more) stack
    ∙ ap (λ (b : Bool). b || list_any test stack) (list_any-append test rows more
    ∙ ap (λ (b : Bool). b || list_any test more) is)
    ∙ used_by (list_any test (take kept last)) (list_any test (drop kept last)) (list_any test all) (list_any test more)
    (list_any test stack) there
    ∙ sym (list_any-append test all ((take kept last ++ more) ++ stack)
    ∙ ap (λ (b : Bool). list_any test all || b) (list_any-append test (take kept last ++ more) stack
    ∙ ap (λ (b : Bool). b || list_any test stack) (list_any-append test (take kept last) more)))

-- the frames stay where rows are added
frames_keep : (old new : List TypeRow) (frames : List FrameRow) → Grows old new
    → ((n : ℕ) (frame : FrameRow) → slice_get frames n ≡ Some frame → IsInside old frame)
    → frames_in new frames ≡ frames_in old frames
frames_keep old new [] grows inside = refl
frames_keep old new (frame ∷ frames) grows inside =
    let here = inside 0 frame refl in
    let locals = grows.same frame.locals here.locals in
    let stack = grows.same frame.stack here.stack in
    let same : frame_in new frame ≡ frame_in old frame =
    λ i. record { pc = frame.pc; locals = locals i; stack = stack i } in
    ap (λ (f : MapFrame ℕ). f ∷ frames_in new frames) same
    ∙ ap (λ (fs : List (MapFrame ℕ)). frame_in old frame ∷ fs)
    (frames_keep old new frames grows (λ n other is. inside (suc n) other is))

inside_more : (old new : List TypeRow) (frame : FrameRow) → Grows old new → IsInside old frame → IsInside new frame
inside_more old new frame grows inside = record {
  locals = omega (arith, grows.longer, inside.locals);
  stack = omega (arith, grows.longer, inside.stack);
}

module _ (rows one two : List TypeRow) (frames : List FrameRow) (locals first added none stacked : SharedTypes)
    (pc kept : ℕ) (more stack : List (MapType ℕ)) (are : AreFrames rows frames locals)
    (first_is : types_in rows first.top ≡ take kept (types_in rows locals.top))
    (adds : AddTypes rows first more one added) (is_none : none.top ≡ None) (stacks : AddTypes one none stack two stacked) where
  abbrev pub row : FrameRow
  row = record { pc = pc; locals = added.top; stack = stacked.top }

  abbrev pub model : MapFrame ℕ
  model = record { pc = pc; locals = take kept (last_locals (frames_in rows frames)) ++ more; stack = stack }

  grows : Grows rows two
  grows = grows_more rows one two adds.grows stacks.grows

  locals_are : types_in two added.top ≡ take kept (last_locals (frames_in rows frames)) ++ more
  locals_are =
      stacks.grows.same added.top adds.ended.inside ∙ adds.added
      ∙ ap (λ (front : List (MapType ℕ)). front ++ more) (first_is ∙ ap (take kept) are.last)

  stack_is : types_in two stacked.top ≡ stack
  stack_is =
      stacks.added ∙ ap (λ (top : Option ℕ). types_in one top ++ stack) is_none
      ∙ ap (λ (front : List (MapType ℕ)). front ++ stack) (types_none one)

  pub frames_are : frames_in two (frames ++ row ∷ []) ≡ frames_in rows frames ++ model ∷ []
  frames_are =
      map_push (frame_in two) frames row
      ∙ ap (λ (fs : List (MapFrame ℕ)). fs ++ frame_in two row ∷ []) (frames_keep rows two frames grows are.inside)
      ∙ ap (λ (f : MapFrame ℕ). frames_in rows frames ++ f ∷ []) (λ i. record { pc = pc; locals = locals_are i; stack = stack_is i })

  pub frames_stand : AreFrames two (frames ++ row ∷ []) added
  frames_stand = record {
    tree = stacks.tree;
    kept = record {
      inside = omega (arith, adds.ended.inside, stacks.grows.longer);
      count = adds.ended.count ∙ sym (ap length (stacks.grows.same added.top adds.ended.inside));
      words = adds.ended.words ∙ sym (ap words_of (stacks.grows.same added.top adds.ended.inside));
    };
    inside = λ n frame is. elim (one_more frames row frame n is) [
      | inl there ↦ inside_more rows two frame grows (are.inside n frame there)
      | inr last ↦ subst (IsInside two) last.1 (record {
        locals = omega (arith, adds.ended.inside, stacks.grows.longer);
        stack = stacks.ended.inside;
      })
    ];
    last = locals_are ∙ sym (ap last_locals frames_are ∙ locals_push [] (frames_in rows frames) model);
    used = λ test.
        ap (list_any test) (stacks.all ∙ ap (λ (front : List (MapType ℕ)). front ++ stack) adds.all)
        ∙ used_more test (frames_in rows frames) (row_types rows) more stack kept (are.used test)
        ∙ sym (ap (λ (fs : List (MapFrame ℕ)). list_any test (flat_map frame_types fs)) frames_are
        ∙ ap (list_any test) (flat_map-append frame_types (frames_in rows frames) (model ∷ [])
        ∙ ap (λ (types : List (MapType ℕ)). flat_map frame_types (frames_in rows frames) ++ types) (append-nil (frame_types model))));
  }

pub no_frames : AreFrames [] [] (record { top = None; count = 0; words = 0 })
no_frames = record {
  tree = rows_none;
  kept = types_begin [];
  inside = λ n frame is. absurd cc;
  last = types_none [];
  used = λ test. refl;
}
