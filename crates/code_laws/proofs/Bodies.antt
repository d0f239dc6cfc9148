-- The code of a method is read as its attribute's bytes spell it.
use Rattle.std.proofs.Common.{◌≡◌, ℕ, zero, suc, ◌+◌, ◌^◌, ◌<◌, ◌≤◌, Bool, true, false, ◌&&◌, leb, eqb, List, [], ◌∷◌, ◌++◌, length, Option, Some, None, Result, Ok, refl, sym, ap, subst, ◌∙◌, arith, IsTrue, inl, inr}
use Rattle.std.specs.Prelude.{unwrap_or}
use Rattle.std.specs.List.{AllByRecursion, list_all}
use Rattle.std.proofs.lemmas.Bool.{and_parts, leb-true, le-leb, cases_Bool, ne_eqb}
use Rattle.jv_model.specs.Limits.{most_frame_words}
use Rattle.jv_model.specs.Refusal.{Cause}
use Rattle.jv_model.specs.Fallible.{◌>>=◌, unless}
use Rattle.jv_model.specs.Input.{whole_of}
use Rattle.jv_model.specs.ClassData.{Const, gap, Attr, Member, ClassData}
use Rattle.jv_model.specs.ConstantPool.{const_at, has_tag, class_tag, is_named}
use Rattle.jv_model.specs.ClassBytes.{u2, u4}
use Rattle.jv_model.specs.Profile.{IsU1, IsAttr}
use Rattle.jv_model.specs.Code.{MapFrame, Handler, Placed, Body}
use Rattle.code_model.specs.StackMapEntries.{MapTable}
use Rattle.code_model.specs.CodeShape.{stack_map_table, Parts, parts_of, fitting_parts, table_of, catch_of}
use Rattle.code_model.specs.CodePlaces.{target_fault, handler_fault, is_handler, is_caught}
use Rattle.code_model.specs.FirstLocals.{first_locals}
use Rattle.code_model.specs.StackMaps.{Bounds, fits}
use Rattle.code_model.specs.InstructionReading.{instructions_of}
use Rattle.code_model.specs.CodeReading.{frames_from, frames_of, bounds_of, body_of, body_at}
use Rattle.code_model.specs.SpellsFrames.{SpellsMap}
use Rattle.code_model.specs.SpellsCode.{FitsRow, AreFrames, bounds, SpellsCode}
use Rattle.class_laws.proofs.Numbers.{IsBytes, IsBytes-from_all, bind_ok, ok_is}
use Rattle.class_laws.proofs.Readers.{where_ok, where_again}
use Rattle.code_laws.proofs.Handlers.{IsRow}
use Rattle.code_laws.proofs.Inners.{ReadMap, MapIsRead, maps_in}
use Rattle.code_laws.proofs.Instructions.{instructions_of_taken, instructions_of_found}
use Rattle.code_laws.proofs.Places.{no_target_fault, targets_right, no_handler_fault, handlers_right, led_are_places, at_places}
use Rattle.code_laws.proofs.Parts.{SpellsParts, parts_spelled, spelled_parts}
use Rattle.code_laws.proofs.Maps.{maps_are_read}
use Rattle.code_model.specs.Laws.{CodeIsRead, OneBody, RefusedIsUnspelled}

-- there was no fault
unless_ok :
    {A : Type 0} (fault : Option Cause) (x y : A) → unless fault x ≡ Ok y → (fault ≡ None) × (x ≡ y)
unless_ok None x y e = (refl, cc)
unless_ok (Some cause) x y e = absurd cc

-- ---- what is read is spelled

-- rows that are read fit
rows_fit : (rows : List (Handler ℕ)) → AllByRecursion IsRow rows → AllByRecursion FitsRow rows
rows_fit [] right = tt
rows_fit (row ∷ rows) right = (right.0.0, rows_fit rows right.1)

abbrev AreRuns : List Attr → Type 0
AreRuns maps = AllByRecursion (λ (a : Attr). AllByRecursion IsU1 a.bytes) maps

-- the bytes of the maps among attributes are bytes
runs_of :
    (pool : List Const) (attributes : List Attr) → AllByRecursion (IsAttr pool) attributes
    → AreRuns (maps_in pool attributes)
runs_of pool [] right = tt
runs_of pool (attribute ∷ attributes) right =
    elim (cases_Bool (is_named pool stack_map_table attribute.name)) [
      | inl is ↦ rw is (right.0.bytes.1, runs_of pool attributes right.1)
      | inr not ↦ rw not (runs_of pool attributes right.1)
    ]

-- the frames that are read are those of the map, of which there is one at the most
frames_taken :
    (file : ClassData) (member : Member) (b : Bounds) (method : ℕ) (maps : List Attr)
    (map : Option MapTable) (frames : List (MapFrame ℕ)) → b.pool ≡ file.pool → AreRuns maps
    → ReadMap method None maps map
    → frames_of b method (first_locals file member) (table_of map) ≡ Ok frames
    → AreFrames file member maps frames × IsTrue (list_all (fits b) frames)
unfolding frames_from
frames_taken file member b method [] map frames pool_is runs read e =
    let first = first_locals file member in
    let none : [] ≡ frames =
    ok_is _ _ (subst (λ (m : Option MapTable). frames_of b method first (table_of m) ≡ Ok frames)
    read e) in
    (sym none, subst (λ (fs : List (MapFrame ℕ)). IsTrue (list_all (fits b) fs)) none refl)
frames_taken file member b method (own ∷ []) map frames pool_is runs read e =
    let first = first_locals file member in
    let framed =
    subst (λ (m : Option MapTable). frames_of b method first (table_of m) ≡ Ok frames) read.3 e
    in
    let its =
    maps_are_read.takes b method read.0 first own.bytes read.1 frames read.2 runs.0 framed in
    (subst (λ (pool : List Const). SpellsMap pool first own.bytes frames) pool_is its.0, its.1)
frames_taken file member b method (own ∷ second ∷ maps) map frames pool_is runs read e =
    absurd read

-- a body that was read of its parts is spelled
body_spelled :
    (file : ClassData) (index : ℕ) (member : Member) (bytes : List ℕ) (parts : Parts)
    (instructions : List (Placed ℕ)) (frames : List (MapFrame ℕ))
    → SpellsParts file.pool index bytes parts
    → parts.max_stack + parts.max_locals ≤ most_frame_words
    → instructions_of file index parts.code ≡ Ok instructions
    → target_fault index instructions instructions ≡ None
    → handler_fault file.pool index (length parts.code) instructions 0 parts.handlers ≡ None
    → frames_of (bounds_of file parts instructions) index (first_locals file member) parts.map
    ≡ Ok frames
    → SpellsCode file member bytes (body_of parts instructions frames)
body_spelled file index member bytes parts instructions frames spells words read no_target
    no_handler framed =
    let its = bounds_of file parts instructions in
    let short : length parts.code < 2 ^ 31 = omega (arith, spells.code_length) in
    let led = no_target_fault index instructions instructions no_target in
    let at =
    at_places (length parts.code) file index (whole_of parts.code) instructions read
    spells.code_fits
    (omega (arith, short)) in
    let are =
    frames_taken file member its index (maps_in file.pool spells.attributes) spells.map frames
    refl
    (runs_of file.pool spells.attributes spells.are_attributes.1) spells.read
    (subst (λ (m : MapTable). frames_of its index (first_locals file member) m ≡ Ok frames)
    spells.map_is framed) in
    record {
      code = parts.code;
      attributes = spells.attributes;
      spelled = spells.spelled;
      words = (spells.fit.0, spells.fit.1, words);
      code_length = spells.code_length;
      instructions =
          instructions_of_taken file index parts.code instructions read spells.code_fits short
          (led_are_places instructions instructions at led);
      targets = led;
      rows = (spells.few_rows, rows_fit parts.handlers spells.rows);
      handlers =
          no_handler_fault file.pool index (length parts.code) instructions 0 parts.handlers
          no_handler;
      are_attributes = spells.are_attributes;
      frames = are.0;
      fitting = are.1;
    }

-- a body that is read is spelled
body_taken :
    (file : ClassData) (index : ℕ) (member : Member) (bytes : List ℕ) (body : Body ℕ)
    → AllByRecursion IsU1 bytes → body_at file index member bytes ≡ Ok body
    → SpellsCode file member bytes body
unfolding body_at
body_taken file index member bytes body are_bytes e =
    let shaped = bind_ok (parts_of file.pool index bytes) _ body e in
    let fitting = bind_ok (fitting_parts index shaped.0) _ body shaped.2 in
    let parts = fitting.0 in
    let read = bind_ok (instructions_of file index parts.code) _ body fitting.2 in
    let led = bind_ok (unless (target_fault index read.0 read.0) read.0) _ body read.2 in
    let handled =
    bind_ok (unless (handler_fault file.pool index (length parts.code) led.0 0 parts.handlers)
    led.0) _ body led.2 in
    let its = handled.0 in
    let frames =
    bind_ok (frames_of (bounds_of file parts its) index (first_locals file member) parts.map) _
    body handled.2 in
    let no_target = unless_ok (target_fault index read.0 read.0) read.0 led.0 led.1 in
    let no_handler =
    unless_ok (handler_fault file.pool index (length parts.code) led.0 0 parts.handlers) led.0 its
    handled.1 in
    let same : read.0 ≡ its = no_target.1 ∙ no_handler.1 in
    let words =
    where_ok (leb (shaped.0.max_stack + shaped.0.max_locals) most_frame_words) _ shaped.0 parts
    fitting.1 in
    let few : shaped.0.max_stack + shaped.0.max_locals ≤ most_frame_words = leb-true _ _ words.0 in
    let spells =
    parts_spelled file.pool index bytes shaped.0 shaped.1 (IsBytes-from_all bytes are_bytes) in
    subst (λ (b : Body ℕ). SpellsCode file member bytes b) (ok_is _ body frames.2)
    (body_spelled file index member bytes parts its frames.0
    (subst (λ (p : Parts). SpellsParts file.pool index bytes p) words.1 spells)
    (subst (λ (p : Parts). p.max_stack + p.max_locals ≤ most_frame_words) words.1 few)
    (read.1 ∙ ap (λ (is : List (Placed ℕ)). Ok is) same)
    (subst (λ (is : List (Placed ℕ)). target_fault index is is ≡ None) same no_target.0)
    (subst (λ (is : List (Placed ℕ)). handler_fault file.pool index
    (length parts.code) is 0 parts.handlers ≡ None)
    no_handler.1 no_handler.0)
    frames.1)

-- ---- what is spelled is read

-- a catch type that names a class isn't at index 0
caught_is :
    (pool : List Const) (catch : Option ℕ) → const_at pool 0 ≡ gap → IsTrue (is_caught pool catch)
    → catch_of (unwrap_or catch 0) ≡ catch
caught_is pool None gapped is = refl
caught_is pool (Some zero) gapped is =
    let not : has_tag gap class_tag ≡ true =
    subst (λ (c : Const). has_tag c class_tag ≡ true) gapped is in
    absurd cc
caught_is pool (Some (suc index)) gapped is =
    let other : eqb (suc index) 0 ≡ false = ne_eqb (suc index) 0 (λ e. omega (arith, e)) in
    rw other refl

-- the rows of an exception table are read as they're spelled
rows_are :
    (pool : List Const) (end : ℕ) (instructions : List (Placed ℕ)) (rows : List (Handler ℕ))
    → const_at pool 0 ≡ gap → AllByRecursion FitsRow rows
    → IsTrue (list_all (is_handler pool end instructions) rows) → AllByRecursion IsRow rows
rows_are pool end instructions [] gapped fit is = tt
rows_are pool end instructions (row ∷ rows) gapped fit is =
    let both =
    and_parts (is_handler pool end instructions row)
    (list_all (is_handler pool end instructions) rows) is in (
      (fit.0, caught_is pool row.catch gapped (last _ _ both.0)),
      rows_are pool end instructions rows gapped fit.1 both.1,
    )
  where
    last : (x y : Bool) → IsTrue (x && y) → IsTrue y
    last x y is = (and_parts x y is).1

-- the frames of the map are read
frames_found :
    (file : ClassData) (member : Member) (b : Bounds) (method : ℕ) (maps : List Attr)
    (frames : List (MapFrame ℕ)) → b.pool ≡ file.pool → AreFrames file member maps frames
    → IsTrue (list_all (fits b) frames)
    → (map : Option MapTable) × MapIsRead method None maps map
    × (frames_of b method (first_locals file member) (table_of map) ≡ Ok frames)
unfolding frames_from
frames_found file member b method [] frames pool_is are fit =
    (None, refl, ap (λ (fs : List (MapFrame ℕ)). Ok fs) (sym are))
frames_found file member b method (own ∷ []) frames pool_is are fit =
    let first = first_locals file member in
    let spells =
    subst (λ (pool : List Const). SpellsMap pool first own.bytes frames) (sym pool_is) are in
    let found = maps_are_read.finds b method first own.bytes frames spells fit in
    (Some found.0, (found.0, found.1, refl), found.2)
frames_found file member b method (own ∷ second ∷ maps) frames pool_is are fit = absurd are

-- all of what stands in front
all_front :
    {A : Type 0} (P : A → Type 0) (x y : List A) → AllByRecursion P (x ++ y) → AllByRecursion P x
all_front P [] y all = tt
all_front P (a ∷ x) y all = (all.0, all_front P x y all.1)

-- the code of an attribute is of bytes
code_is_bytes :
    (bytes code rest : List ℕ) (stack locals count : ℕ)
    → bytes ≡ u2 stack ++ (u2 locals ++ (u4 count ++ (code ++ rest))) → AllByRecursion IsU1 bytes
    → IsBytes code
code_is_bytes bytes code rest stack locals count e are_bytes =
    let whole = subst (λ (b : List ℕ). AllByRecursion IsU1 b) e are_bytes in
    -- eight bytes stand in front of it
    IsBytes-from_all code (all_front IsU1 code rest whole.1.1.1.1.1.1.1.1)

-- it goes on behind what was made
goes_on :
    {A B : Type 0} (first : Result A Cause) (others : A → Result B Cause) (x : A) (y : B)
    → first ≡ Ok x
    → others x ≡ Ok y → (first >>= others) ≡ Ok y
goes_on first others x y e f = ap (λ (read : Result _ Cause). read >>= others) e ∙ f

-- a body that is spelled is read
body_found :
    (file : ClassData) (index : ℕ) (member : Member) (bytes : List ℕ) (body : Body ℕ)
    → const_at file.pool 0 ≡ gap → AllByRecursion IsU1 bytes → SpellsCode file member bytes body
    → body_at file index member bytes ≡ Ok body
unfolding body_at
body_found file index member bytes body gapped are_bytes s =
    let is = body.instructions in
    let maps = maps_in file.pool s.attributes in
    let map =
    frames_found file member (bounds file body) index maps body.frames refl s.frames
    s.fitting in
    let parts : Parts =
    record {
      max_stack = body.max_stack;
      max_locals = body.max_locals;
      code = s.code;
      handlers = body.handlers;
      map = table_of map.0;
    } in
    let code_fits =
    code_is_bytes bytes s.code _ body.max_stack body.max_locals
    (length s.code) s.spelled are_bytes in
    let rows = rows_are file.pool (length s.code) is body.handlers gapped s.rows.1 s.handlers in
    let read =
    spelled_parts file.pool index bytes parts s.attributes map.0 s.spelled
    (s.words.0, s.words.1) s.code_length
    code_fits s.rows.0 rows s.are_attributes map.1 refl in
    let few =
    where_again (leb (body.max_stack + body.max_locals) most_frame_words) _ parts
    (le-leb _ _ s.words.2) in
    let no_target : unless (target_fault index is is) is ≡ Ok is =
    rw (targets_right index is is s.targets) refl in
    let no_handler : unless (handler_fault file.pool index (length s.code) is 0 body.handlers) is
    ≡ Ok is =
    rw (handlers_right file.pool index (length s.code) is 0 body.handlers s.handlers) refl in
    goes_on _ _ parts body read
    (goes_on _ _ parts body few
    (goes_on _ _ is body (instructions_of_found file index s.code is s.instructions)
    (goes_on _ _ is body no_target
    (goes_on _ _ is body no_handler
    (goes_on _ _ body.frames body map.2 refl)))))

-- ---- the laws

-- the code that is read is the code that is spelled
pub code_read : CodeIsRead
code_read file index member bytes body gapped are_bytes = (
  body_taken file index member bytes body are_bytes,
  body_found file index member bytes body gapped are_bytes,
)

-- what bytes spell is what is read of them
pub one_body : OneBody
one_body file member bytes one other gapped are_bytes spells_one spells_other =
    ok_is one other
    (sym ((code_read file 0 member bytes one gapped are_bytes).1 spells_one)
    ∙ (code_read file 0 member bytes other gapped are_bytes).1 spells_other)

-- what is spelled is read, and so isn't refused
pub refused_is_unspelled : RefusedIsUnspelled
refused_is_unspelled file index member bytes cause body gapped are_bytes refused spells =
    let read = body_found file index member bytes body gapped are_bytes spells in
    absurd cc
