-- The inner attributes of a Code attribute, of which all but the StackMapTable are skipped.
use Rattle.std.proofs.Common.{◌≡◌, ℕ, zero, suc, ◌+◌, Bool, true, false, ◌&&◌, not, List, [], ◌∷◌, ◌++◌, length, filter, Option, Some, None, Result, Ok, refl, ap, subst, IsTrue, inl, inr}
use Rattle.std.specs.List.{flat_map, AllByRecursion}
use Rattle.std.proofs.lemmas.Bool.{cases_Bool, and_parts, and_from}
use Rattle.jv_model.specs.Refusal.{Cause, wrong_shape}
use Rattle.jv_model.specs.Fallible.{◌>>=◌}
use Rattle.jv_model.specs.Input.{Input, bytes_at}
use Rattle.jv_model.specs.ClassData.{Const, Attr}
use Rattle.jv_model.specs.ClassBytes.{u2, u4, attribute_bytes}
use Rattle.jv_model.specs.Profile.{IsU1, IsAttr}
use Rattle.code_model.specs.StackMapEntries.{MapTable, table_at}
use Rattle.code_model.specs.CodeShape.{stack_map_table, map_behind, is_second, inner_at, inners_at}
use Rattle.class_laws.proofs.Numbers.{bind_ok, ok_is, all_bytes, run_takes, run_again}
use Rattle.class_laws.proofs.Readers.{Spelling, Taken, Reads, Then, Reads-then, Reads-behind, Reads-ok, Holding, Reads-where, number_reads, spelt_then}
use Rattle.code_laws.proofs.Signed.{Number}
use Rattle.jv_model.specs.ConstantPool.{names, utf8_tag, is_named}

abbrev Map : Type 0
Map = Option MapTable

abbrev run_of : ℕ → List ℕ → Input
run_of at bytes = record { at = at; bytes = bytes }

-- ---- the bytes of an attribute

abbrev pub Run : List Const → ℕ → Map → ℕ → ℕ → Spelling Map
Run pool method map name count at text behind =
    (length text ≡ count) × AllByRecursion IsU1 text
    × (map_behind pool method name (run_of at text) map ≡ Ok behind)

abbrev run_at : List Const → ℕ → Map → ℕ → ℕ → Input → Result (Map × Input) Cause
run_at pool method map name count input =
    bytes_at count input >>= λ run.
    map_behind pool method name (run_of input.at run.0) map >>= λ behind. Ok (behind, run.1)

-- the bytes of an attribute are read, and the map behind them is made
run_reads :
    (pool : List Const) (method : ℕ) (map : Map) (name count : ℕ)
    → Reads (run_at pool method map name count) (Run pool method map name count)
run_reads pool method map name count = record {
  takes = λ input x e fits.
      let run = bind_ok (bytes_at count input) _ x e in
      let made = map_behind pool method name (run_of input.at run.0.0) map in
      let behind = bind_ok made (λ behind. Ok (behind, run.0.1)) x run.2 in
      let same : (behind.0, run.0.1) ≡ x = ok_is _ _ behind.2 in
      let taken = run_takes count input run.0 run.1 fits in
      subst (λ (y : Map × Input). Taken (Run pool method map name count) input y) same
      (record {
        text = run.0.0;
        takes = taken.0;
        spelled = (taken.1, all_bytes run.0.0 taken.2, behind.1);
      });
  finds = λ at text x spelled more. rw (run_again count text spelled.0 at more, spelled.2) refl;
}

abbrev is_allowed : List Const → Map → ℕ → Bool
is_allowed pool map name = names pool utf8_tag name && not (is_second pool name map)

abbrev pub Inner : List Const → ℕ → Map → Spelling Map
Inner pool method map =
    Then (Number 2) (λ name. Holding (IsTrue (is_allowed pool map name))
    (Then (Number 4) (λ count. Run pool method map name count)))

-- an attribute is read, behind which there is a map
inner_reads :
    (pool : List Const) (method : ℕ) (map : Map)
    → Reads (inner_at pool method map) (Inner pool method map)
unfolding inner_at
inner_reads pool method map =
    Reads-behind _ (number_reads 2) (λ before name.
    Reads-where {make = λ rest. (name, rest)} _ (is_allowed pool map name)
    (wrong_shape method before.at) (
    Reads-then _ (number_reads 4) (λ count.
    run_reads pool method map name count)))

abbrev pub Inners : List Const → ℕ → ℕ → Map → Spelling Map
Inners pool method zero map at text behind = (text ≡ []) × (behind ≡ map)
Inners pool method (suc count) map at text behind =
    Then (Inner pool method map) (λ first. Inners pool method count first) at text behind

-- so many attributes are read one after the other
pub inners_reads :
    (pool : List Const) (method count : ℕ) (map : Map)
    → Reads (inners_at pool method count map) (Inners pool method count map)
unfolding inners_at
inners_reads pool method zero map = Reads-ok map
inners_reads pool method (suc count) map =
    Reads-then _ (inner_reads pool method map) (λ first. inners_reads pool method count first)

-- ---- the maps among attributes

abbrev pub maps_in : List Const → List Attr → List Attr
maps_in pool attributes = filter (λ (a : Attr). is_named pool stack_map_table a.name) attributes

-- an attribute of another name is no map
not_named :
    (pool : List Const) (attribute : Attr) (attributes : List Attr)
    → is_named pool stack_map_table attribute.name ≡ false
    → maps_in pool (attribute ∷ attributes) ≡ maps_in pool attributes
not_named pool attribute attributes e = rw e refl

-- an attribute of that name is one
named :
    (pool : List Const) (attribute : Attr) (attributes : List Attr)
    → is_named pool stack_map_table attribute.name ≡ true
    → maps_in pool (attribute ∷ attributes) ≡ attribute ∷ maps_in pool attributes
named pool attribute attributes e = rw e refl

-- ---- what is read is spelled

-- what the maps among some attributes make of a map before them
abbrev pub ReadMap : ℕ → Map → List Attr → Map → Type 0
ReadMap method map [] behind = behind ≡ map
ReadMap method None (own ∷ []) behind =
    (at : ℕ) × (table : MapTable) × (table_at method (run_of at own.bytes) ≡ Ok table)
    × (behind ≡ Some table)
ReadMap method None (own ∷ second ∷ others) behind = ⊥
ReadMap method (Some table) (own ∷ others) behind = ⊥

-- a map that was read of the only attribute that is one
own_read :
    (pool : List Const) (method : ℕ) (map first behind : Map) (own : Attr) (maps : List Attr)
    (at : ℕ)
    → is_second pool own.name map ≡ false → is_named pool stack_map_table own.name ≡ true
    → (table_at method (run_of at own.bytes) >>= λ table. Ok (Some table)) ≡ Ok first
    → ReadMap method first maps behind → ReadMap method map (own ∷ maps) behind
own_read pool method (Some table) first behind own maps at alone is e others = absurd cc
own_read pool method None first behind own maps at alone is e others =
    let table = bind_ok (table_at method (run_of at own.bytes)) _ first e in
    let made : Some table.0 ≡ first = ok_is _ _ table.2 in
    no_more maps table.0 table.1 (rw (← made) at others)
  where
    no_more :
        (maps : List Attr) (table : MapTable) → table_at method (run_of at own.bytes) ≡ Ok table
        → ReadMap method (Some table) maps behind → ReadMap method None (own ∷ maps) behind
    no_more [] table read is = (at, table, read, is)
    no_more (second ∷ maps) table read is = absurd is

-- a map behind an attribute that was read, and the others
step_read :
    (pool : List Const) (method : ℕ) (map first behind : Map) (attribute : Attr)
    (attributes : List Attr) (at : ℕ) → is_second pool attribute.name map ≡ false
    → map_behind pool method attribute.name (run_of at attribute.bytes) map ≡ Ok first
    → ReadMap method first (maps_in pool attributes) behind
    → ReadMap method map (maps_in pool (attribute ∷ attributes)) behind
step_read pool method map first behind attribute attributes at alone e others =
    elim (cases_Bool (is_named pool stack_map_table attribute.name)) [
      | inr other ↦
          let same : map ≡ first = ok_is _ _ (rw other at e) in
          rw (not_named pool attribute attributes other) (rw same others)
      | inl is ↦
          rw (named pool attribute attributes is)
          (own_read pool method map first behind attribute _ at alone is (rw is at e) others)
    ]

-- attributes that were read, and the map behind them
pub record SpelledInners
    (pool : List Const) (method count : ℕ) (map : Map) (text : List ℕ) (behind : Map) : Type 0 where
  pub attributes : List Attr
  pub as_many : length attributes ≡ count
  pub right : AllByRecursion (IsAttr pool) attributes
  pub text_is : text ≡ flat_map attribute_bytes attributes
  pub read : ReadMap method map (maps_in pool attributes) behind

-- an attribute's name, its length and its bytes in front of others
joined :
    (text front rest own behind number run flat : List ℕ) (name count : ℕ) → text ≡ front ++ rest
    → front ≡ own ++ behind → behind ≡ number ++ run → own ≡ u2 name → number ≡ u4 count
    → length run ≡ count → rest ≡ flat → text ≡ (u2 name ++ (u4 (length run) ++ run)) ++ flat
joined text front rest own behind number run flat name count a b c d e f g =
    rw (a, b, c, d, e, f, g) refl

-- attributes that are read are spelled
pub inners_spelled :
    (pool : List Const) (method count : ℕ) (map : Map) (at : ℕ) (text : List ℕ) (behind : Map)
    → Inners pool method count map at text behind
    → SpelledInners pool method count map text behind
inners_spelled pool method zero map at text behind (bytes_are, is) =
    record { attributes = []; as_many = refl; right = tt; text_is = bytes_are; read = is }
inners_spelled pool method (suc count) map at text behind spelled =
    let inner = spelled.spelled in
    let test =
    and_parts (names pool utf8_tag inner.first)
    (not (is_second pool inner.first map)) inner.others.0 in
    let number = inner.others.1 in
    let run = number.others in
    let attribute : Attr = record { name = inner.first; bytes = number.rest } in
    let others =
    inners_spelled pool method count spelled.first _ spelled.rest behind spelled.others in
    record {
      attributes = attribute ∷ others.attributes;
      as_many = ap suc others.as_many;
      right = (
        record {
          name = (inner.spelled.right, test.0);
          bytes = (rw run.0 number.spelled.right, run.1);
        },
        others.right,
      );
      text_is =
          joined _ _ _ _ _ _ number.rest _ inner.first number.first spelled.parts inner.parts
          number.parts inner.spelled.text_is number.spelled.text_is run.0 others.text_is;
      read =
          step_read pool method map spelled.first behind attribute others.attributes _
          (not_true _ test.1) run.2 others.read;
    }
  where
    not_true : (b : Bool) → not b ≡ true → b ≡ false
    not_true true e = absurd cc
    not_true false e = refl

-- ---- what is spelled is read

-- a map that is read wherever it stands
abbrev pub MapIsRead : ℕ → Map → List Attr → Map → Type 0
MapIsRead method map [] behind = behind ≡ map
MapIsRead method None (own ∷ []) behind =
    (table : MapTable) × ((at : ℕ) → table_at method (run_of at own.bytes) ≡ Ok table)
    × (behind ≡ Some table)
MapIsRead method None (own ∷ second ∷ others) behind = ⊥
MapIsRead method (Some table) (own ∷ others) behind = ⊥

-- what an attribute makes of the map before it, which allows the attribute
record Step
    (pool : List Const) (method : ℕ) (map : Map) (attribute : Attr) (attributes : List Attr)
    (behind : Map) : Type 0 where
  first : Map
  alone : is_second pool attribute.name map ≡ false
  made :
      (at : ℕ)
      → map_behind pool method attribute.name (run_of at attribute.bytes) map ≡ Ok first
  others : MapIsRead method first (maps_in pool attributes) behind

-- an attribute of another name is no second map
no_second :
    (pool : List Const) (name : ℕ) (map : Map) → is_named pool stack_map_table name ≡ false
    → is_second pool name map ≡ false
no_second pool name None e = refl
no_second pool name (Some table) e = e

-- it's skipped
skipped :
    (pool : List Const) (method name : ℕ) (input : Input) (map : Map)
    → is_named pool stack_map_table name ≡ false → map_behind pool method name input map ≡ Ok map
skipped pool method name input map e = rw e refl

-- a map is kept
kept :
    (pool : List Const) (method name : ℕ) (input : Input) (map : Map) (table : MapTable)
    → is_named pool stack_map_table name ≡ true → table_at method input ≡ Ok table
    → map_behind pool method name input map ≡ Ok (Some table)
kept pool method name input map table e read = rw (e, read) refl

-- the only attribute that is a map, in front of others
own_step :
    (pool : List Const) (method : ℕ) (map : Map) (attribute : Attr) (attributes : List Attr)
    (behind : Map) → is_named pool stack_map_table attribute.name ≡ true
    → MapIsRead method map (attribute ∷ maps_in pool attributes) behind
    → Step pool method map attribute attributes behind
own_step pool method (Some table) attribute attributes behind is read = absurd read
own_step pool method None attribute attributes behind is read =
    by_maps (maps_in pool attributes) refl read
  where
    by_maps :
        (maps : List Attr) → maps ≡ maps_in pool attributes
        → MapIsRead method None (attribute ∷ maps) behind
        → Step pool method None attribute attributes behind
    by_maps [] e read = record {
      first = Some read.0;
      alone = refl;
      made = λ at. kept pool method attribute.name _ None read.0 is (read.1 at);
      others = subst (λ (maps : List Attr). MapIsRead method (Some read.0) maps behind) e read.2;
    }
    by_maps (own ∷ maps) e read = absurd read

-- an attribute in front of others
step_of :
    (pool : List Const) (method : ℕ) (map : Map) (attribute : Attr) (attributes : List Attr)
    (behind : Map) → MapIsRead method map (maps_in pool (attribute ∷ attributes)) behind
    → Step pool method map attribute attributes behind
step_of pool method map attribute attributes behind read =
    elim (cases_Bool (is_named pool stack_map_table attribute.name)) [
      | inr other ↦ record {
        first = map;
        alone = no_second pool attribute.name map other;
        made = λ at. skipped pool method attribute.name _ map other;
        others = rw (not_named pool attribute attributes other) at read;
      }
      | inl is ↦
          own_step pool method map attribute attributes behind is
          (rw (named pool attribute attributes is) at read)
    ]

-- attributes that are spelled are read
pub spelled_inners :
    (pool : List Const) (method at : ℕ) (map : Map) (attributes : List Attr) (behind : Map)
    → AllByRecursion (IsAttr pool) attributes
    → MapIsRead method map (maps_in pool attributes) behind
    → Inners pool method (length attributes) map at (flat_map attribute_bytes attributes) behind
spelled_inners pool method at map [] behind right read = (refl, read)
spelled_inners pool method at map (attribute ∷ attributes) behind right read =
    let step = step_of pool method map attribute attributes behind read in
    let run = attribute.bytes in
    record {
      first = step.first;
      front = attribute_bytes attribute;
      rest = flat_map attribute_bytes attributes;
      parts = refl;
      spelled =
          spelt_then attribute.name (u4 (length run) ++ run) right.0.name.0 (
            and_from _ _ right.0.name.1 (not_false _ step.alone),
            spelt_then (length run) run right.0.bytes.0 (refl, right.0.bytes.1, step.made _),
          );
      others =
          spelled_inners pool method (at + length (attribute_bytes attribute)) step.first attributes
          behind right.1 step.others;
    }
  where
    not_false : (b : Bool) → b ≡ false → not b ≡ true
    not_false true e = absurd cc
    not_false false e = refl
