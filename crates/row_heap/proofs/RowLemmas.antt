-- Rows and their words: what an object is, and what a change of one of the lists makes of it.
use Rattle.std.proofs.Common.{◌≡◌, ℕ, zero, suc, ◌+◌, ◌-◌, ◌*◌, ◌<◌, ◌≤◌, List, [], ◌∷◌, ◌++◌, length, take, drop, set, refl, sym, ap, subst, ◌∙◌, arith, length-append, length-take, length-drop, lit≤, inl, inr}
use Rattle.std.specs.Prelude.{Option, Some, None, replicate, slice_get, option_map, option_to_list, unwrap_or, IfSome}
use Rattle.std.proofs.lemmas.List.{take-append-le, drop-append-le, take_all, length-replicate, take-set-le, drop-set-lt, drop-set-add, drop-drop, nil_from_length}
use Rattle.std.proofs.lemmas.List.Sums.{sum_by-cons, sum_by_push}
use Rattle.std.proofs.lemmas.Option.{slice_get_within, slice_get_cases}
use Rattle.std.proofs.Math.Seq.{take-set-lt}
use Rattle.jv_types.specs.Sequence.{Sequence}
use Rattle.heap_face.specs.declared.shape.Kind.{Kind}
use Rattle.heap_face.specs.declared.shape.Kind.TheVariants.{Object, Refs, Ints, Text}
use Rattle.heap_face.specs.declared.shape.Shape.{Shape}
use Rattle.heap_face.specs.Heap.{Stored, header_words}
use Rattle.row_heap.specs.declared.rows.Row.{Row}
use Rattle.row_heap.specs.declared.rows.Rows.TheInside.{Inside}
use Rattle.row_heap.specs.Table.{Table, changed_row, with_lock, with_word, table_words, words_at, IsWhole}
use Rattle.row_heap.specs.RowsOf.{count_of, stored_as, objects_of, table_of, StartAt, contents_words, all_words, IsTable}

pub length-objects_of : (rows : List Row) (words : List ℕ) → length (objects_of rows words) ≡ length rows
length-objects_of [] words = refl
length-objects_of (row ∷ rows) words = ap suc (length-objects_of rows (drop (count_of row) words))

abbrev pub words_in : Row → ℕ
words_in row = row.shape.words

abbrev pub object_words : Stored ℕ → ℕ
object_words object = object.shape.words

pub words-objects_of : (rows : List Row) (words : List ℕ) → table_words (objects_of rows words) ≡ all_words rows
words-objects_of [] words = refl
words-objects_of (row ∷ rows) words =
    sum_by-cons object_words (stored_as row (take (count_of row) words)) (objects_of rows (drop (count_of row) words))
    ∙ ap (λ (n : ℕ). row.shape.words + n) (words-objects_of rows (drop (count_of row) words))
    ∙ sym (sum_by-cons words_in row rows)

pub three_words : (kind : Kind) → 3 ≤ header_words kind
three_words Object = lit≤ tt
three_words Refs = lit≤ tt
three_words Ints = lit≤ tt
three_words Text = lit≤ tt

-- an object has its words behind three others at least
pub three_a_row : (start : ℕ) (rows : List Row) → StartAt start rows
    → 3 * length rows + contents_words rows ≤ all_words rows
three_a_row start [] is = omega arith
three_a_row start (row ∷ rows) is =
    omega (arith, three_words row.shape.kind, is.1, three_a_row (start + count_of row) rows is.2, sum_by-cons count_of row rows, sum_by-cons words_in row rows)

-- ---- a row among others

pub record IsRowAt (start : ℕ) (rows : List Row) (words : List ℕ) (place : ℕ) (row : Row) : Type 0 where
  pub from : start ≤ row.start
  pub to : row.start + count_of row ≤ start + contents_words rows
  pub header : header_words row.shape.kind ≤ row.shape.words
  pub object : slice_get (objects_of rows words) place
      ≡ Some (stored_as row (take (count_of row) (drop (row.start - start) words)))

pub row_at : (start : ℕ) (rows : List Row) (words : List ℕ) (place : ℕ) (row : Row) → StartAt start rows
    → slice_get rows place ≡ Some row → IsRowAt start rows words place row
row_at start [] words place row is found = absurd cc
row_at start (first ∷ rows) words zero row is found =
    let same : first ≡ row = cc in
    let none : first.start - start ≡ 0 = omega (arith, is.0) in
    let here : IsRowAt start (first ∷ rows) words zero first = record {
      from = omega (arith, is.0);
      to = omega (arith, is.0, sum_by-cons count_of first rows);
      header = is.1;
      object = ap (λ (n : ℕ). Some (stored_as first (take (count_of first) (drop n words)))) (sym none);
    } in
    subst (λ (r : Row). IsRowAt start (first ∷ rows) words zero r) same here
row_at start (first ∷ rows) words (suc place) row is found =
    let rest = row_at (start + count_of first) rows (drop (count_of first) words) place row is.2 found in
    let sum : count_of first + (row.start - (start + count_of first)) ≡ row.start - start = omega (arith, rest.from) in
    record {
      from = omega (arith, rest.from);
      to = omega (arith, rest.to, sum_by-cons count_of first rows);
      header = rest.header;
      object = rest.object ∙ ap (λ (ws : List ℕ). Some (stored_as row (take (count_of row) ws)))
          (drop-drop (row.start - (start + count_of first)) (count_of first) words ∙ ap (λ (n : ℕ). drop n words) sum);
    }

-- ---- a word is written

pub put_at : (start : ℕ) (rows : List Row) (words : List ℕ) (place : ℕ) (row : Row) (at word : ℕ) → StartAt start rows
    → slice_get rows place ≡ Some row → at < count_of row
    → objects_of rows (set words (row.start - start + at) word) ≡ changed_row (with_word at word) (objects_of rows words) place
put_at start [] words place row at word is found within = absurd cc
put_at start (first ∷ rows) words zero row at word is found within =
    let same : first ≡ row = cc in
    let Goal : Row → Type 0 = λ r. at < count_of r → objects_of (first ∷ rows) (set words (r.start - start + at) word) ≡ changed_row (with_word at word) (objects_of (first ∷ rows) words) zero in
    let here : Goal first = λ below.
    let none : first.start - start + at ≡ at = omega (arith, is.0) in
    ap (λ (n : ℕ). objects_of (first ∷ rows) (set words n word)) none
    ∙ ap (λ (ws : List ℕ). stored_as first ws ∷ objects_of rows (drop (count_of first) (set words at word))) (take-set-lt (count_of first) words at word below)
    ∙ ap (λ (ws : List ℕ). stored_as first (set (take (count_of first) words) at word) ∷ objects_of rows ws) (drop-set-lt (count_of first) words at word below) in
    subst Goal same here within
put_at start (first ∷ rows) words (suc place) row at word is found within =
    let n = count_of first in
    let from = (row_at (start + n) rows (drop n words) place row is.2 found).from in
    let rest = row.start - (start + n) + at in
    let sum : row.start - start + at ≡ n + rest = omega (arith, from) in
    let behind : n ≤ n + rest = omega arith in
    ap (λ (k : ℕ). objects_of (first ∷ rows) (set words k word)) sum
    ∙ ap (λ (ws : List ℕ). stored_as first ws ∷ objects_of rows (drop n (set words (n + rest) word))) (take-set-le n words (n + rest) word behind)
    ∙ ap (λ (ws : List ℕ). stored_as first (take n words) ∷ objects_of rows ws) (drop-set-add n words rest word)
    ∙ ap (λ (objects : List (Stored ℕ)). stored_as first (take n words) ∷ objects) (put_at (start + n) rows (drop n words) place row at word is.2 found within)

-- ---- a lock is written

abbrev pub locked : ℕ → Row → Row
locked lock row = record row { lock = lock }

pub lock_at : (rows : List Row) (words : List ℕ) (place : ℕ) (row : Row) (lock : ℕ) → slice_get rows place ≡ Some row
    → objects_of (set rows place (locked lock row)) words ≡ changed_row (with_lock lock) (objects_of rows words) place
lock_at [] words place row lock found = absurd cc
lock_at (first ∷ rows) words zero row lock found =
    let same : first ≡ row = cc in
    let Goal : Row → Type 0 = λ r. objects_of (locked lock r ∷ rows) words ≡ changed_row (with_lock lock) (objects_of (first ∷ rows) words) zero in
    let here : Goal first = refl in
    subst Goal same here
lock_at (first ∷ rows) words (suc place) row lock found =
    ap (λ (objects : List (Stored ℕ)). stored_as first (take (count_of first) words) ∷ objects) (lock_at rows (drop (count_of first) words) place row lock found)

-- another lock changes no place
pub record SameRows (start : ℕ) (rows changed : List Row) : Type 0 where
  pub starts : StartAt start changed
  pub contents : contents_words changed ≡ contents_words rows
  pub words : all_words changed ≡ all_words rows

pub same_rows : (start : ℕ) (rows : List Row) (place : ℕ) (row : Row) (lock : ℕ) → slice_get rows place ≡ Some row
    → StartAt start rows → SameRows start rows (set rows place (locked lock row))
same_rows start [] place row lock found is = absurd cc
same_rows start (first ∷ rows) zero row lock found is =
    let same : first ≡ row = cc in
    let here : SameRows start (first ∷ rows) (locked lock first ∷ rows) = record {
      starts = is;
      contents = sum_by-cons count_of (locked lock first) rows ∙ sym (sum_by-cons count_of first rows);
      words = sum_by-cons words_in (locked lock first) rows ∙ sym (sum_by-cons words_in first rows);
    } in
    subst (λ (r : Row). SameRows start (first ∷ rows) (locked lock r ∷ rows)) same here
same_rows start (first ∷ rows) (suc place) row lock found is =
    let rest = same_rows (start + count_of first) rows place row lock found is.2 in
    record {
      starts = (is.0, is.1, rest.starts);
      contents = omega (arith, rest.contents, sum_by-cons count_of first rows, sum_by-cons count_of first (set rows place (locked lock row)));
      words = omega (arith, rest.words, sum_by-cons words_in first rows, sum_by-cons words_in first (set rows place (locked lock row)));
    }

-- ---- an object is added

pub objects_of-append : (rows : List Row) (words : List ℕ) (row : Row) (contents : List ℕ)
    → length words ≡ contents_words rows → length contents ≡ count_of row
    → objects_of (rows ++ row ∷ []) (words ++ contents) ≡ objects_of rows words ++ stored_as row contents ∷ []
objects_of-append [] words row contents none full =
    let empty : words ≡ [] = nil_from_length words none in
    let most : length contents ≤ count_of row = omega (arith, full) in
    ap (λ (ws : List ℕ). objects_of (row ∷ []) (ws ++ contents)) empty
    ∙ ap (λ (ws : List ℕ). stored_as row ws ∷ []) (take_all (count_of row) contents most)
objects_of-append (first ∷ rows) words row contents enough full =
    let n = count_of first in
    let cons = sum_by-cons count_of first rows in
    let within : n ≤ length words = omega (arith, enough, cons) in
    let rest : length (drop n words) ≡ contents_words rows = omega (arith, enough, length-drop n words, cons) in
    ap (λ (ws : List ℕ). stored_as first ws ∷ objects_of (rows ++ row ∷ []) (drop n (words ++ contents))) (take-append-le n words contents within)
    ∙ ap (λ (ws : List ℕ). stored_as first (take n words) ∷ objects_of (rows ++ row ∷ []) ws) (drop-append-le n words contents within)
    ∙ ap (λ (objects : List (Stored ℕ)). stored_as first (take n words) ∷ objects) (objects_of-append rows (drop n words) row contents rest full)

pub StartAt-append : (start : ℕ) (rows : List Row) (row : Row) → StartAt start rows
    → row.start ≡ start + contents_words rows → header_words row.shape.kind ≤ row.shape.words
    → StartAt start (rows ++ row ∷ [])
StartAt-append start [] row is there header = let here : row.start ≡ start = omega (arith, there) in (here, header, tt)
StartAt-append start (first ∷ rows) row is there header =
    let next : row.start ≡ start + count_of first + contents_words rows = omega (arith, there, sum_by-cons count_of first rows) in
    (is.0, is.1, StartAt-append (start + count_of first) rows row is.2 next header)

pub contents_words-append : (rows : List Row) (row : Row)
    → contents_words (rows ++ row ∷ []) ≡ contents_words rows + count_of row
contents_words-append rows row = sum_by_push count_of rows row

pub all_words-append : (rows : List Row) (row : Row)
    → all_words (rows ++ row ∷ []) ≡ all_words rows + row.shape.words
all_words-append rows row = sum_by_push words_in rows row

-- ---- of a whole table

pub within_rows : (it : Inside) (table : Table) (place : ℕ) → table_of it ≡ table → place < length table.objects
    → place < length it.rows.items
within_rows it table place view within =
    omega (arith, within, length-objects_of it.rows.items it.words.items, ap (λ (t : Table). length t.objects) view)

-- What is known of the row at a place.
pub record HasRow (it : Inside) (table : Table) (place : ℕ) (row : Row) : Type 0 where
  pub to : row.start + count_of row ≤ length it.words.items
  pub header : header_words row.shape.kind ≤ row.shape.words
  pub object : slice_get table.objects place
      ≡ Some (stored_as row (take (count_of row) (drop row.start it.words.items)))
  pub whole : IsWhole (stored_as row (take (count_of row) (drop row.start it.words.items)))

pub has_row : (it : Inside) (table : Table) (place : ℕ) (row : Row) → IsTable it → table_of it ≡ table
    → slice_get it.rows.items place ≡ Some row → HasRow it table place row
has_row it table place row is view found =
    let at = row_at 0 it.rows.items it.words.items place row is.starts found in
    let from : row.start - 0 ≡ row.start = omega arith in
    let to : row.start + count_of row ≤ length it.words.items = omega (arith, at.to, is.contents) in
    record {
      to = to;
      header = at.header;
      object = ap (λ (t : Table). slice_get t.objects place) (sym view) ∙ at.object
          ∙ ap (λ (n : ℕ). Some (stored_as row (take (count_of row) (drop n it.words.items)))) from;
      whole = omega (arith, to, at.header, length-take (count_of row) (drop row.start it.words.items), length-drop row.start it.words.items);
    }

-- There is a row for an object that has room.
pub row_room : (it : Inside) (words : ℕ) → IsTable it → 3 ≤ words → it.used + words ≤ it.half → 0 < it.rows.spare
row_room it words is three room =
    omega (arith, is.rows, is.used, three, room, three_a_row 0 it.rows.items is.starts)

pub word_room : (it : Inside) (words count : ℕ) → IsTable it → count ≤ words → it.used + words ≤ it.half
    → count ≤ it.words.spare
word_room it words count is less room =
    omega (arith, is.words, is.contents, is.used, less, room, three_a_row 0 it.rows.items is.starts)

pub used_is : (it : Inside) (table : Table) → IsTable it → table_of it ≡ table → it.used ≡ table_words table.objects
used_is it table is view =
    is.used ∙ sym (words-objects_of it.rows.items it.words.items) ∙ ap (λ (t : Table). table_words t.objects) view

-- What is known once a row and its words are added.
pub record IsAdded (it : Inside) (rows : Sequence Row) (words : Sequence ℕ) (row : Row) (contents : List ℕ) : Type 0 where
  pub table : (free : ℕ) → IsTable record {
    rows = rows;
    words = words;
    used = it.used + row.shape.words;
    half = it.half;
    free = free;
  }
  pub objects : objects_of rows.items words.items
      ≡ objects_of it.rows.items it.words.items ++ stored_as row contents ∷ []

pub is_added : (it : Inside) (rows : Sequence Row) (words : Sequence ℕ) (row : Row) (contents : List ℕ) → IsTable it
    → length contents ≡ count_of row → row.start ≡ length it.words.items
    → header_words row.shape.kind ≤ row.shape.words → it.used + row.shape.words ≤ it.half
    → rows.items ≡ it.rows.items ++ row ∷ [] → rows.spare + 1 ≡ it.rows.spare
    → words.items ≡ it.words.items ++ contents → it.words.spare ≤ words.spare + length contents
    → IsAdded it rows words row contents
is_added it rows words row contents is full there header room rows_are rows_spare words_are words_spare =
    let more = length-append it.rows.items (row ∷ []) in
    let longer = length-append it.words.items contents in
    let from : row.start ≡ 0 + contents_words it.rows.items = omega (arith, there, is.contents) in
    record {
      table = λ free. record {
        starts = subst (StartAt 0) (sym rows_are) (StartAt-append 0 it.rows.items row is.starts from header);
        contents = ap length words_are ∙ omega (arith, longer, full, is.contents, contents_words-append it.rows.items row, ap contents_words rows_are);
        used = omega (arith, is.used, all_words-append it.rows.items row, ap all_words rows_are);
        within = room;
        rows = omega (arith, is.rows, ap length rows_are, more, rows_spare);
        words = omega (arith, is.words, ap length words_are, longer, words_spare);
      };
      objects = ap (λ (rs : List Row). objects_of rs words.items) rows_are
          ∙ ap (λ (ws : List ℕ). objects_of (it.rows.items ++ row ∷ []) ws) words_are
          ∙ objects_of-append it.rows.items it.words.items row contents is.contents full;
    }

-- ---- an object by its parts

pub same_object : (found : Option (Stored ℕ)) (serial : ℕ) (shape : Shape) (lock : ℕ) (contents : List ℕ)
    → option_map (λ (o : Stored ℕ). o.serial) found ≡ Some serial → option_map (λ (o : Stored ℕ). o.shape) found ≡ Some shape
    → option_map (λ (o : Stored ℕ). o.lock) found ≡ Some lock → option_map (λ (o : Stored ℕ). o.contents) found ≡ Some contents
    → record { serial = serial; shape = shape; lock = lock; contents = contents } ∷ [] ≡ option_to_list found
same_object None serial shape lock contents s h l c = absurd cc
same_object (Some o) serial shape lock contents s h l c =
    let of : ℕ → Shape → ℕ → List ℕ → Stored ℕ = λ a b d e. record { serial = a; shape = b; lock = d; contents = e } in
    let serials : serial ≡ o.serial = cc in
    let shapes : shape ≡ o.shape = cc in
    let locks : lock ≡ o.lock = cc in
    let same : contents ≡ o.contents = cc in
    ap (λ (a : ℕ). of a shape lock contents ∷ []) serials ∙ ap (λ (b : Shape). of o.serial b lock contents ∷ []) shapes
    ∙ ap (λ (d : ℕ). of o.serial o.shape d contents ∷ []) locks ∙ ap (λ (e : List ℕ). of o.serial o.shape o.lock e ∷ []) same

pub whole_of : (found : Option (Stored ℕ)) (shape : Shape) (contents : List ℕ)
    → option_map (λ (o : Stored ℕ). o.shape) found ≡ Some shape → option_map (λ (o : Stored ℕ). o.contents) found ≡ Some contents
    → IfSome found IsWhole → length contents + header_words shape.kind ≡ shape.words
whole_of None shape contents h c whole = absurd cc
whole_of (Some o) shape contents h c whole =
    let shapes : o.shape ≡ shape = cc in
    let same : o.contents ≡ contents = cc in
    let P : Shape → List ℕ → Type 0 = λ b e. length e + header_words b.kind ≡ b.words in
    subst (λ (e : List ℕ). P shape e) same (subst (λ (b : Shape). P b o.contents) shapes whole)

pub words_of_shape : (objects : List (Stored ℕ)) (place : ℕ) (shape : Shape)
    → option_map (λ (o : Stored ℕ). o.shape) (slice_get objects place) ≡ Some shape → words_at objects place ≡ shape.words
words_of_shape objects place shape h = by_found (slice_get objects place) h
  where
    by_found : (found : Option (Stored ℕ)) → option_map (λ (o : Stored ℕ). o.shape) found ≡ Some shape
        → unwrap_or (option_map (λ (o : Stored ℕ). o.shape.words) found) 0 ≡ shape.words
    by_found None h = absurd cc
    by_found (Some o) h = let shapes : o.shape ≡ shape = cc in ap (λ (b : Shape). b.words) shapes

-- a place within the contents of an object is one within the words of its row
pub at_within : (objects : List (Stored ℕ)) (place at : ℕ) (row : Row) (words : List ℕ)
    → slice_get objects place ≡ Some (stored_as row (take (count_of row) words))
    → IfSome (slice_get objects place) (λ (o : Stored ℕ). at < length o.contents) → at < count_of row
at_within objects place at row words found within =
    let there = subst (λ (o : Option (Stored ℕ)). IfSome o (λ (o : Stored ℕ). at < length o.contents)) found within in
    omega (arith, there, length-take (count_of row) words)

pub all_whole : (it : Inside) (table : Table) → IsTable it → table_of it ≡ table → (place : ℕ) (object : Stored ℕ)
    → slice_get table.objects place ≡ Some object → IsWhole object
all_whole it table is view place object found =
    let within = within_rows it table place view (slice_get_within table.objects place object found) in
    elim (slice_get_cases it.rows.items place).1 [
      | inl there ↦
          let has = has_row it table place there.0 is view there.2 in
          let same : stored_as there.0 (take (count_of there.0) (drop there.0.start it.words.items)) ≡ object = cc in
          subst IsWhole same has.whole
      | inr past ↦ absurd (omega (arith, within, past.0))
    ]

-- ---- both ways of adding

pub has_room : (it : Inside) (table : Table) (asked : ℕ) → IsTable it → table_of it ≡ table
    → table_words table.objects + asked ≤ table.half → it.used + asked ≤ it.half
has_room it table asked is view room =
    let same : it.half ≡ table.half = ap (λ (t : Table). t.half) view in
    omega (arith, used_is it table is view, same, room)

pub zeros_added : (it : Inside) (table : Table) (rows : Sequence Row) (words : Sequence ℕ) (shape : Shape) (header start : ℕ)
    → IsTable it → table_of it ≡ table → header_words shape.kind ≤ shape.words
    → table_words table.objects + shape.words ≤ table.half → start ≡ length it.words.items
    → header ≡ header_words shape.kind
    → rows.items ≡ it.rows.items ++ record { serial = it.free; shape = shape; lock = 0; start = start } ∷ []
    → rows.spare + 1 ≡ it.rows.spare → words.items ≡ it.words.items ++ replicate (shape.words - header) 0
    → words.spare + (shape.words - header) ≡ it.words.spare
    → IsAdded it rows words (record { serial = it.free; shape = shape; lock = 0; start = start })
    (replicate (shape.words - header_words shape.kind) 0)
zeros_added it table rows words shape header start is view least room there same rows_are rows_spare words_are words_spare =
    let count = shape.words - header_words shape.kind in
    let full : length (replicate count 0) ≡ count = length-replicate {A = ℕ} count 0 in
    is_added it rows words (record { serial = it.free; shape = shape; lock = 0; start = start }) (replicate count 0) is full there least
    (has_room it table shape.words is view room) rows_are rows_spare
    (words_are ∙ ap (λ (h : ℕ). it.words.items ++ replicate (shape.words - h) 0) same)
    (omega (arith, words_spare, full, same))

pub copy_added : (it : Inside) (table : Table) (rows : Sequence Row) (words : Sequence ℕ) (row : Row) (contents : List ℕ)
    (objects : List (Stored ℕ)) (place : ℕ)
    → IsTable it → table_of it ≡ table → length contents + header_words row.shape.kind ≡ row.shape.words
    → option_map (λ (o : Stored ℕ). o.shape) (slice_get objects place) ≡ Some row.shape
    → table_words table.objects + words_at objects place ≤ table.half → row.start ≡ length it.words.items
    → rows.items ≡ it.rows.items ++ row ∷ [] → rows.spare + 1 ≡ it.rows.spare
    → words.items ≡ it.words.items ++ contents → it.words.spare ≤ words.spare + length contents
    → IsAdded it rows words row contents
copy_added it table rows words row contents objects place is view whole shape room there rows_are rows_spare words_are words_spare =
    let asked = words_of_shape objects place row.shape shape in
    is_added it rows words row contents is (omega (arith, whole)) there (omega (arith, whole))
    (has_room it table row.shape.words is view (omega (arith, room, asked))) rows_are rows_spare words_are words_spare
