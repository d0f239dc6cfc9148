-- Rows of types: the types up to a row, and what stays when rows are added.
use Rattle.std.proofs.Common.{◌≡◌, ℕ, zero, suc, ◌+◌, ◌-◌, ◌*◌, ◌<◌, ◌≤◌, ◌⊎◌, inl, inr, List, [], ◌∷◌, ◌++◌, length, map, reverse, take, drop, get_or, slice_get, Option, Some, None, refl, sym, ap, subst, ◌∙◌, append_assoc, length-append, zero-add, arith}
use Rattle.std.specs.Prelude.{sum}
use Rattle.std.proofs.Math.Seq.{get_or-append_seam}
use Rattle.std.proofs.lemmas.List.{append-nil, get_or_append_left, take-append-drop, take-append-le, take_at, length-take-le, map_push, reverse-append}
use Rattle.std.proofs.lemmas.List.Sums.{sum_by-append}
use Rattle.jv_model.specs.Code.{MapType, map_top, map_int, map_long, map_null, map_this, map_object, map_argument, map_new}
use Rattle.jv_types.specs.MapFrame.{map_type_of, map_types_of}
use Rattle.jv_types.specs.declared.code.MapType.{MapType as ReadType}
use Rattle.jv_types.specs.declared.frames.TypeRow.{TypeRow}
use Rattle.jv_types.specs.declared.frames.SharedTypes.{SharedTypes}
use Rattle.jv_types.specs.Frames.{type_words, words_of, row_type, row_types, types_up_to, stacks_from, types_in, rows_up_to, AreRows, AreTypes, Grows, AddTypes}

-- ---- items of a list

-- an item of a list with one more is one of it, or that one
pub one_more : {A : Type 0} (xs : List A) (x y : A) (k : ℕ) → slice_get (xs ++ x ∷ []) k ≡ Some y
    → (slice_get xs k ≡ Some y) ⊎ ((k ≡ length xs) × (x ≡ y))
one_more [] x y zero is = inr (refl, cc)
one_more [] x y (suc k) is = absurd cc
one_more (z ∷ xs) x y zero is = inl is
one_more (z ∷ xs) x y (suc k) is = elim (one_more xs x y k is) [
  | inl there ↦ inl there
  | inr last ↦ inr (ap suc last.0, last.1)
]

-- there is one below the length
item_at : {A : Type 0} (xs : List A) (k : ℕ) → k < length xs → (x : A) × (slice_get xs k ≡ Some x)
item_at [] k inside = absurd (omega arith)
item_at (x ∷ xs) zero inside = (x, refl)
item_at (x ∷ xs) (suc k) inside = item_at xs k (omega arith)

pub take_front : {A : Type 0} (count most : ℕ) (xs : List A) → count ≤ most → most ≤ length xs
    → take count (take most xs) ≡ take count xs
take_front count most xs few inside =
    let long : count ≤ length (take most xs) = omega (arith, length-take-le most xs inside) in
    sym (take-append-le count (take most xs) (drop most xs) long)
    ∙ ap (take count) (take-append-drop most xs)

-- ---- the types up to each row

stacks_push : (stacks : List (List (MapType ℕ))) (rows : List TypeRow) (row : TypeRow)
    → stacks_from stacks (rows ++ row ∷ [])
    ≡ stacks_from stacks rows ++ (types_up_to (stacks_from stacks rows) row.below ++ row_type row ∷ []) ∷ []
stacks_push stacks [] row = refl
stacks_push stacks (first ∷ rows) row =
    stacks_push (stacks ++ (types_up_to stacks first.below ++ row_type first ∷ []) ∷ []) rows row

stacks_length : (stacks : List (List (MapType ℕ))) (rows : List TypeRow)
    → length (stacks_from stacks rows) ≡ length stacks + length rows
stacks_length stacks [] = omega arith
stacks_length stacks (first ∷ rows) =
    let stack = types_up_to stacks first.below ++ row_type first ∷ [] in
    omega (arith, stacks_length (stacks ++ stack ∷ []) rows, length-append stacks (stack ∷ []))

stacks_keep : (stacks : List (List (MapType ℕ))) (rows : List TypeRow) (k : ℕ) → k < length stacks
    → get_or (stacks_from stacks rows) k [] ≡ get_or stacks k []
stacks_keep stacks [] k inside = refl
stacks_keep stacks (first ∷ rows) k inside =
    let stack = types_up_to stacks first.below ++ row_type first ∷ [] in
    stacks_keep (stacks ++ stack ∷ []) rows k (omega (arith, length-append stacks (stack ∷ [])))
    ∙ get_or_append_left stacks (stack ∷ []) [] k inside

up_to_keep : (stacks : List (List (MapType ℕ))) (rows : List TypeRow) (top : Option ℕ)
    → rows_up_to top ≤ length stacks
    → types_up_to (stacks_from stacks rows) top ≡ types_up_to stacks top
up_to_keep stacks rows None inside = refl
up_to_keep stacks rows (Some k) inside = stacks_keep stacks rows k (omega arith)

up_to_push : (stacks : List (List (MapType ℕ))) (stack : List (MapType ℕ)) (top : Option ℕ)
    → rows_up_to top ≤ length stacks
    → types_up_to (stacks ++ stack ∷ []) top ≡ types_up_to stacks top
up_to_push stacks stack None inside = refl
up_to_push stacks stack (Some k) inside =
    get_or_append_left stacks (stack ∷ []) [] k (omega arith)

first_stack : (stacks : List (List (MapType ℕ))) (row : TypeRow) (rows : List TypeRow)
    → rows_up_to row.below ≤ length stacks
    → get_or (stacks_from stacks (row ∷ rows)) (length stacks) []
    ≡ types_up_to (stacks_from stacks (row ∷ rows)) row.below ++ row_type row ∷ []
first_stack stacks row rows inside =
    let stack = types_up_to stacks row.below ++ row_type row ∷ [] in
    let longer : length (stacks ++ stack ∷ []) ≡ length stacks + 1 = length-append stacks (stack ∷ []) in
    stacks_keep (stacks ++ stack ∷ []) rows (length stacks) (omega (arith, longer))
    ∙ get_or-append_seam stacks stack [] []
    ∙ ap (λ (types : List (MapType ℕ)). types ++ row_type row ∷ [])
    (sym (up_to_keep (stacks ++ stack ∷ []) rows row.below (omega (arith, longer))
    ∙ up_to_push stacks stack row.below inside))

stack_at : (stacks : List (List (MapType ℕ))) (rows : List TypeRow) (k at : ℕ) (row : TypeRow)
    → slice_get rows k ≡ Some row → at ≡ length stacks + k → rows_up_to row.below ≤ at
    → get_or (stacks_from stacks rows) at []
    ≡ types_up_to (stacks_from stacks rows) row.below ++ row_type row ∷ []
stack_at stacks [] k at row is here inside = absurd cc
stack_at stacks (first ∷ rows) zero at row is here inside =
    let same : first ≡ row = cc in
    let begins : at ≡ length stacks = omega arith in
    subst (λ (r : TypeRow). get_or (stacks_from stacks (r ∷ rows)) at []
    ≡ types_up_to (stacks_from stacks (r ∷ rows)) row.below ++ row_type row ∷ []) (sym same)
    (rw begins (first_stack stacks row rows (omega arith)))
stack_at stacks (first ∷ rows) (suc k) at row is here inside =
    let stack = types_up_to stacks first.below ++ row_type first ∷ [] in
    stack_at (stacks ++ stack ∷ []) rows k at row is
    (omega (arith, length-append stacks (stack ∷ []))) inside

-- ---- the types up to a row

pub types_none : (rows : List TypeRow) → types_in rows None ≡ []
unfolding types_in
types_none rows = refl

pub types_at : (rows : List TypeRow) → AreRows rows → (k : ℕ) (row : TypeRow)
    → slice_get rows k ≡ Some row
    → types_in rows (Some k) ≡ types_in rows row.below ++ row_type row ∷ []
unfolding types_in
types_at rows are k row is = stack_at [] rows k k row is (omega arith) (are.earlier k row is)

types_same : (rows : List TypeRow) (row : TypeRow) (top : Option ℕ) → rows_up_to top ≤ length rows
    → types_in (rows ++ row ∷ []) top ≡ types_in rows top
unfolding types_in
types_same rows row top inside =
    ap (λ (stacks : List (List (MapType ℕ))). types_up_to stacks top) (stacks_push [] rows row)
    ∙ up_to_push (stacks_from [] rows) (types_up_to (stacks_from [] rows) row.below ++ row_type row ∷ []) top
    (omega (arith, stacks_length [] rows))

types_last : (rows : List TypeRow) (row : TypeRow)
    → types_in (rows ++ row ∷ []) (Some (length rows)) ≡ types_in rows row.below ++ row_type row ∷ []
unfolding types_in
types_last rows row =
    let stacks = stacks_from [] rows in
    let stack = types_up_to stacks row.below ++ row_type row ∷ [] in
    let many : length rows ≡ length stacks = omega (arith, stacks_length [] rows) in
    ap (λ (all : List (List (MapType ℕ))). get_or all (length rows) []) (stacks_push [] rows row)
    ∙ ap (λ (n : ℕ). get_or (stacks ++ stack ∷ []) n []) many
    ∙ get_or-append_seam stacks stack [] []

rows_push : (rows : List TypeRow) (row : TypeRow) → AreRows rows
    → rows_up_to row.below ≤ length rows → AreRows (rows ++ row ∷ [])
rows_push rows row are inside = record {
  earlier = λ k other is. elim (one_more rows row other k is) [
    | inl there ↦ are.earlier k other there
    | inr last ↦ subst (λ (r : TypeRow). rows_up_to r.below ≤ k) last.1
        (omega (arith, last.0))
  ];
}

few_types : (rows : List TypeRow) → AreRows rows → (most : ℕ) (top : Option ℕ)
    → rows_up_to top ≤ most → rows_up_to top ≤ length rows
    → length (types_in rows top) ≤ rows_up_to top
few_types rows are most None few inside = omega (arith, ap length (types_none rows))
few_types rows are zero (Some k) few inside = absurd (omega arith)
few_types rows are (suc most) (Some k) few inside =
    let found = item_at rows k (omega arith) in
    let row = found.0 in
    let earlier = are.earlier k row found.1 in
    omega (
      arith,
      ap length (types_at rows are k row found.1),
      length-append (types_in rows row.below) (row_type row ∷ []),
      few_types rows are most row.below (omega arith) (omega arith),
    )

-- ---- words

pub few_words_of : (type : MapType ℕ) → type_words type ≤ 2
few_words_of map_top = omega arith
few_words_of map_int = omega arith
few_words_of map_long = omega arith
few_words_of map_null = omega arith
few_words_of map_this = omega arith
few_words_of (map_object index) = omega arith
few_words_of (map_argument number) = omega arith
few_words_of (map_new pc) = omega arith

few_words : (types : List (MapType ℕ)) → words_of types ≤ 2 * length types
few_words [] = omega arith
few_words (type ∷ types) =
    let all : words_of (type ∷ types) ≡ type_words type + words_of types =
    sum_by-append (λ (n : ℕ). n) (type_words type ∷ []) (map type_words types)
    ∙ ap (λ (n : ℕ). n + words_of types) (zero-add (type_words type)) in
    omega (arith, all, few_words types, few_words_of type)

words_push : (types : List (MapType ℕ)) (type : MapType ℕ)
    → words_of (types ++ type ∷ []) ≡ words_of types + type_words type
words_push types type =
    ap sum (map_push type_words types type)
    ∙ sum_by-append (λ (n : ℕ). n) (map type_words types) (type_words type ∷ [])
    ∙ ap (λ (n : ℕ). words_of types + n) (zero-add (type_words type))

-- ---- types that end in a row

module _ (rows : List TypeRow) (are : AreRows rows) (types : SharedTypes) (ended : AreTypes rows types) where
  pub count_few : types.count ≤ length rows
  count_few =
      omega (arith, few_types rows are (length rows) types.top ended.inside ended.inside, ended.inside, ended.count)

  pub words_are_few : types.words ≤ 2 * length rows
  words_are_few =
      omega (
        arith,
        few_types rows are (length rows) types.top ended.inside ended.inside,
        ended.inside,
        ended.words,
        few_words (types_in rows types.top),
      )

  pub has_top : 0 < types.count → (row : ℕ) × (types.top ≡ Some row)
  has_top some = by types.top refl
    where
      by : (top : Option ℕ) → types.top ≡ top → (row : ℕ) × (types.top ≡ Some row)
      by None is =
          absurd (omega (arith, ended.count, ap (λ (top : Option ℕ). length (types_in rows top)) is, ap length (types_none rows)))
      by (Some row) is = (row, is)

  -- without the last of them
  module _ (k : ℕ) (row : TypeRow) (top : types.top ≡ Some k) (is : slice_get rows k ≡ Some row) where
    all_are : types_in rows types.top ≡ types_in rows row.below ++ row_type row ∷ []
    all_are = ap (types_in rows) top ∙ types_at rows are k row is

    count_is : types.count ≡ length (types_in rows row.below) + 1
    count_is =
        ended.count ∙ ap length all_are ∙ length-append (types_in rows row.below) (row_type row ∷ [])

    words_are : types.words ≡ words_of (types_in rows row.below) + type_words (row_type row)
    words_are = ended.words ∙ ap words_of all_are ∙ words_push (types_in rows row.below) (row_type row)

    pub words_left : type_words (row_type row) ≤ types.words
    words_left = omega (arith, words_are)

    pub front_is : types_in rows row.below ≡ take (types.count - 1) (types_in rows types.top)
    front_is =
        sym (ap (take (types.count - 1)) all_are
        ∙ take_at (types_in rows row.below) (row_type row ∷ []) (types.count - 1) (omega (arith, count_is)))

    pub front_ends : AreTypes rows (record { top = row.below; count = types.count - 1; words = types.words - type_words (row_type row) })
    front_ends = record {
      inside = omega (arith, are.earlier k row is, ended.inside, ap rows_up_to top);
      count = omega (arith, count_is);
      words = omega (arith, words_are);
    }

  -- with one more on top of them
  pub add_one : (map_type : ReadType)
      → AddTypes rows types (map_type_of map_type ∷ []) (rows ++ record { below = types.top; map_type = map_type } ∷ [])
      (record { top = Some (length rows); count = types.count + 1; words = types.words + type_words (map_type_of map_type) })
  add_one map_type =
      let row : TypeRow = record { below = types.top; map_type = map_type } in
      let all : types_in (rows ++ row ∷ []) (Some (length rows)) ≡ types_in rows types.top ++ map_type_of map_type ∷ [] =
      types_last rows row in
      let longer : length (rows ++ row ∷ []) ≡ length rows + 1 = length-append rows (row ∷ []) in
      record {
        tree = rows_push rows row are ended.inside;
        ended = record {
          inside = omega (arith, longer);
          count = omega (arith, ended.count, ap length all, length-append (types_in rows types.top) (map_type_of map_type ∷ []));
          words = omega (arith, ended.words, ap words_of all, words_push (types_in rows types.top) (map_type_of map_type));
        };
        grows = record { longer = omega (arith, longer); same = λ top inside. types_same rows row top inside };
        added = all;
        all = map_push row_type rows row;
      }

  pub add_none : AddTypes rows types [] rows types
  add_none = record {
    tree = are;
    ended = ended;
    grows = record { longer = omega arith; same = λ top inside. refl };
    added = sym (append-nil (types_in rows types.top));
    all = sym (append-nil (row_types rows));
  }

pub grows_more : (old new newer : List TypeRow) → Grows old new → Grows new newer → Grows old newer
grows_more old new newer first second = record {
  longer = omega (arith, first.longer, second.longer);
  same = λ top inside. second.same top (omega (arith, first.longer)) ∙ first.same top inside;
}

pub add_more : (old new newer : List TypeRow) (types result last : SharedTypes) (xs ys : List (MapType ℕ))
    → AddTypes old types xs new result → AddTypes new result ys newer last
    → AddTypes old types (xs ++ ys) newer last
add_more old new newer types result last xs ys first second = record {
  tree = second.tree;
  ended = second.ended;
  grows = grows_more old new newer first.grows second.grows;
  added =
      second.added ∙ ap (λ (front : List (MapType ℕ)). front ++ ys) first.added
      ∙ append_assoc (types_in old types.top) xs ys;
  all =
      second.all ∙ ap (λ (front : List (MapType ℕ)). front ++ ys) first.all
      ∙ append_assoc (row_types old) xs ys;
}

pub rows_none : AreRows []
rows_none = record { earlier = λ k row is. absurd cc }

pub types_begin : (rows : List TypeRow) → AreTypes rows (record { top = None; count = 0; words = 0 })
types_begin rows = record {
  inside = omega arith;
  count = omega (arith, ap length (types_none rows));
  words = omega (arith, ap words_of (types_none rows));
}

-- ---- a walk down from a row

module _ (rows : List TypeRow) (are : AreRows rows) (top : List (MapType ℕ)) (types : List ReadType) where
  -- one row more is walked
  pub walk_more : (k : ℕ) (row : TypeRow) → slice_get rows k ≡ Some row
      → types_in rows (Some k) ++ map_types_of (reverse types) ≡ top
      → types_in rows row.below ++ map_types_of (reverse (types ++ row.map_type ∷ [])) ≡ top
  walk_more k row is so_far =
      ap (λ (back : List ReadType). types_in rows row.below ++ map_types_of back) (reverse-append types (row.map_type ∷ []))
      ∙ sym (append_assoc (types_in rows row.below) (row_type row ∷ []) (map_types_of (reverse types)))
      ∙ ap (λ (front : List (MapType ℕ)). front ++ map_types_of (reverse types)) (sym (types_at rows are k row is))
      ∙ so_far

  -- none is left
  pub walk_ends : types_in rows None ++ map_types_of (reverse types) ≡ top → map_types_of (reverse types) ≡ top
  walk_ends is = sym (ap (λ (front : List (MapType ℕ)). front ++ map_types_of (reverse types)) (types_none rows)) ∙ is
