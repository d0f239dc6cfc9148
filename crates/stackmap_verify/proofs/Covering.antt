-- The rows that cover a place, while a pass goes along the code.
use Rattle.std.proofs.Common.{◌≡◌, ℕ, ◌+◌, ◌<◌, ◌≤◌, Bool, true, false, not, cond, ◌&&◌, ◌||◌, List, [], ◌∷◌, ◌++◌, Some, length, take, drop, slice_get, get_or, filter, nat_le, nat_lt, ap, sym, subst, ◌∙◌, refl, arith}
use Rattle.std.specs.List.{All, list_any}
use Rattle.std.specs.List.Sorted.{IsNonDecreasingBy}
use Rattle.std.proofs.lemmas.Bool.Decides.{nat_tests}
use Rattle.std.proofs.lemmas.List.{take_more, take-append-drop, get_or-drop, length-drop}
use Rattle.std.proofs.lemmas.List.Folds.{list_any-append, list_any_none}
use Rattle.std.proofs.lemmas.Map.Views.{any-filter_same}
use Rattle.std.proofs.lemmas.Option.{slice_get-get_or, slice_get_past}
use Rattle.jv_types.specs.declared.code.Handler.{Handler}
use Rattle.stackmap_verify.specs.Cover.{covers_at, CoversAt, AreLeft}

any_one : {A : Type 0} (p : A → Bool) (xs : List A) (x : A) → list_any p (xs ++ x ∷ []) ≡ (list_any p xs || p x)
any_one p xs x = list_any-append p xs (x ∷ []) ∙ ap (λ (b : Bool). list_any p xs || b) (or_false (p x))
  where
    or_false : (b : Bool) → (b || false) ≡ b
    or_false true = refl
    or_false false = refl

module _ (test : Handler → Bool) where
  -- one row more
  pub one_more : (rows others : List Handler) (begun : ℕ) (row : Handler) → begun < length rows → row ≡ get_or rows begun row
      → (place : ℕ) → AreLeft test rows begun others place → AreLeft test rows (begun + 1) (others ++ row ∷ []) place
  one_more rows others begun row inside is place so_far pc later =
      let p = λ (h : Handler). covers_at pc h && test h in
      ap (list_any p) (take_more rows begun row inside ∙ ap (λ (h : Handler). take begun rows ++ h ∷ []) (sym is))
      ∙ any_one p (take begun rows) row
      ∙ ap (λ (b : Bool). b || p row) (so_far pc later)
      ∙ sym (any_one p others row)

  -- where more places are past, fewer are left
  pub from_later : (rows others : List Handler) (begun place pc : ℕ) → place ≤ pc → AreLeft test rows begun others place
      → AreLeft test rows begun others pc
  from_later rows others begun place pc later so_far at after = so_far at (omega arith)

  -- no row is left before any begins
  pub none_begun : (rows : List Handler) (place : ℕ) → AreLeft test rows 0 [] place
  none_begun rows place at after = refl

and_false : (b : Bool) → (b && false) ≡ false
and_false true = refl
and_false false = refl

first_holds : (a b : Bool) → (a && b) ≡ true → a ≡ true
first_holds true b is = refl
first_holds false b is = is

second_holds : (a b : Bool) → (a && b) ≡ true → b ≡ true
second_holds true b is = is
second_holds false b is = absurd cc

-- a row that covers a place ends after all that come before it
ends_later : (pc at : ℕ) (row : Handler) (b : Bool) → pc ≤ at → (covers_at at row && b) ≡ true → nat_lt pc row.to ≡ true
ends_later pc at row b later is =
    let late : nat_lt at row.to ≡ true = second_holds (nat_le row.from at) (nat_lt at row.to) (first_holds (covers_at at row) b is) in
    grind (arith, nat_tests)

-- without the rows that ended
pub still_left : (test : Handler → Bool) (rows others : List Handler) (begun pc : ℕ) → AreLeft test rows begun others pc
    → AreLeft test rows begun (filter (λ (row : Handler). nat_lt pc row.to) others) pc
still_left test rows others begun pc so_far at after =
    so_far at after
    ∙ sym (any-filter_same (λ (row : Handler). covers_at at row && test row) (λ (row : Handler). nat_lt pc row.to) true
    (λ row is. ends_later pc at row (test row) after is) others)

begins_later : (pc : ℕ) (row : Handler) (b : Bool) → pc < row.from → (covers_at pc row && b) ≡ false
begins_later pc row b later =
    let early : nat_le row.from pc ≡ false = grind (arith, nat_tests) in
    ap (λ (c : Bool). c && nat_lt pc row.to && b) early

abbrev covering : ℕ → (Handler → Bool) → Handler → Bool
covering pc test row = covers_at pc row && test row

-- the rows that are still to come begin later
pub none_later : (test : Handler → Bool) (rows others : List Handler) (begun pc : ℕ)
    → IsNonDecreasingBy (λ (row : Handler). row.from) rows
    → ((next : Handler) → slice_get rows begun ≡ Some next → pc < next.from)
    → AreLeft test rows begun others pc → CoversAt test rows pc others
none_later test rows others begun pc sorted later so_far =
    ap (list_any (covering pc test)) (sym (take-append-drop begun rows))
    ∙ list_any-append (covering pc test) (take begun rows) (drop begun rows)
    ∙ (λ i. so_far pc (omega arith) i || list_any_none (covering pc test) (drop begun rows) none i)
    ∙ or_false (list_any (covering pc test) others)
  where
    or_false : (b : Bool) → (b || false) ≡ b
    or_false true = refl
    or_false false = refl

    none : All (λ (row : Handler). covering pc test row ≡ false) (drop begun rows)
    none k d inside =
        let short : begun + k < length rows = omega (arith, inside, length-drop begun rows) in
        let next = later (get_or rows begun d) (slice_get-get_or rows begun d (omega arith)) in
        let rising = sorted begun (begun + k) d (omega arith) short in
        ap (covering pc test) (get_or-drop begun rows k d)
        ∙ begins_later pc (get_or rows (begun + k) d) (test (get_or rows (begun + k) d)) (omega arith)

-- what is left once a pass came to a place
pub came_to : (test : Handler → Bool) (rows read first back taken left : List Handler) (begun again more place pc : ℕ) → read ≡ rows
    → AreLeft test rows begun first place → (AreLeft test rows begun first place → AreLeft test rows again back pc)
    → (AreLeft test read again back pc → AreLeft test read more taken pc)
    → left ≡ filter (λ (row : Handler). nat_lt pc row.to) taken → AreLeft test rows more left pc
came_to test rows read first back taken left begun again more place pc same active goes takes drops =
    let taken_is : AreLeft test rows more taken pc =
    subst (λ (r : List Handler). AreLeft test r more taken pc) same
    (takes (subst (λ (r : List Handler). AreLeft test r again back pc) (sym same) (goes active))) in
    subst (λ (l : List Handler). AreLeft test rows more l pc) (sym drops) (still_left test rows taken more pc taken_is)

pub later_is : (rows read : List Handler) (begun pc : ℕ) → read ≡ rows
    → ((next : Handler) → slice_get read begun ≡ Some next → pc < next.from)
    → (next : Handler) → slice_get rows begun ≡ Some next → pc < next.from
later_is rows read begun pc same later next at = later next (ap (λ (r : List Handler). slice_get r begun) same ∙ at)

-- the row that isn't taken begins later
pub begins_after : (rows : List Handler) (begun pc : ℕ) (other : Handler) → begun < length rows → pc < (get_or rows begun other).from
    → (next : Handler) → slice_get rows begun ≡ Some next → pc < next.from
begins_after rows begun pc other inside later next at =
    let there = sym (slice_get-get_or rows begun other inside) ∙ at in
    let same : get_or rows begun other ≡ next = cc in
    subst (λ (row : Handler). pc < row.from) same later

pub none_after : (rows : List Handler) (begun pc : ℕ) → length rows ≤ begun
    → (next : Handler) → slice_get rows begun ≡ Some next → pc < next.from
none_after rows begun pc past next at = absurd (let none = sym (slice_get_past rows begun past) ∙ at in cc)

-- ---- rows that were looked at

module _ {A : Type 0} (now later test : A → Bool) where
  -- those that one test doesn't find, and those that it doesn't look at
  seen-any : (xs : List A) → list_any (λ x. now x && test x) xs ≡ false
      → list_any (λ x. later x && test x) (filter (λ x. not (now x)) xs) ≡ list_any (λ x. later x && test x) xs
  seen-any [] none = refl
  seen-any (x ∷ xs) none = by (now x) (test x) refl none (seen-any xs)
    where
      by : (b t : Bool) → test x ≡ t → ((b && t) || list_any (λ x. now x && test x) xs) ≡ false
          → (list_any (λ x. now x && test x) xs ≡ false
          → list_any (λ x. later x && test x) (filter (λ x. not (now x)) xs) ≡ list_any (λ x. later x && test x) xs)
          → list_any (λ x. later x && test x) (cond (not b) (x ∷ filter (λ x. not (now x)) xs) (filter (λ x. not (now x)) xs))
          ≡ ((later x && test x) || list_any (λ x. later x && test x) xs)
      by true true is none others = absurd cc
      by true false is none others =
          others none ∙ sym (ap (λ (c : Bool). (later x && c) || list_any (λ x. later x && test x) xs) is
          ∙ ap (λ (c : Bool). c || list_any (λ x. later x && test x) xs) (and_false (later x)))
      by false t is none others = ap (λ (c : Bool). (later x && test x) || c) (others none)

-- of the rows that are left only those that don't cover this place are still to be looked at
pub seen_left : (test : Handler → Bool) (rows others left : List Handler) (begun pc : ℕ)
    → list_any (λ row. covers_at pc row && test row) others ≡ false
    → left ≡ filter (λ (row : Handler). not (covers_at pc row)) others
    → AreLeft test rows begun others pc → AreLeft test rows begun left pc
seen_left test rows others left begun pc none is so_far at after =
    so_far at after ∙ sym (seen-any (covers_at pc) (covers_at at) test others none)
    ∙ ap (list_any (covering at test)) (sym is)
