-- Which rows of an exception table cover a place.
use Rattle.std.specs.Prelude.{◌≡◌, ℕ, ◌≤◌, Bool, ◌&&◌, List, length, take, nat_le, nat_lt}
use Rattle.std.specs.List.{list_any}
use Rattle.std.specs.List.Sorted.{IsNonDecreasingBy}
use Rattle.jv_types.specs.declared.code.Handler.{Handler}

-- What contracts see of a `Cover`.
pub record Rows : Type 0 where
  pub rows : List Handler
  -- how many of them a pass has come to
  pub begun : ℕ
  pub active : List Handler
  -- those of the active ones that weren't looked at yet
  pub unseen : List Handler
  -- the last place that a pass came to
  pub place : ℕ

abbrev pub covers_at : ℕ → Handler → Bool
covers_at pc row = nat_le row.from pc && nat_lt pc row.to

-- the test finds one of the first rows that covers a place just where it finds one of the others that does
abbrev pub CoversAt : (Handler → Bool) → List Handler → ℕ → List Handler → Type 0
CoversAt test rows pc others =
    list_any (λ row. covers_at pc row && test row) rows ≡ list_any (λ row. covers_at pc row && test row) others

-- of so many rows the test finds those that cover a place from that one on among the others
abbrev pub AreLeft : (Handler → Bool) → List Handler → ℕ → List Handler → ℕ → Type 0
AreLeft test rows begun others place = (pc : ℕ) → place ≤ pc → CoversAt test (take begun rows) pc others

-- The rows by their begins, and those of the first ones that a pass still needs.
pub record IsCover (rows : List Handler) (begun : ℕ) (active : List Handler) (place : ℕ) : Type 0 where
  pub within : begun ≤ length rows
  pub sorted : IsNonDecreasingBy (λ (row : Handler). row.from) rows
  pub is_active : (test : Handler → Bool) → AreLeft test rows begun active place

-- whom the test finds wasn't looked at yet
abbrev pub HasLeft : (Handler → Bool) → Rows → Type 0
HasLeft test cover = AreLeft test cover.rows cover.begun cover.unseen cover.place

-- all rows that cover the last place are among the ones that a pass has come to
abbrev pub IsHere : Rows → Type 0
IsHere cover = (test : Handler → Bool) → (others : List Handler)
    → AreLeft test cover.rows cover.begun others cover.place → CoversAt test cover.rows cover.place others
