-- What contracts see of a `LiteralTable`.
use Rattle.std.specs.Prelude.{◌≡◌, ℕ, List, Bool, Option, None, ◌==◌, is_some, get_or, length}
use Rattle.std.specs.List.{IsDistinct, list_any}
use Rattle.heap_face.specs.declared.address.Addr.{Addr}

pub record Literals : Type 0 where
  -- the units of each literal, by its number
  pub texts : List (List ℕ)
  -- where its string lies, once it was interned
  pub addresses : List (Option Addr)
  -- the numbers of those that have one, in order of interning
  pub order : List ℕ
  -- for so many more strings there is a place
  pub left : ℕ

-- where the string of a literal lies
abbrev pub address_at : List (Option Addr) → ℕ → Option Addr
address_at addresses number = get_or addresses number None

-- it was interned
abbrev pub is_interned : List ℕ → ℕ → Bool
is_interned order number = list_any (λ n. number == n) order

-- What a table keeps: those that have a string are the ones that were interned, each once.
pub record IsKept (texts : List (List ℕ)) (addresses : List (Option Addr)) (order : List ℕ) : Type 0 where
  pub each : length addresses ≡ length texts
  pub interned : (number : ℕ) → is_interned order number ≡ is_some (address_at addresses number)
  pub once : IsDistinct ◌==◌ order
