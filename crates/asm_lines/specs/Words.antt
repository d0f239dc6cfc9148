-- Words as the definitions see them.
use Rattle.std.specs.Prelude.{ℕ, List, map}
use Rattle.std.specs.Borrow.{Bor}
use Rattle.jv_types.specs.Sequence.{Sequence}

-- the bytes of each word
abbrev pub texts : List (Bor (List ℕ)) → List (List ℕ)
texts words = map (λ word. word.now) words

-- the bytes in a list
abbrev pub bytes_of : Sequence ℕ → List ℕ
bytes_of bytes = bytes.items
