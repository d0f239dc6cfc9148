-- Indices that two bytes hold.
use Rattle.std.specs.Prelude.{◌≡◌, List, Bool, true, not}
use Rattle.std.specs.List.{list_all}
use Rattle.assembler_model.specs.PoolEntries.{Entry}
use Rattle.assembler_model.specs.PoolNeeds.{Need}
use Rattle.assembler_model.specs.AssemblerPool.{is_too_far}

-- two bytes hold the index of an entry and of its parts
abbrev pub is_near : List Entry → Entry → Bool
is_near entries entry = not (is_too_far entries entry)

-- those of all entries of a pool
abbrev pub AreNear : List Entry → Type 0
AreNear entries = list_all (is_near entries) entries ≡ true

-- those of the entries that lines need
abbrev pub needs_near : List Entry → List Need → Bool
needs_near entries needs = list_all (λ need. is_near entries need.entry) needs
