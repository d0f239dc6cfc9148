-- The entries of a constant pool.
use Rattle.std.specs.Prelude.{List, [], ◌∷◌, if◌then◌else◌}
use Rattle.jv_model.specs.ClassData.{Const, gap}
use Rattle.jv_model.specs.ConstantPool as model

-- an entry, and the gap behind it where it takes two indices
abbrev pub with_gap : Const → List Const
with_gap constant = if model.is_wide constant then constant ∷ gap ∷ [] else constant ∷ []
