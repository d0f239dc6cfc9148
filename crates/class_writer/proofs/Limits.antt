-- The limit of a list whose items have none.
use Rattle.std.proofs.Common.{◌≡◌, List, [], ◌∷◌, length, Option, Some, None, refl, ap, ◌∙◌}
use Rattle.jv_model.specs.Refusal.{Limited}
use Rattle.jv_model.specs.Partial.{or_else, first_of}
use Rattle.jv_model.specs.ClassLimits.{over}
use Rattle.class_writer.specs.Written.{table_limit, unlimited}

or_else-None : {A : Type 0} (first : Option A) → or_else first None ≡ first
or_else-None (Some found) = refl
or_else-None None = refl

first_of-unlimited : {A : Type 0} (items : List A) → first_of unlimited items ≡ None
first_of-unlimited [] = refl
first_of-unlimited (item ∷ items) = first_of-unlimited items

-- the list's own is left
pub plain_table : {A : Type 0} (what : Limited) (items : List A)
    → table_limit what unlimited items ≡ over what (length items)
plain_table what items = ap (or_else (over what (length items))) (first_of-unlimited items)
    ∙ or_else-None _
