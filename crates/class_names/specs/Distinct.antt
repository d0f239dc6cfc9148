-- Lists without repeats.
use Rattle.std.specs.Prelude.{ℕ, ◌-◌, ◌^◌, List, [], ◌∷◌, ◌++◌, Bool, ◌&&◌, ◌==◌, if◌then◌else◌}
use Rattle.std.specs.List.{list_any}
use Rattle.class_names.specs.declared.signatures.Signature.{Signature}

-- the most items, so that each has a number of 32 bits
abbrev pub most_numbers : ℕ
most_numbers = 2 ^ 32 - 1

-- the items, and this one at the end where it isn't one of them
abbrev pub with_item : {A : Type 0} → (A → A → Bool) → List A → A → List A
with_item same items item = if list_any (same item) items then items else items ++ item ∷ []

abbrev pub same_signature : Signature → Signature → Bool
same_signature a b = (a.name == b.name) && (a.descriptor == b.descriptor)
