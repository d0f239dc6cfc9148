-- What contracts see of a `MemberTable`, and the look-up over numbers.
use Rattle.std.specs.Prelude.{ℕ, List, [], ◌∷◌, Bool, Option, Some, None, length, position, IsTrue, nat_lt, get_or}
use Rattle.std.specs.List.{list_all}
use Rattle.jv_types.specs.declared.number.ClassNo.{ClassNo}
use Rattle.class_names.specs.declared.signatures.Signature.{Signature}
use Rattle.class_names.specs.Distinct.{same_signature}

pub record Members : Type 0 where
  -- for each class the order in which classes are looked at
  pub orders : List (List ClassNo)
  -- for each class the signatures of its own members
  pub declared : List (List Signature)

abbrev pub order_at : Members → ℕ → List ClassNo
order_at members class = get_or members.orders class []

-- the signatures of a class's own members
abbrev pub own_at : Members → ℕ → List Signature
own_at members class = get_or members.declared class []

-- the classes of an order are there
abbrev pub is_order : List (List Signature) → List ClassNo → Bool
is_order declared order = list_all (λ (c : ClassNo). nat_lt c.0 (length declared)) order

abbrev pub IsWithin : List (List ClassNo) → List (List Signature) → Type 0
IsWithin orders declared = IsTrue (list_all (is_order declared) orders)

-- the member's index in this class, or else what the rest finds
abbrev pub at_or : ClassNo → Option ℕ → Option (ClassNo × ℕ) → Option (ClassNo × ℕ)
at_or class (Some index) rest = Some (class, index)
at_or class None rest = rest

-- the first of some classes that declares the signature, and the member's index there
unfoldable pub first_with : List (List Signature) → Signature → List ClassNo → Option (ClassNo × ℕ)
first_with declared signature [] = None
first_with declared signature (class ∷ classes) =
    at_or class (position (same_signature signature) (get_or declared class.0 [])) (first_with declared signature classes)
