-- Methods by signature.
use Rattle.std.specs.Prelude.{List, [], ◌∷◌, Option, Some, None, if◌then◌else◌}
use Rattle.jv_types.specs.declared.number.MethodNo.{MethodNo}
use Rattle.class_names.specs.declared.signatures.Signature.{Signature}
use Rattle.class_names.specs.Distinct.{same_signature}

abbrev pub Sign : Type 0
Sign = Signature

pub record Selection : Type 0 where
  pub signatures : List Signature
  -- that of each signature
  pub methods : List MethodNo

-- the method of the first signature that is this one
abbrev pub first_of : List Signature → List MethodNo → Signature → Option MethodNo
first_of [] methods signature = None
first_of (s ∷ ss) [] signature = None
first_of (s ∷ ss) (m ∷ ms) signature = if same_signature signature s then Some m else first_of ss ms signature

abbrev pub selected_in : Selection → Signature → Option MethodNo
selected_in table signature = first_of table.signatures table.methods signature
