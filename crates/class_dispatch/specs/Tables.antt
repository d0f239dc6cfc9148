-- The methods that are selected, by number.
use Rattle.std.specs.Prelude.{◌≡◌, ℕ, ◌+◌, ◌<◌, List, [], ◌∷◌, Bool, true, false, ◌&&◌, ◌==◌, if◌then◌else◌, Option, Some, None, length, slice_get, nat_lt, is_some, map}
use Rattle.std.specs.List.{list_all}
use Rattle.std.specs.Option.{option_or}
use Rattle.jv_types.specs.Sequence.{Sequence}
use Rattle.jv_types.specs.declared.number.ClassNo.{ClassNo}
use Rattle.jv_types.specs.declared.number.MethodNo.{MethodNo}
use Rattle.class_names.specs.declared.signatures.Signature.{Signature}
use Rattle.selection_table.specs.Selection.{Selection, selected_in}
use Rattle.class_methods.specs.Signatures.{Numbers, signature_at}

abbrev pub key_of : ℕ → Signature
key_of signature = record { name = signature; descriptor = 0 }

abbrev pub same_number : Option ℕ → ℕ → Bool
same_number None signature = false
same_number (Some own) signature = signature == own

abbrev pub place : ClassNo → ℕ → MethodNo
place class index = record { class = class; index = index }

-- of a class's methods from an index on the first that may be selected and has the signature
abbrev pub own_in : Numbers → ClassNo → ℕ → List Bool → ℕ → Option MethodNo
own_in signatures class index [] signature = None
own_in signatures class index (b ∷ row) signature =
    if b && same_number (signature_at signatures (place class index)) signature then Some (place class index)
    else own_in signatures class (index + 1) row signature

abbrev pub row_in : Option (Sequence Bool) → List Bool
row_in None = []
row_in (Some row) = row.items

-- the first of some classes that has one
abbrev pub chain_in : Numbers → List (Sequence Bool) → List ClassNo → ℕ → Option MethodNo
chain_in signatures rows [] signature = None
chain_in signatures rows (class ∷ classes) signature =
    option_or (own_in signatures class 0 (row_in (slice_get rows class.0)) signature) (chain_in signatures rows classes signature)

-- each method has a signature
abbrev pub RowSignatures : Numbers → ClassNo → List Bool → Type 0
RowSignatures signatures class row = (index : ℕ) → index < length row → is_some (signature_at signatures (place class index)) ≡ true

abbrev pub HaveSignatures : Numbers → List (Sequence Bool) → Type 0
HaveSignatures signatures rows = (class : ClassNo) → RowSignatures signatures class (row_in (slice_get rows class.0))

abbrev pub is_inside : ℕ → List ClassNo → Bool
is_inside count classes = list_all (λ (c : ClassNo). nat_lt c.0 count) classes

abbrev pub are_inside : ℕ → List (Sequence ClassNo) → Bool
are_inside count chains = list_all (λ (chain : Sequence ClassNo). is_inside count chain.items) chains

-- Each table has for each signature what the classes of its chain have.
abbrev pub AreTables : Numbers → List (Sequence Bool) → List (Sequence ClassNo) → List Selection → Type 0
AreTables signatures rows chains tables =
    (signature : ℕ) → map (λ (t : Selection). selected_in t (key_of signature)) tables
    ≡ map (λ (chain : Sequence ClassNo). chain_in signatures rows chain.items signature) chains
