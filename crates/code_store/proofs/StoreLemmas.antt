-- Stored codes, by their numbers.
use Rattle.std.proofs.Common.{◌≡◌, ℕ, zero, suc, ◌<◌, List, [], ◌∷◌, length, refl, sym, ◌∙◌, subst, arith, ⊎_elim}
use Rattle.std.specs.Prelude.{Some, slice_get}
use Rattle.std.proofs.lemmas.Option.{slice_get_cases}
use Rattle.jv_model.specs.Operand.{Operand}
use Rattle.jv_model.specs.Code.{Body}
use Rattle.jv_types.specs.Sequence.{Sequence}
use Rattle.jv_types.specs.declared.class_data.Const.{Const}
use Rattle.code_store.specs.Codes.{Shows, IsStored, AreStored, ShowsCode}
use Rattle.code_store.specs.declared.store.StoredCode.{StoredCode}

-- a number of the table is one of the stored codes
pub stored_within : (pools : List (Sequence Const)) (codes : List StoredCode) (table : List (Body Operand)) (n : ℕ) → AreStored pools codes table → n < length table → n < length codes
stored_within pools [] [] n h l = l
stored_within pools [] (code ∷ table) n h l = absurd h
stored_within pools (stored ∷ codes) [] n h l = absurd h
stored_within pools (stored ∷ codes) (code ∷ table) zero h l = omega arith
stored_within pools (stored ∷ codes) (code ∷ table) (suc n) h l = omega (arith, stored_within pools codes table n h.1 (omega arith))

-- the code of the table at its number
pub stored_at : (pools : List (Sequence Const)) (codes : List StoredCode) (table : List (Body Operand)) (n : ℕ) (stored : StoredCode) → AreStored pools codes table → slice_get codes n ≡ Some stored → (code : Body Operand) × (slice_get table n ≡ Some code) × IsStored pools stored code
stored_at pools [] table n stored h e = absurd cc
stored_at pools (first ∷ codes) [] n stored h e = absurd h
stored_at pools (first ∷ codes) (code ∷ table) zero stored h e =
    let same : first ≡ stored = cc in (code, refl, subst (λ s. IsStored pools s code) same h.0)
stored_at pools (first ∷ codes) (code ∷ table) (suc n) stored h e = stored_at pools codes table n stored h.1 e

-- what is there is within
pub within : {A : Type 0} (xs : List A) (n : ℕ) (x : A) → slice_get xs n ≡ Some x → n < length xs
within xs n x e = ⊎_elim (λ t. t.1) (λ p. let none = sym p.1 ∙ e in absurd cc) (slice_get_cases xs n).1

-- the pool that was found is the code's
pub shown : (pools : List (Sequence Const)) (table : List (Body Operand)) (n : ℕ) (stored : StoredCode) (pool : Sequence Const) (code : Body Operand) → slice_get table n ≡ Some code → IsStored pools stored code → slice_get pools stored.pool ≡ Some pool → ShowsCode (slice_get table n) pool.items stored.body
shown pools table n stored pool code at is found =
    let same : is.pool ≡ pool = let both = sym is.there ∙ found in cc in
    rw at (subst (λ p. Shows p.items stored.body code) same is.shows)
