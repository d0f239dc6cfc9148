-- Operands in words: the ones on top, and what a write of words leaves.
use Rattle.std.proofs.Common.{◌≡◌, ℕ, zero, suc, ◌+◌, ◌<◌, ◌≤◌, List, [], ◌∷◌, ◌++◌, length, get_or, take, refl, sym, ap, ◌∙◌, subst, arith}
use Rattle.std.specs.Prelude.{ℤ, pos, reverse, Bool, true, false, if◌then◌else◌, IsSome, Some, None}
use Rattle.jv_model.specs.Instruction.{ValueKind, of_int, of_long, of_reference}
use Rattle.machine_model.specs.LocalStep.{with_local}
use Rattle.std.proofs.Math.ListN.{set, length-set}
use Rattle.std.proofs.Math.Seq.{take-suc, take-suc-set}
use Rattle.std.proofs.lemmas.List.{reverse-append, map-append, map-set, length-map, length-reverse, length-take}
use Rattle.machine_model.specs.Value as model
use Rattle.jv_values.specs.declared.value.Value.{Value}
use Rattle.jv_values.specs.declared.value.Value.TheVariants.{Int, Long, Half, Null, Ref}
use Rattle.jv_values.specs.Values.{value_of, values_of, operands_in, places_of, HasInt, HasLong}

-- the operands of words to which some were added
pub operands_in-append : (words group : List Value) → values_of (reverse (words ++ group)) ≡ values_of (reverse group) ++ values_of (reverse words)
operands_in-append words group = ap values_of (reverse-append words group) ∙ map-append value_of (reverse group) (reverse words)

-- one word more is one operand more
pub operands_in-suc : (words : List Value) (d : ℕ) (z : Value) → d < length words → operands_in words (suc d) ≡ value_of (get_or words d z) ∷ operands_in words d
unfolding operands_in
operands_in-suc words d z h = ap (λ w. values_of (reverse w)) (take-suc words d z h) ∙ operands_in-append (take d words) (get_or words d z ∷ [])

-- a word that is written on top
pub operands_in-set : (words : List Value) (d n : ℕ) (v : Value) → n ≡ suc d → d < length words → operands_in (set words d v) n ≡ value_of v ∷ operands_in words d
unfolding operands_in
operands_in-set words d n v p h =
    ap (λ m. values_of (reverse (take m (set words d v)))) p
    ∙ ap (λ w. values_of (reverse w)) (take-suc-set words d v h)
    ∙ operands_in-append (take d words) (v ∷ [])

-- a long that is written on top
pub operands_in-long : (words : List Value) (d m n : ℕ) (v : Value) → m ≡ suc d → n ≡ suc m → m < length words → operands_in (set (set words d v) m Half) n ≡ model.half ∷ value_of v ∷ operands_in words d
operands_in-long words d m n v p q h =
    operands_in-set (set words d v) m n Half q (omega (arith, length-set {A = Value}))
    ∙ ap (λ ops. model.half ∷ ops) (operands_in-set words d m v p (omega arith))

-- a value that isn't a long takes one word
pub one_place : (v : Value) → ((n : ℤ) → v ≡ Long n → ⊥) → places_of v ≡ 1
one_place (Int n) h = refl
one_place (Long n) h = absurd (h n refl)
one_place Half h = refl
one_place Null h = refl
one_place (Ref n) h = refl

pub onto_one : (v : Value) (operands : List model.Value) → ((n : ℤ) → v ≡ Long n → ⊥) → model.onto (value_of v) operands ≡ value_of v ∷ operands
onto_one (Int n) operands h = refl
onto_one (Long n) operands h = absurd (h n refl)
onto_one Half operands h = refl
onto_one Null operands h = refl
onto_one (Ref n) operands h = refl

-- words that are written on top
pub operands_in-group : (words group after : List Value) (d : ℕ) → take (d + length group) after ≡ take d words ++ group → operands_in after (d + length group) ≡ values_of (reverse group) ++ operands_in words d
unfolding operands_in
operands_in-group words group after d e = ap (λ w. values_of (reverse w)) e ∙ operands_in-append (take d words) group

abbrev pub word : List Value → ℕ → Value
word words i = get_or words i (Int (pos 0))

-- the word on top
pub operands_in-top : (words : List Value) (d e : ℕ) → d ≡ suc e → d ≤ length words → operands_in words d ≡ value_of (word words e) ∷ operands_in words e
operands_in-top words d e p h = ap (operands_in words) p ∙ operands_in-suc words e (Int (pos 0)) (omega arith)

-- the two words on top
pub operands_in-two : (words : List Value) (d e : ℕ) → d ≡ suc (suc e) → d ≤ length words → operands_in words d ≡ value_of (word words (suc e)) ∷ value_of (word words e) ∷ operands_in words e
operands_in-two words d e p h =
    operands_in-top words d (suc e) p h ∙ ap (λ ops. value_of (word words (suc e)) ∷ ops) (operands_in-top words (suc e) e refl (omega arith))

-- ---- an int on top

pub int_some : (words : List Value) (d : ℕ) → HasInt (operands_in words d) → 1 ≤ d
unfolding operands_in
int_some words zero h = absurd h
int_some words (suc d) h = omega arith

int_word : (w : Value) (rest : List model.Value) → HasInt (value_of w ∷ rest) → (n : ℤ) × (w ≡ Int n)
int_word (Int n) rest h = (n, refl)
int_word (Long n) rest h = absurd h
int_word Half rest h = absurd h
int_word Null rest h = absurd h
int_word (Ref n) rest h = absurd h

pub int_is : (words : List Value) (d e : ℕ) → d ≡ suc e → d ≤ length words → HasInt (operands_in words d) → (n : ℤ) × (word words e ≡ Int n)
int_is words d e p g h = int_word (word words e) (operands_in words e) (subst HasInt (operands_in-top words d e p g) h)

-- ---- a long on top

no_long_alone : (x : model.Value) → HasLong (x ∷ []) → ⊥
no_long_alone (model.int n) h = h
no_long_alone (model.long n) h = h
no_long_alone model.half h = h
no_long_alone model.null h = h
no_long_alone (model.reference n) h = h

pub long_some : (words : List Value) (d : ℕ) → d ≤ length words → HasLong (operands_in words d) → 2 ≤ d
unfolding operands_in
long_some words zero g h = absurd h
long_some words (suc zero) g h = absurd (no_long_alone _ (subst HasLong (operands_in-suc words 0 Half (omega arith)) h))
long_some words (suc (suc d)) g h = omega arith

long_words : (v w : Value) (rest : List model.Value) → HasLong (value_of v ∷ value_of w ∷ rest) → (v ≡ Half) × ((n : ℤ) × (w ≡ Long n))
long_words (Int n) w rest h = absurd h
long_words (Long n) w rest h = absurd h
long_words Half (Int n) rest h = absurd h
long_words Half (Long n) rest h = (refl, (n, refl))
long_words Half Half rest h = absurd h
long_words Half Null rest h = absurd h
long_words Half (Ref n) rest h = absurd h
long_words Null w rest h = absurd h
long_words (Ref n) w rest h = absurd h

pub long_is : (words : List Value) (d e : ℕ) → d ≡ suc (suc e) → d ≤ length words → HasLong (operands_in words d) → (word words (suc e) ≡ Half) × ((n : ℤ) × (word words e ≡ Long n))
long_is words d e p g h = long_words (word words (suc e)) (word words e) (operands_in words e) (subst HasLong (operands_in-two words d e p g) h)

-- as many operands as words, where there are so many words
pub length-operands_in : (words : List Value) (d : ℕ) → d ≤ length words → length (operands_in words d) ≡ d
unfolding operands_in
length-operands_in words d h = length-map (reverse (take d words)) value_of ∙ length-reverse (take d words) ∙ omega (arith, length-take {A = Value} d words)

-- ---- kinds, and locals

pub taken_some : (k : ValueKind) (words : List Value) (d : ℕ) → IsSome (model.taken_of k (operands_in words d)) → 1 ≤ d
unfolding operands_in
taken_some of_int words zero h = absurd (cc)
taken_some of_long words zero h = absurd (cc)
taken_some of_reference words zero h = absurd (cc)
taken_some k words (suc d) h = omega arith

chosen : (b : Bool) (locals : List model.Value) → IsSome (if b then Some locals else None) → (if b then Some locals else None) ≡ Some locals
chosen true locals h = refl
chosen false locals h = cc

-- the locals with a word
pub with_local_one : (n : ℕ) (w : Value) (words : List Value) → ((x : ℤ) → w ≡ Long x → ⊥) → IsSome (with_local n (value_of w) (values_of words)) → with_local n (value_of w) (values_of words) ≡ Some (values_of (set words n w))
with_local_one n (Int a) words h s = chosen _ _ s ∙ ap Some (sym (map-set value_of words n (Int a)))
with_local_one n (Long a) words h s = absurd (h a refl)
with_local_one n Half words h s = chosen _ _ s ∙ ap Some (sym (map-set value_of words n Half))
with_local_one n Null words h s = chosen _ _ s ∙ ap Some (sym (map-set value_of words n Null))
with_local_one n (Ref a) words h s = chosen _ _ s ∙ ap Some (sym (map-set value_of words n (Ref a)))

-- the locals with a long
pub with_local_long : (n : ℕ) (x : ℤ) (words : List Value) → IsSome (with_local n (model.long x) (values_of words)) → with_local n (model.long x) (values_of words) ≡ Some (values_of (set (set words n (Long x)) (n + 1) Half))
with_local_long n x words s =
    chosen _ _ s
    ∙ ap Some (sym (map-set value_of (set words n (Long x)) (n + 1) Half ∙ ap (λ w. set w (n + 1) model.half) (map-set value_of words n (Long x))))
