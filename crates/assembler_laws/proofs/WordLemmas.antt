-- The words of a line that is made of bytes, and what is read of them.
use Rattle.std.proofs.Common.{◌≡◌, ℕ, List, [], ◌∷◌, Bool, true, false, drop, Result, Ok, Err, refl, arith}
use Rattle.std.specs.Prelude.{◌==◌, IfOk}
use Rattle.std.specs.List.{AllByRecursion, after_last, before_last}
use Rattle.jv_model.specs.Fallible.{◌>>=◌}
use Rattle.jv_model.specs.Lines.{spaced, words_of}
use Rattle.jv_model.specs.Profile.{IsU1}
use Rattle.jv_model.specs.Refusal.{LineKind}
use Rattle.jv_model.specs.Utf16.{units_of_utf8}
use Rattle.text_model.specs.Words.{provided, text_behind, word_at}
use Rattle.assembler_model.specs.OperationLines.{is_dot, reference_of}
use Rattle.assembler_laws.proofs.ListLemmas.{all_append, all_drop, all_take, at_all, split_all}
use Rattle.assembler_laws.proofs.TextLemmas.{AreBytes, AreUnits, units_fit}
use Rattle.assembler_laws.proofs.TermLemmas.{FitsReference}

-- ---- forms

pub provided_if : {A : Type 0} (P : A → Type 0) (test : Bool) (kind : LineKind) (read : Result A LineKind)
    → (test ≡ true → IfOk read P) → IfOk (provided test kind read) P
provided_if P true kind read is = is refl
provided_if P false kind read is = tt

pub then_if : {A B E : Type 0} (P : A → Type 0) (Q : B → Type 0) (read : Result A E) (next : A → Result B E) → IfOk read P
    → ((x : A) → P x → IfOk (next x) Q) → IfOk (read >>= next) Q
then_if P Q (Ok x) next is each = each x is
then_if P Q (Err e) next is each = tt

-- where nothing is asked of what was read first
pub then_any : {A B E : Type 0} (Q : B → Type 0) (read : Result A E) (next : A → Result B E)
    → ((x : A) → IfOk (next x) Q) → IfOk (read >>= next) Q
then_any Q (Ok x) next each = each x
then_any Q (Err e) next each = tt

-- ---- words

abbrev pub AreWords : List (List ℕ) → Type 0
AreWords words = AllByRecursion AreBytes words

pub words_fit : (line : List ℕ) → AreBytes line → AreWords (words_of line)
words_fit line fit = split_all IsU1 (λ byte. byte == 32) line fit

pub word_fits : (words : List (List ℕ)) (k : ℕ) → AreWords words → AreBytes (word_at words k)
word_fits words k fit = at_all AreBytes words k [] fit tt

-- the units of a word
pub word_units : (words : List (List ℕ)) (k : ℕ) → AreWords words → AreUnits (units_of_utf8 (word_at words k))
word_units words k fit = units_fit (word_at words k) (word_fits words k fit)

spaced_fit : (words : List (List ℕ)) → AreWords words → AreBytes (spaced words)
spaced_fit [] fit = tt
spaced_fit (word ∷ []) fit = fit.0
spaced_fit (word ∷ next ∷ others) fit =
    let space : IsU1 32 = omega arith in
    all_append IsU1 word (32 ∷ spaced (next ∷ others)) fit.0 (space, spaced_fit (next ∷ others) fit.1)

pub text_units : (words : List (List ℕ)) (k : ℕ) → AreWords words → AreUnits (units_of_utf8 (text_behind k words))
text_units words k fit = units_fit (text_behind k words) (spaced_fit (drop k words) (all_drop AreBytes k words fit))

pub reference_fits : (reference descriptor : List ℕ) → AreBytes reference → AreBytes descriptor
    → FitsReference (reference_of reference descriptor)
reference_fits reference descriptor first second = (
  units_fit (before_last is_dot reference) (all_take IsU1 _ reference first),
  units_fit (after_last is_dot reference) (all_drop IsU1 _ reference first),
  units_fit descriptor second,
)
