-- Which fault of a list is told, by its parts.
use Rattle.std.proofs.Common.{◌≡◌, ℕ, ◌+◌, ◌*◌, ◌<◌, List, [], ◌∷◌, ◌++◌, Bool, true, false, Option, Some, None, length, get_or, drop, refl, ap, sym, ◌∙◌, arith}
use Rattle.std.specs.Prelude.{◌==◌, nat_lt, ◌&&◌, ◌||◌, if◌then◌else◌}
use Rattle.std.proofs.lemmas.Bool.Decides.{nat_tests}
use Rattle.std.proofs.lemmas.List.{drop_more}
use Rattle.jv_model.specs.Refusal.{LineKind}
use Rattle.text_model.specs.LineFaults.{Fault, first_fault, is_before, least_of, rank, at_line, unless_true, where_true}
use Rattle.asm_parts.specs.Faults.{either}

-- ---- an order of numbers: the line first, then the rank

abbrev before : ℕ → ℕ → ℕ → ℕ → Bool
before a r b s = nat_lt a b || ((a == b) && nat_lt r s)

all_before : (a r b s c t : ℕ) → before c t b s ≡ true → before b s a r ≡ true → before c t a r ≡ true
all_before a r b s c t first second = grind (arith, nat_tests)

none_before : (a r b s c t : ℕ) → before c t b s ≡ false → before b s a r ≡ false → before c t a r ≡ false
none_before a r b s c t first second = grind (arith, nat_tests)

-- ---- the first of three

by_tests : (f g h : Fault) (one two : Bool) → is_before h g ≡ one → is_before g f ≡ two
    → least_of f (Some (if one then h else g)) ≡ least_of (if two then g else f) (Some h)
by_tests f g h true true one two =
    let all : is_before h f ≡ true = all_before f.0 (rank f.1) g.0 (rank g.1) h.0 (rank h.1) one two in
    rw (one, all)
by_tests f g h true false one two = refl
by_tests f g h false true one two = rw (one, two)
by_tests f g h false false one two =
    let none : is_before h f ≡ false = none_before f.0 (rank f.1) g.0 (rank g.1) h.0 (rank h.1) one two in
    rw (two, none)

pub either-assoc : (a b c : Option Fault) → either a (either b c) ≡ either (either a b) c
either-assoc None b c = refl
either-assoc (Some f) None c = refl
either-assoc (Some f) (Some g) None = refl
either-assoc (Some f) (Some g) (Some h) = ap Some (by_tests f g h (is_before h g) (is_before g f) refl refl)

pub either-none : (a : Option Fault) → either a None ≡ a
either-none None = refl
either-none (Some f) = refl

-- of two lists, one behind the other
pub first_fault-append : (fs gs : List Fault) → first_fault (fs ++ gs) ≡ either (first_fault fs) (first_fault gs)
unfolding first_fault
first_fault-append [] gs = refl
first_fault-append (f ∷ fs) gs =
    ap (either (Some f)) (first_fault-append fs gs) ∙ either-assoc (Some f) (first_fault fs) (first_fault gs)

pub first_fault-none : first_fault [] ≡ None
unfolding first_fault
first_fault-none = refl

pub first_fault-one : (fault : Fault) → first_fault (fault ∷ []) ≡ Some fault
unfolding first_fault
first_fault-one fault = refl

-- a front of a list was noted
pub noted : (told : Option Fault) (fs gs : List Fault)
    → either told (first_fault (fs ++ gs)) ≡ either (either told (first_fault fs)) (first_fault gs)
noted told fs gs = ap (either told) (first_fault-append fs gs) ∙ either-assoc told (first_fault fs) (first_fault gs)

-- no fault, by a test
pub unless-true : (told : Option Fault) (line : ℕ) (kind : LineKind) (test : Bool) → test ≡ true
    → either told (first_fault (at_line line (unless_true test kind))) ≡ told
unless-true told line kind test is = rw (is, first_fault-none) (either-none told)

pub unless-false : (told : Option Fault) (line : ℕ) (kind : LineKind) (test : Bool) → test ≡ false
    → either told (first_fault (at_line line (unless_true test kind))) ≡ either told (Some (line, kind))
unless-false told line kind test is = rw (is, first_fault-one)

pub where-true : (told : Option Fault) (line : ℕ) (kind : LineKind) (test : Bool) → test ≡ true
    → either told (first_fault (at_line line (where_true test kind))) ≡ either told (Some (line, kind))
where-true told line kind test is = rw (is, first_fault-one)

pub where-false : (told : Option Fault) (line : ℕ) (kind : LineKind) (test : Bool) → test ≡ false
    → either told (first_fault (at_line line (where_true test kind))) ≡ told
where-false told line kind test is = rw (is, first_fault-none) (either-none told)

-- ---- items of a list

pub items_left : {X : Type 0} (xs : List X) (i : ℕ) (x : X) → i < length xs → x ≡ get_or xs i x → drop i xs ≡ x ∷ drop (i + 1) xs
items_left xs i x within is = drop_more xs i x within ∙ ap (λ first. first ∷ drop (i + 1) xs) (sym is)
