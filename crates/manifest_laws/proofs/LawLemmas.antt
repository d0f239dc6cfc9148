-- The fault that is told is one of them, and none is before it.
use Rattle.std.proofs.Common.{◌≡◌, ℕ, List, [], ◌∷◌, Bool, true, false, Option, Some, None, refl, arith}
use Rattle.std.specs.Prelude.{◌==◌, nat_lt, ◌&&◌, ◌||◌, if◌then◌else◌, All, Contains, IsFalse}
use Rattle.std.proofs.lemmas.Bool.Decides.{nat_tests}
use Rattle.std.proofs.lemmas.List.Elements.{All-cons, All-nil, All-weaker, Contains-append_left, Contains-append_right, Contains-push}
use Rattle.text_model.specs.LineFaults.{Fault, IsFirstFault, first_fault, is_before, least_of, rank}

abbrev before : ℕ → ℕ → ℕ → ℕ → Bool
before a r b s = nat_lt a b || ((a == b) && nat_lt r s)

not_itself : (a r : ℕ) → before a r a r ≡ false
not_itself a r = grind (arith, nat_tests)

not_both : (a r b s : ℕ) → before a r b s ≡ true → before b s a r ≡ false
not_both a r b s first = grind (arith, nat_tests)

none_before : (a r b s c t : ℕ) → before c t b s ≡ false → before b s a r ≡ false → before c t a r ≡ false
none_before a r b s c t first second = grind (arith, nat_tests)

-- none of them is before this one
abbrev NoneIs : List Fault → Fault → Type 0
NoneIs faults fault = All (λ other. IsFalse (is_before other fault)) faults

here : (f : Fault) (fs : List Fault) → Contains (f ∷ fs) f
here f fs = Contains-append_left (f ∷ []) fs f (Contains-push [] f)

by_test : (f g : Fault) (fs : List Fault) (test : Bool) → is_before g f ≡ test → Contains fs g → NoneIs fs g
    → Contains (f ∷ fs) (if test then g else f) × NoneIs (f ∷ fs) (if test then g else f)
by_test f g fs true is has none =
    let later : is_before f g ≡ false = not_both g.0 (rank g.1) f.0 (rank f.1) is in
    (Contains-append_right (f ∷ []) fs g has, All-cons (λ other. IsFalse (is_before other g)) f fs later none)
by_test f g fs false is has none =
    let others : NoneIs fs f =
    All-weaker (λ other. IsFalse (is_before other g)) (λ other. IsFalse (is_before other f))
    (λ other not. none_before f.0 (rank f.1) g.0 (rank g.1) other.0 (rank other.1) not is) fs none in
    (here f fs, All-cons (λ other. IsFalse (is_before other f)) f fs (not_itself f.0 (rank f.1)) others)

by_told : (f : Fault) (fs : List Fault) (told : Option Fault) → IsFirstFault fs told
    → Contains (f ∷ fs) (least_of f told) × NoneIs (f ∷ fs) (least_of f told)
by_told f fs None none =
    let alone : NoneIs [] f = All-nil (λ other. IsFalse (is_before other f)) in
    let others : NoneIs fs f = rw none alone in
    (here f fs, All-cons (λ other. IsFalse (is_before other f)) f fs (not_itself f.0 (rank f.1)) others)
by_told f fs (Some g) is = by_test f g fs (is_before g f) refl is.0 is.1

pub told_is : (faults : List Fault) → IsFirstFault faults (first_fault faults)
unfolding first_fault
told_is [] = refl
told_is (f ∷ fs) = by_told f fs (first_fault fs) (told_is fs)
