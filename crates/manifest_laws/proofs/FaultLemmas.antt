-- Which fault of a list is told.
use Rattle.std.proofs.Common.{◌≡◌, ℕ, ◌≤◌, ◌<◌, List, [], ◌∷◌, ◌++◌, Bool, true, false, Option, Some, None, refl, ap, ◌∙◌, arith}
use Rattle.std.specs.Prelude.{◌==◌, nat_lt, ◌&&◌, ◌||◌, if◌then◌else◌}
use Rattle.std.proofs.lemmas.Bool.Decides.{nat_tests}
use Rattle.jv_model.specs.Refusal.{LineKind, not_text}
use Rattle.text_model.specs.LineFaults.{Fault, first_fault, is_before, least_of, rank, at_line}

-- ---- one fault and another

before_line : (a r b s : ℕ) → a < b → (nat_lt a b || ((a == b) && nat_lt r s)) ≡ true
before_line a r b s less = grind (arith, nat_tests)

not_before_line : (a r b s : ℕ) → b ≤ a → (a ≡ b → s ≤ r) → (nat_lt a b || ((a == b) && nat_lt r s)) ≡ false
not_before_line a r b s less rank = grind (arith, nat_tests)

-- a fault of an earlier line is told before
pub is_before-line : (f g : Fault) → f.0 < g.0 → is_before f g ≡ true
is_before-line f g less = before_line f.0 (rank f.1) g.0 (rank g.1) less

-- one of no earlier line, and of no lesser rank there, isn't
pub not_before : (f g : Fault) → f.0 ≤ g.0 → (g.0 ≡ f.0 → rank f.1 ≤ rank g.1) → is_before g f ≡ false
not_before f g less same = not_before_line g.0 (rank g.1) f.0 (rank f.1) less same

-- ---- one fault among others

-- none of them is told before it
abbrev pub NoneBefore : Fault → List Fault → Type 0
NoneBefore f [] = Unit {0}
NoneBefore f (g ∷ gs) = (is_before g f ≡ false) × NoneBefore f gs

-- it is told before all of them
abbrev pub BeforeAll : Fault → List Fault → Type 0
BeforeAll f [] = Unit {0}
BeforeAll f (g ∷ gs) = (is_before f g ≡ true) × BeforeAll f gs

abbrev NotBefore : Fault → Option Fault → Type 0
NotBefore f None = Unit {0}
NotBefore f (Some g) = is_before g f ≡ false

by_test : (f g h : Fault) (test : Bool) → is_before g f ≡ false → is_before h f ≡ false
    → is_before (if test then h else g) f ≡ false
by_test f g h true first second = second
by_test f g h false first second = first

least-not_before : (f g : Fault) (told : Option Fault) → is_before g f ≡ false → NotBefore f told
    → is_before (least_of g told) f ≡ false
least-not_before f g None first second = first
least-not_before f g (Some h) first second = by_test f g h (is_before h g) first second

told-not_before : (f : Fault) (gs : List Fault) → NoneBefore f gs → NotBefore f (first_fault gs)
unfolding first_fault
told-not_before f [] none = tt
told-not_before f (g ∷ gs) none = least-not_before f g (first_fault gs) none.0 (told-not_before f gs none.1)

least-first : (f : Fault) (told : Option Fault) → NotBefore f told → least_of f told ≡ f
least-first f None not = refl
least-first f (Some g) not = rw not

-- the first one is told, where none is before it
pub first-told : (f : Fault) (gs : List Fault) → NoneBefore f gs → first_fault (f ∷ gs) ≡ Some f
unfolding first_fault
first-told f gs none = ap Some (least-first f (first_fault gs) (told-not_before f gs none))

least-before : (f g : Fault) → is_before f g ≡ true → least_of g (Some f) ≡ f
least-before f g is = rw is

-- one that is before all those in front of it, and that none behind is before
pub middle-told : (fs : List Fault) (f : Fault) (gs : List Fault) → BeforeAll f fs → NoneBefore f gs
    → first_fault (fs ++ f ∷ gs) ≡ Some f
unfolding first_fault
middle-told [] f gs front none = first-told f gs none
middle-told (g ∷ fs) f gs front none =
    ap (λ told. Some (least_of g told)) (middle-told fs f gs front.1 none) ∙ ap Some (least-before f g front.0)

pub NoneBefore-append : (f : Fault) (gs hs : List Fault) → NoneBefore f gs → NoneBefore f hs → NoneBefore f (gs ++ hs)
NoneBefore-append f [] hs first second = second
NoneBefore-append f (g ∷ gs) hs first second = (first.0, NoneBefore-append f gs hs first.1 second)

-- ---- faults of the lines from a number on

abbrev pub From : ℕ → List Fault → Type 0
From n [] = Unit {0}
From n (g ∷ gs) = (n ≤ g.0) × From n gs

pub From-append : (n : ℕ) (gs hs : List Fault) → From n gs → From n hs → From n (gs ++ hs)
From-append n [] hs first second = second
From-append n (g ∷ gs) hs first second = (first.0, From-append n gs hs first.1 second)

pub From-less : (n m : ℕ) (gs : List Fault) → n ≤ m → From m gs → From n gs
From-less n m [] less from = tt
From-less n m (g ∷ gs) less from = (omega (arith, from.0), From-less n m gs less from.1)

pub From-at_line : (n line : ℕ) (kinds : List LineKind) → n ≤ line → From n (at_line line kinds)
From-at_line n line [] less = tt
From-at_line n line (kind ∷ kinds) less = (less, From-at_line n line kinds less)

pub From-NoneBefore : (f : Fault) (n : ℕ) (gs : List Fault) → f.0 < n → From n gs → NoneBefore f gs
From-NoneBefore f n [] less from = tt
From-NoneBefore f n (g ∷ gs) less from =
    let far : f.0 < g.0 = omega (arith, from.0) in
    (not_before f g (omega arith) (λ same. absurd (omega arith)), From-NoneBefore f n gs less from.1)

pub From-BeforeAll : (f : Fault) (n : ℕ) (gs : List Fault) → f.0 < n → From n gs → BeforeAll f gs
From-BeforeAll f n [] less from = tt
From-BeforeAll f n (g ∷ gs) less from =
    (is_before-line f g (omega (arith, from.0)), From-BeforeAll f n gs less from.1)

-- a line that is no text is told before all that is wrong from it on
pub From-text : (n : ℕ) (gs : List Fault) → From n gs → NoneBefore (n, not_text) gs
From-text n [] from = tt
From-text n (g ∷ gs) from = (not_before (n, not_text) g from.0 (λ same. omega arith), From-text n gs from.1)
