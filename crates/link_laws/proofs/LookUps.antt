-- Looking up finds the first in order that declares the member.
use Rattle.std.proofs.Common.{◌≡◌, ℕ, List, [], ◌∷◌, ◌++◌, Option, Some, None, refl, sym, ap, subst, ◌∙◌, inl, inr}
use Rattle.std.specs.Prelude.{IsTrue, ◌↔◌}
use Rattle.world_model.specs.World.{Field, Method, Class, World, declared_field, declared_method}
use Rattle.world_model.specs.Supertypes.{field_order, method_order}
use Rattle.world_model.specs.LookUp.{Found, found_or, first_declared, find_field, find_method}
use Rattle.link_laws.specs.Above.{has, is_there, IsAtOrAbove, IsSound}
use Rattle.link_laws.specs.FirstFound.{declared_in, IsFirstFound}
use Rattle.link_laws.proofs.Names.{has_head, has_tail, has_cases, has_right}
use Rattle.link_laws.proofs.Orders.{method_order_above, field_order_is_closure}

none_in : (name : List ℕ) → IsTrue (has [] name) → ⊥
none_in name h = absurd cc

first_by : {A : Type 0} (declared : Class → Option A) (world : World) (name : List ℕ) (names : List (List ℕ)) (found : Found A) (own : Option A) → declared_in declared world name ≡ own
    → found_or name own (first_declared declared world names) ≡ Some found
    → (first_declared declared world names ≡ Some found → IsFirstFound declared world names found) → IsFirstFound declared world (name ∷ names) found
first_by declared world name names found (Some member) is e rest =
    let same : record { class = name; member = member } ≡ found = cc in
    subst (λ (f : Found _). IsFirstFound declared world (name ∷ names) f) same
    (record { front = []; rest = names; are = refl; before = λ n h. absurd (none_in n h); declares = is })
first_by declared world name names found None is e rest =
    let more = rest e in
    record {
      front = name ∷ more.front;
      rest = more.rest;
      are = ap (λ (x : List (List ℕ)). name ∷ x) more.are;
      before = λ n h. elim (has_cases name n more.front h) [ inl same ↦ ap (declared_in declared world) same ∙ is | inr other ↦ more.before n other ];
      declares = more.declares;
    }

pub first_declared_is : {A : Type 0} (declared : Class → Option A) (world : World) (names : List (List ℕ)) (found : Found A) → first_declared declared world names ≡ Some found → IsFirstFound declared world names found
unfolding first_declared
first_declared_is declared world [] found e = absurd cc
first_declared_is declared world (name ∷ names) found e = first_by declared world name names found (declared_in declared world name) refl e (first_declared_is declared world names found)

past : {A : Type 0} (declared : Class → Option A) (world : World) (front rest : List (List ℕ)) → ((name : List ℕ) → IsTrue (has front name) → declared_in declared world name ≡ None)
    → first_declared declared world (front ++ rest) ≡ first_declared declared world rest
unfolding first_declared
past declared world [] rest before = refl
past declared world (name ∷ front) rest before =
    ap (λ (own : Option _). found_or name own (first_declared declared world (front ++ rest))) (before name (has_head name front)) ∙ past declared world front rest (λ n h. before n (has_tail name n front h))

here : {A : Type 0} (declared : Class → Option A) (world : World) (rest : List (List ℕ)) (found : Found A) → declared_in declared world found.class ≡ Some found.member → first_declared declared world (found.class ∷ rest) ≡ Some found
unfolding first_declared
here declared world rest found e = ap (λ (own : Option _). found_or found.class own (first_declared declared world rest)) e

pub is_first_declared : {A : Type 0} (declared : Class → Option A) (world : World) (names : List (List ℕ)) (found : Found A) → IsFirstFound declared world names found → first_declared declared world names ≡ Some found
is_first_declared declared world names found is =
    ap (first_declared declared world) is.are ∙ past declared world is.front (found.class ∷ is.rest) is.before ∙ here declared world is.rest found is.declares

none_by : {A : Type 0} (name : List ℕ) (own : Option A) (rest : Option (Found A)) → found_or name own rest ≡ None → (own ≡ None) × (rest ≡ None)
none_by name (Some member) rest e = absurd cc
none_by name None rest e = (refl, e)

pub none_declares : {A : Type 0} (declared : Class → Option A) (world : World) (names : List (List ℕ)) → first_declared declared world names ≡ None → (name : List ℕ) → IsTrue (has names name) → declared_in declared world name ≡ None
unfolding first_declared
none_declares declared world [] e n h = absurd (none_in n h)
none_declares declared world (name ∷ names) e n h =
    let parts = none_by name (declared_in declared world name) (first_declared declared world names) e in
    elim (has_cases name n names h) [ inl same ↦ ap (declared_in declared world) same ∙ parts.0 | inr other ↦ none_declares declared world names parts.1 n other ]

pub none_is_declared : {A : Type 0} (declared : Class → Option A) (world : World) (names : List (List ℕ)) → ((name : List ℕ) → IsTrue (has names name) → declared_in declared world name ≡ None) → first_declared declared world names ≡ None
unfolding first_declared
none_is_declared declared world [] all = refl
none_is_declared declared world (name ∷ names) all =
    ap (λ (own : Option _). found_or name own (first_declared declared world names)) (all name (has_head name names)) ∙ none_is_declared declared world names (λ n h. all n (has_tail name n names h))

-- ---- fields and methods

pub find_field_is_first : (world : World) (class name descriptor : List ℕ) (found : Found Field)
    → (find_field world class name descriptor ≡ Some found) ↔ IsFirstFound (declared_field name descriptor) world (field_order world class) found
find_field_is_first world class name descriptor found = (first_declared_is _ world _ found, is_first_declared _ world _ found)

pub find_method_is_first : (world : World) (class name descriptor : List ℕ) (found : Found Method)
    → (find_method world class name descriptor ≡ Some found) ↔ IsFirstFound (declared_method name descriptor) world (method_order world class) found
find_method_is_first world class name descriptor found = (first_declared_is _ world _ found, is_first_declared _ world _ found)

listed : {A : Type 0} (declared : Class → Option A) (world : World) (names : List (List ℕ)) (found : Found A) → IsFirstFound declared world names found → IsTrue (has names found.class)
listed declared world names found is = subst (λ (x : List (List ℕ)). IsTrue (has x found.class)) (sym is.are) (has_right is.front (found.class ∷ is.rest) found.class (has_head found.class is.rest))

-- What is found is declared by the class or by one above it.
pub method_found_above : (world : World) (class name descriptor : List ℕ) (found : Found Method) → find_method world class name descriptor ≡ Some found
    → IsAtOrAbove world class found.class × (declared_in (declared_method name descriptor) world found.class ≡ Some found.member)
method_found_above world class name descriptor found e =
    let is = (find_method_is_first world class name descriptor found).0 e in
    (method_order_above world class found.class (listed _ world _ found is), is.declares)

pub field_found_above : (world : World) (class name descriptor : List ℕ) (found : Found Field) → IsSound world → IsTrue (is_there world class) → find_field world class name descriptor ≡ Some found
    → IsAtOrAbove world class found.class × (declared_in (declared_field name descriptor) world found.class ≡ Some found.member)
field_found_above world class name descriptor found sound there e =
    let is = (find_field_is_first world class name descriptor found).0 e in
    ((field_order_is_closure world class found.class sound there).0 (listed _ world _ found is), is.declares)
