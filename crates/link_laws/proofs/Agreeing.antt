-- Orders and look-up depend on the class and those above it alone.
use Rattle.std.proofs.Common.{◌≡◌, ℕ, zero, suc, ◌+◌, ◌≤◌, true, List, [], ◌∷◌, length, Option, refl, sym, ap, ◌∙◌, arith, inl, inr}
use Rattle.std.specs.Prelude.{IsTrue, flat_map}
use Rattle.jv_model.specs.Partial.{passes}
use Rattle.world_model.specs.World.{Class, World, class_in, declared_field, declared_method}
use Rattle.world_model.specs.Supertypes.{superclass_of, interfaces_of, each_once, chain_within, interfaces_within, field_order_within, chain, field_order, method_order, is_sub}
use Rattle.world_model.specs.LookUp.{member_in, found_or, first_declared, find_field, find_method}
use Rattle.link_laws.specs.Above.{has, is_there, IsDirectly, IsSound}
use Rattle.link_laws.specs.FirstFound.{declared_in, AgreesAbove}
use Rattle.link_laws.proofs.Names.{has_head, has_tail, has_left, has_right, same_leads}
use Rattle.link_laws.proofs.Above.{directly_above}
use Rattle.link_laws.proofs.Fuel.{both, chain_fuel, field_order_fuel, method_order_fuel}
use Rattle.link_laws.proofs.Orders.{method_order_above, field_order_is_closure}

at_name : (world other : World) (name : List ℕ) → AgreesAbove world other name → class_in world name ≡ class_in other name
at_name world other name agree = agree.at name (inl refl)

upwards : (world other : World) (name between : List ℕ) → AgreesAbove world other name → IsDirectly world name between → AgreesAbove world other between
upwards world other name between agree step = record { at = λ n h. agree.at n (inr (directly_above world name between n step h)) }

same_superclass : (world other : World) (name : List ℕ) → AgreesAbove world other name → superclass_of world name ≡ superclass_of other name
same_superclass world other name agree = rw (at_name world other name agree) refl

same_own : (world other : World) (name : List ℕ) → AgreesAbove world other name → interfaces_of world name ≡ interfaces_of other name
same_own world other name agree = rw (at_name world other name agree) refl

by_superclass : (world other : World) (name : List ℕ) → AgreesAbove world other name → (lead lead' : List ℕ → List (List ℕ)) → ((n : List ℕ) → AgreesAbove world other n → lead n ≡ lead' n)
    → flat_map lead (superclass_of world name) ≡ flat_map lead' (superclass_of other name)
by_superclass world other name agree lead lead' same =
    same_leads lead lead' (superclass_of world name) (λ n h. same n (upwards world other name n agree (has_left (superclass_of world name) (interfaces_of world name) n h)))
    ∙ ap (flat_map lead') (same_superclass world other name agree)

by_own : (world other : World) (name : List ℕ) → AgreesAbove world other name → (lead lead' : List ℕ → List (List ℕ)) → ((n : List ℕ) → AgreesAbove world other n → lead n ≡ lead' n)
    → flat_map lead (interfaces_of world name) ≡ flat_map lead' (interfaces_of other name)
by_own world other name agree lead lead' same =
    same_leads lead lead' (interfaces_of world name) (λ n h. same n (upwards world other name n agree (has_right (superclass_of world name) (interfaces_of world name) n h)))
    ∙ ap (flat_map lead') (same_own world other name agree)

chains_agree : (most : ℕ) (world other : World) (name : List ℕ) → AgreesAbove world other name → chain_within most world name ≡ chain_within most other name
unfolding chain_within
chains_agree zero world other name agree = refl
chains_agree (suc most) world other name agree = ap (λ (x : List (List ℕ)). name ∷ x)
    (by_superclass world other name agree (chain_within most world) (chain_within most other) (chains_agree most world other))

interfaces_agree : (most : ℕ) (world other : World) (name : List ℕ) → AgreesAbove world other name → interfaces_within most world name ≡ interfaces_within most other name
unfolding interfaces_within
interfaces_agree zero world other name agree = refl
interfaces_agree (suc most) world other name agree = both _ _ _ _
    (by_own world other name agree (λ i. i ∷ interfaces_within most world i) (λ i. i ∷ interfaces_within most other i) (λ n h. ap (λ (x : List (List ℕ)). n ∷ x) (interfaces_agree most world other n h)))
    (by_superclass world other name agree (interfaces_within most world) (interfaces_within most other) (interfaces_agree most world other))

field_orders_agree : (most : ℕ) (world other : World) (name : List ℕ) → AgreesAbove world other name → field_order_within most world name ≡ field_order_within most other name
unfolding field_order_within
field_orders_agree zero world other name agree = refl
field_orders_agree (suc most) world other name agree = ap (λ (x : List (List ℕ)). name ∷ x) (both _ _ _ _
    (by_own world other name agree (field_order_within most world) (field_order_within most other) (field_orders_agree most world other))
    (by_superclass world other name agree (field_order_within most world) (field_order_within most other) (field_orders_agree most world other)))

first_agrees : {A : Type 0} (declared : Class → Option A) (world other : World) (names : List (List ℕ)) → ((n : List ℕ) → IsTrue (has names n) → class_in world n ≡ class_in other n)
    → first_declared declared world names ≡ first_declared declared other names
unfolding first_declared
first_agrees declared world other [] agree = refl
first_agrees declared world other (name ∷ names) agree =
    ap (λ (c : Option Class). found_or name (member_in declared c) (first_declared declared world names)) (agree name (has_head name names))
    ∙ ap (found_or name (declared_in declared other name)) (first_agrees declared world other names (λ n h. agree n (has_tail name n names h)))

-- ---- of sound worlds

pub record AreAlike (world other : World) (name : List ℕ) : Type 0 where
  pub sound : IsSound world
  pub other_sound : IsSound other
  pub there : IsTrue (is_there world name)
  pub agree : AgreesAbove world other name

there_too : (world other : World) (name : List ℕ) → AreAlike world other name → IsTrue (is_there other name)
there_too world other name are = ap (passes (λ (c : Class). true)) (sym (at_name world other name are.agree)) ∙ are.there

fuel : World → World → ℕ
fuel world other = length world.classes + length other.classes

enough : (world other : World) → length world.classes ≤ fuel world other
unfolding fuel
enough world other = omega arith

enough_too : (world other : World) → length other.classes ≤ fuel world other
unfolding fuel
enough_too world other = omega arith

pub chain_agrees : (world other : World) (name : List ℕ) → AreAlike world other name → chain world name ≡ chain other name
chain_agrees world other name are =
    sym (chain_fuel (fuel world other) world name are.sound are.there (enough world other))
    ∙ chains_agree (fuel world other) world other name are.agree
    ∙ chain_fuel (fuel world other) other name are.other_sound (there_too world other name are) (enough_too world other)

pub field_order_agrees : (world other : World) (name : List ℕ) → AreAlike world other name → field_order world name ≡ field_order other name
field_order_agrees world other name are =
    sym (field_order_fuel (fuel world other) world name are.sound are.there (enough world other))
    ∙ ap (each_once []) (field_orders_agree (fuel world other) world other name are.agree)
    ∙ field_order_fuel (fuel world other) other name are.other_sound (there_too world other name are) (enough_too world other)

pub method_order_agrees : (world other : World) (name : List ℕ) → AreAlike world other name → method_order world name ≡ method_order other name
method_order_agrees world other name are =
    sym (method_order_fuel (fuel world other) world name are.sound are.there (enough world other))
    ∙ ap (each_once []) (both _ _ _ _ (chains_agree (fuel world other) world other name are.agree) (interfaces_agree (fuel world other) world other name are.agree))
    ∙ method_order_fuel (fuel world other) other name are.other_sound (there_too world other name are) (enough_too world other)

pub is_sub_agrees : (world other : World) (below above : List ℕ) → AreAlike world other below → is_sub world below above ≡ is_sub other below above
is_sub_agrees world other below above are = ap (λ (x : List (List ℕ)). has x above) (field_order_agrees world other below are)

-- Two sound worlds that agree on a class and on what is above it find the same fields and methods from it.
pub find_field_agrees : (world other : World) (class name descriptor : List ℕ) → AreAlike world other class → find_field world class name descriptor ≡ find_field other class name descriptor
find_field_agrees world other class name descriptor are =
    first_agrees (declared_field name descriptor) world other (field_order world class) (λ n h. are.agree.at n ((field_order_is_closure world class n are.sound are.there).0 h))
    ∙ ap (first_declared (declared_field name descriptor) other) (field_order_agrees world other class are)

pub find_method_agrees : (world other : World) (class name descriptor : List ℕ) → AreAlike world other class → find_method world class name descriptor ≡ find_method other class name descriptor
find_method_agrees world other class name descriptor are =
    first_agrees (declared_method name descriptor) world other (method_order world class) (λ n h. are.agree.at n (method_order_above world class n h))
    ∙ ap (first_declared (declared_method name descriptor) other) (method_order_agrees world other class are)
