-- Places at which instructions stand, and the first fault in a list.
use Rattle.std.proofs.Common.{◌≡◌, ℕ, suc, ◌+◌, ◌≤◌, Bool, true, false, cond, ◌||◌, List, [], ◌∷◌, length, drop, Option, Some, None, position, refl, ap, ◌∙◌, arith, drop-cons}
use Rattle.std.specs.Prelude.{is_some}
use Rattle.std.specs.List.{list_any, position_from, slice_get}
use Rattle.std.proofs.lemmas.Iterator.Adapters.{position_from-zero}
use Rattle.std.proofs.lemmas.Option.{slice_get_within, get_or_from_slice_get}
use Rattle.std.proofs.Math.ListN.{drop_of_length-le}
use Rattle.jv_model.specs.ClassData.{Const}
use Rattle.jv_model.specs.Refusal.{wrong_target, wrong_handler}
use Rattle.jv_model.specs.Code.{Placed, Handler}
use Rattle.code_model.specs.CodePlaces.{is_led, target_fault, is_handler, handler_fault}

-- ---- an instruction at a place

any_cases : (b : Bool) (index : ℕ) (left : Option ℕ) (others : Bool) → is_some left ≡ others
    → is_some (cond b (Some index) left) ≡ (b || others)
any_cases true index left others is = refl
any_cases false index left others is = is

from_is_any : {A : Type 0} (p : A → Bool) (index : ℕ) (xs : List A)
    → is_some (position_from p index xs) ≡ list_any p xs
from_is_any p index [] = refl
from_is_any p index (x ∷ xs) =
    any_cases (p x) index (position_from p (index + 1) xs) (list_any p xs)
    (from_is_any p (index + 1) xs)

pub position_is_any : {A : Type 0} (p : A → Bool) (xs : List A)
    → is_some (position p xs) ≡ list_any p xs
position_is_any p xs = ap is_some (position_from-zero p xs) ∙ from_is_any p 0 xs

-- ---- an item at a number

pub drop_item : {A : Type 0} (xs : List A) (i : ℕ) (x : A) → slice_get xs i ≡ Some x
    → drop i xs ≡ x ∷ drop (i + 1) xs
drop_item xs i x is =
    let within = slice_get_within xs i x is in
    let next : suc i ≡ i + 1 = omega arith in
    drop-cons xs i x within
    ∙ ap (λ y. y ∷ drop (suc i) xs) (get_or_from_slice_get xs i x x is)
    ∙ ap (λ n. x ∷ drop n xs) next

-- ---- the first fault

pub target_here : (method : ℕ) (all : List (Placed ℕ)) (i : ℕ) (placed : Placed ℕ)
    → slice_get all i ≡ Some placed → is_led all placed ≡ false
    → target_fault method all (drop i all) ≡ Some (wrong_target method placed.pc)
unfolding target_fault
target_here method all i placed is wrong = rw (drop_item all i placed is, wrong) refl

pub target_later : (method : ℕ) (all : List (Placed ℕ)) (i : ℕ) (placed : Placed ℕ)
    → slice_get all i ≡ Some placed → is_led all placed ≡ true
    → target_fault method all (drop i all) ≡ target_fault method all (drop (i + 1) all)
unfolding target_fault
target_later method all i placed is right = rw (drop_item all i placed is, right) refl

pub no_target : (method : ℕ) (all : List (Placed ℕ)) (i : ℕ) → length all ≤ i
    → target_fault method all (drop i all) ≡ None
unfolding target_fault
no_target method all i end = rw (drop_of_length-le all end) refl

module _ (pool : List Const) (method end : ℕ) (all : List (Placed ℕ)) (rows : List (Handler ℕ))
    (i : ℕ) where
  pub handler_here : (row : Handler ℕ) → slice_get rows i ≡ Some row
      → is_handler pool end all row ≡ false
      → handler_fault pool method end all i (drop i rows) ≡ Some (wrong_handler method i)
  unfolding handler_fault
  handler_here row is wrong = rw (drop_item rows i row is, wrong) refl

  pub handler_later : (row : Handler ℕ) → slice_get rows i ≡ Some row
      → is_handler pool end all row ≡ true
      → handler_fault pool method end all i (drop i rows)
      ≡ handler_fault pool method end all (i + 1) (drop (i + 1) rows)
  unfolding handler_fault
  handler_later row is right = rw (drop_item rows i row is, right) refl

  pub no_handler : length rows ≤ i → handler_fault pool method end all i (drop i rows) ≡ None
  unfolding handler_fault
  no_handler past = rw (drop_of_length-le rows past) refl
