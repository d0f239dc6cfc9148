-- The first class that stands twice, as classes are looked at in order.
use Rattle.std.proofs.Common.{◌≡◌, ℕ, ◌+◌, ◌<◌, ◌≤◌, Bool, true, false, not, ◌&&◌, ◌||◌, List, [], ◌∷◌, ◌++◌, Option, Some, None, bytes_eq, length, map, get_or, drop, ap, sym, subst, ◌∙◌, refl, if◌then◌else◌}
use Rattle.std.proofs.lemmas.Bool.{or_parts}
use Rattle.std.proofs.lemmas.List.{at_drop_more, at_drop_all}
use Rattle.std.proofs.lemmas.List.Folds.{list_any-append}
use Rattle.jv_model.specs.Refusal.{Cause, twice}
use Rattle.world_model.specs.World.{Class}
use Rattle.link_model.specs.ClassFaults.{has_twice, has_member_twice, first_twice}
use Rattle.link_model.specs.WorldOf.{class_of, name_of}
use Rattle.jv_types.specs.Loaded.{loaded_of}
use Rattle.jv_types.specs.declared.loaded.Loaded.{Loaded}
use Rattle.jv_types.specs.ClassData.{pool_of}
use Rattle.class_names.specs.Distinct.{with_item}
use Rattle.class_world.specs.Signatures.{same_pair, member_pair}
use Rattle.class_world.specs.declared.class_info.Origin.TheVariants.{Program}
use Rattle.class_world.proofs.Filling.{members_stand_once}
use Rattle.link_laws.specs.Above.{has}

-- So far no class stands twice: these are the names, and what the rest has is what all have.
pub record NoneTwice (names : List (List ℕ)) (rest : List Class) (whole : Option Cause) : Type 0 where
  pub seen : List (List ℕ)
  pub same : (name : List ℕ) → has seen name ≡ has names name
  pub is : first_twice seen rest ≡ whole

pub none_yet : (names : List (List ℕ)) (classes : List Class) → names ≡ [] → NoneTwice names classes (first_twice [] classes)
none_yet names classes empty = record {
  seen = [];
  same = λ name. ap (λ (l : List (List ℕ)). has l name) (sym empty);
  is = refl;
}

or_swap : (a b : Bool) → (a || b) ≡ (b || (a || false))
or_swap true true = refl
or_swap true false = refl
or_swap false true = refl
or_swap false false = refl

first_is : (seen : List (List ℕ)) (class : Class) (rest : List Class) (test : Bool) → (has seen class.name || has_member_twice class) ≡ test
    → first_twice seen (class ∷ rest) ≡ (if test then Some (twice class.name) else first_twice (class.name ∷ seen) rest)
unfolding first_twice
first_is seen class rest test is = ap (λ b. if b then Some (twice class.name) else first_twice (class.name ∷ seen) rest) is

-- the class that is looked at next
module _ (names : List (List ℕ)) (classes : List Loaded) (i : ℕ) (next : Loaded) (whole : Option Cause)
    (inside : i < length classes) (is : next ≡ get_or classes i next) where
  abbrev class : Class
  class = class_of (loaded_of next)

  abbrev rest : List Class
  rest = map class_of (map loaded_of (drop (i + 1) classes))

  at_next : NoneTwice names (map class_of (map loaded_of (drop i classes))) whole → NoneTwice names (class ∷ rest) whole
  at_next so_far =
      subst (λ (l : List Class). NoneTwice names l whole)
      (at_drop_more (λ (l : List Loaded). map class_of (map loaded_of l)) classes i next inside
      ∙ ap (λ (l : Loaded). class_of (loaded_of l) ∷ rest) (sym is)) so_far

  -- it doesn't stand twice
  pub once_more : (more : List (List ℕ)) → (has names (name_of (loaded_of next)) || has_member_twice (class_of (loaded_of next))) ≡ false
      → more ≡ with_item bytes_eq names (name_of (loaded_of next)) → NoneTwice names (map class_of (map loaded_of (drop i classes))) whole
      → NoneTwice more (map class_of (map loaded_of (drop (i + 1) classes))) whole
  once_more more once adds before =
      let so_far = at_next before in
      let parts = or_parts (has names class.name) (has_member_twice class) once in
      let added : more ≡ names ++ class.name ∷ [] = adds ∙ ap (λ b. if b then names else names ++ class.name ∷ []) parts.0 in
      record {
        seen = class.name ∷ so_far.seen;
        same = λ name.
            ap (λ (b : Bool). bytes_eq name class.name || b) (so_far.same name)
            ∙ or_swap (bytes_eq name class.name) (has names name)
            ∙ sym (list_any-append (bytes_eq name) names (class.name ∷ []))
            ∙ ap (λ (l : List (List ℕ)). has l name) (sym added);
        is = sym (first_is so_far.seen class rest false (ap (λ (b : Bool). b || has_member_twice class) (so_far.same class.name) ∙ once)) ∙ so_far.is;
      }

  -- it's the first one that does
  pub twice_here : (has names (name_of (loaded_of next)) || has_member_twice (class_of (loaded_of next))) ≡ true
      → NoneTwice names (map class_of (map loaded_of (drop i classes))) whole → Some (twice (name_of (loaded_of next))) ≡ whole
  twice_here stands before =
      let so_far = at_next before in
      sym (first_is so_far.seen class rest true (ap (λ (b : Bool). b || has_member_twice class) (so_far.same class.name) ∙ stands)) ∙ so_far.is

-- no class stands twice
none_among : (names : List (List ℕ)) (whole : Option Cause) → NoneTwice names [] whole → None ≡ whole
unfolding first_twice
none_among names whole so_far = so_far.is

pub none_left : (names : List (List ℕ)) (classes : List Loaded) (i : ℕ) (whole : Option Cause) → length classes ≤ i
    → NoneTwice names (map class_of (map loaded_of (drop i classes))) whole → None ≡ whole
none_left names classes i whole end so_far =
    none_among names whole
    (subst (λ (l : List Class). NoneTwice names l whole) (at_drop_all (λ (l : List Loaded). map class_of (map loaded_of l)) classes i end) so_far)

-- ---- members

from_neither : (x a b : Bool) → not x ≡ (not a && not b) → (a || b) ≡ x
from_neither true true b same = refl
from_neither true false true same = refl
from_neither true false false same = absurd cc
from_neither false true b same = absurd cc
from_neither false false true same = absurd cc
from_neither false false false same = refl

-- members of a class stand twice where what they're called does
pub members_twice : (class : Loaded)
    → (has_twice same_pair (map (member_pair (pool_of class.file.pool.items)) class.file.fields.items)
    || has_twice same_pair (map (member_pair (pool_of class.file.pool.items)) class.file.methods.items))
    ≡ has_member_twice (class_of (loaded_of class))
members_twice class = from_neither _ _ _ (members_stand_once [] (Program class))
