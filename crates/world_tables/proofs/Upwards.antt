-- A walk from superclass to superclass meets the numbers of a chain.
use Rattle.std.proofs.Common.{◌≡◌, ℕ, zero, suc, ◌+◌, ◌-◌, ◌<◌, List, [], ◌∷◌, ◌++◌, Option, Some, None, length, map, position, slice_get, get_or, bytes_eq, option_map, option_and_then, option_to_list, flat_map, ap, sym, subst, ◌∙◌, refl, append_assoc, arith}
use Rattle.std.specs.List.{cons_option, IsDistinct}
use Rattle.std.proofs.lemmas.List.{length-map, append-nil}
use Rattle.world_model.specs.World.{World, Class, class_in}
use Rattle.world_model.specs.Supertypes.{superclass_of, chain_within}
use Rattle.jv_types.specs.declared.number.ClassNo.{ClassNo}
use Rattle.class_world.specs.World.{names_of, name_at, number_of, numbers_of}
use Rattle.class_world.proofs.Places.{stands_inside, text_at_place}
use Rattle.class_world.proofs.Numbers.{number, name_of, class_in-position}
use Rattle.class_world.proofs.Upwards.{own_place}

-- the number of the superclass of a class, where it is there
abbrev pub superclass_at : World → ClassNo → Option ClassNo
superclass_at world k =
    option_and_then (λ (c : Class). option_and_then (number_of world) c.superclass) (slice_get world.classes k.0)

-- the numbers from one upwards, at most so many
unfoldable pub upwards : World → ℕ → Option ClassNo → List ClassNo
upwards world zero next = []
upwards world (suc most) None = []
upwards world (suc most) (Some k) = k ∷ upwards world most (superclass_at world k)

pub upwards-none : (world : World) (most : ℕ) → upwards world most None ≡ []
unfolding upwards
upwards-none world zero = refl
upwards-none world (suc most) = refl

pub upwards-zero : (world : World) (next : Option ClassNo) → upwards world 0 next ≡ []
unfolding upwards
upwards-zero world next = refl

pub upwards-some : (world : World) (most : ℕ) (k : ClassNo)
    → upwards world (suc most) (Some k) ≡ k ∷ upwards world most (superclass_at world k)
unfolding upwards
upwards-some world most k = refl

-- where one goes on inside the world
abbrev pub IsInside : World → Option ClassNo → Type 0
IsInside world None = Unit {0}
IsInside world (Some k) = k.0 < length world.classes

pub number_inside : (world : World) (name : List ℕ) → IsInside world (number_of world name)
number_inside world name = by (position (bytes_eq name) (names_of world)) refl
  where
    by : (o : Option ℕ) → position (bytes_eq name) (names_of world) ≡ o
        → IsInside world (option_map number (position (bytes_eq name) (names_of world)))
    by None is = subst (λ (o : Option ℕ). IsInside world (option_map number o)) (sym is) tt
    by (Some k) is =
        let at = text_at_place (names_of world) name k is in
        let inside : k < length world.classes = omega (arith, at.0, length-map world.classes name_of) in
        subst (λ (o : Option ℕ). IsInside world (option_map number o)) (sym is) inside

pub superclass_inside : (world : World) (k : ClassNo) → IsInside world (superclass_at world k)
superclass_inside world k = by (slice_get world.classes k.0)
  where
    of : (o : Option (List ℕ)) → IsInside world (option_and_then (number_of world) o)
    of None = tt
    of (Some name) = number_inside world name

    by : (o : Option Class) → IsInside world (option_and_then (λ (c : Class). option_and_then (number_of world) c.superclass) o)
    by None = tt
    by (Some class) = of class.superclass

module _ (world : World) (distinct : IsDistinct bytes_eq (names_of world)) where
  count : (k : ℕ) → k < length world.classes → k < length (names_of world)
  count k inside = omega (arith, inside, length-map world.classes name_of)

  -- the class of a number has its name
  class_at : (k : ClassNo) (class : Class) → slice_get world.classes k.0 ≡ Some class → k.0 < length world.classes
      → class_in world (name_at world k) ≡ Some class
  class_at k class at inside =
      class_in-position world (name_at world k)
      ∙ ap (option_and_then (slice_get world.classes)) (own_place (names_of world) distinct k.0 (count k.0 inside)) ∙ at

  own_number : (k : ClassNo) → k.0 < length world.classes → number_of world (name_at world k) ≡ Some k
  own_number k inside = ap (option_map number) (own_place (names_of world) distinct k.0 (count k.0 inside))

  missing : (name : List ℕ) → position (bytes_eq name) (names_of world) ≡ None → (most : ℕ)
      → numbers_of world (chain_within most world name) ≡ []
  unfolding chain_within
  missing name none zero = refl
  missing name none (suc most) =
      let absent : class_in world name ≡ None = class_in-position world name ∙ ap (option_and_then (slice_get world.classes)) none in
      ap (λ (o : Option ℕ). cons_option (option_map number o) (numbers_of world (flat_map (chain_within most world) (superclass_of world name)))) none
      ∙ ap (λ (o : Option Class). numbers_of world (flat_map (chain_within most world) (flat_map (λ (c : Class). option_to_list c.superclass) (option_to_list o)))) absent

  abbrev Agrees : ℕ → Type 0
  Agrees most = (k : ClassNo) → k.0 < length world.classes
      → upwards world most (Some k) ≡ numbers_of world (chain_within most world (name_at world k))

  pub chain-upwards : (most : ℕ) (k : ClassNo) → k.0 < length world.classes
      → upwards world most (Some k) ≡ numbers_of world (chain_within most world (name_at world k))
  unfolding chain_within upwards
  chain-upwards zero k inside = refl
  chain-upwards (suc most) k inside =
      let there = stands_inside world.classes k.0 inside in
      let class = there.0 in
      ap (λ (rest : List ClassNo). k ∷ rest)
      (ap (λ (o : Option Class). upwards world most (option_and_then (λ (c : Class). option_and_then (number_of world) c.superclass) o)) there.1
      ∙ above (λ j j_inside. chain-upwards most j j_inside) class.superclass
      ∙ sym (ap (λ (o : Option Class). numbers_of world (flat_map (chain_within most world) (flat_map (λ (c : Class). option_to_list c.superclass) (option_to_list o))))
      (class_at k class there.1 inside)))
      ∙ sym (ap (λ (o : Option ClassNo). cons_option o (numbers_of world (flat_map (chain_within most world) (superclass_of world (name_at world k))))) (own_number k inside))
    where
      step : Agrees most → (name : List ℕ) (place : Option ℕ) → position (bytes_eq name) (names_of world) ≡ place
          → upwards world most (option_map number (position (bytes_eq name) (names_of world)))
          ≡ numbers_of world (chain_within most world name)
      step before name None none =
          ap (λ (o : Option ℕ). upwards world most (option_map number o)) none ∙ upwards-none world most
          ∙ sym (missing name none most)
      step before name (Some j) found =
          let at = text_at_place (names_of world) name j found in
          let j_inside : j < length world.classes = omega (arith, at.0, length-map world.classes name_of) in
          ap (λ (o : Option ℕ). upwards world most (option_map number o)) found
          ∙ before (number j) j_inside
          ∙ ap (λ (n : List ℕ). numbers_of world (chain_within most world n)) (sym at.1)

      above : Agrees most → (superclass : Option (List ℕ))
          → upwards world most (option_and_then (number_of world) superclass)
          ≡ numbers_of world (flat_map (chain_within most world) (option_to_list superclass ++ []))
      above before None = upwards-none world most
      above before (Some name) =
          step before name (position (bytes_eq name) (names_of world)) refl
          ∙ ap (numbers_of world) (sym (append-nil (chain_within most world name)))

-- ---- the walk

pub superclass_told : (world : World) (k : ClassNo) (class : Class) (next : Option ClassNo)
    → slice_get world.classes k.0 ≡ Some class → next ≡ option_and_then (number_of world) class.superclass
    → next ≡ superclass_at world k
superclass_told world k class next at is =
    is ∙ sym (ap (option_and_then (λ (c : Class). option_and_then (number_of world) c.superclass)) at)

pub walk_more : (world : World) (i : ℕ) (k : ClassNo) (order all : List ClassNo) (here next : Option ClassNo)
    → i < length world.classes → here ≡ Some k → next ≡ superclass_at world k
    → order ++ upwards world (length world.classes - i) here ≡ all
    → (order ++ k ∷ []) ++ upwards world (length world.classes - (i + 1)) next ≡ all
walk_more world i k order all here next inside is_here is_next walked =
    let left = length world.classes - (i + 1) in
    let one : length world.classes - i ≡ suc left = omega arith in
    append_assoc order (k ∷ []) (upwards world left next)
    ∙ ap (λ (n : Option ClassNo). order ++ k ∷ upwards world left n) is_next
    ∙ ap (λ (l : List ClassNo). order ++ l) (sym (upwards-some world left k))
    ∙ ap (λ (n : ℕ). order ++ upwards world n (Some k)) (sym one)
    ∙ ap (λ (n : Option ClassNo). order ++ upwards world (length world.classes - i) n) (sym is_here)
    ∙ walked

pub walk_ends : (order all : List ClassNo) (rest : List ClassNo) → rest ≡ [] → order ++ rest ≡ all → order ≡ all
walk_ends order all rest none walked =
    sym (append-nil order) ∙ ap (λ (r : List ClassNo). order ++ r) (sym none) ∙ walked
