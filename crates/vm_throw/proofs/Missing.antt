-- A class has the name that finds it, and no class is below one that isn't there.
use Rattle.std.proofs.Common.{◌≡◌, ℕ, ◌<◌, Bool, true, false, List, [], Option, Some, None, length, position, get_or, slice_get, bytes_eq, option_map, option_and_then, true≢false, refl, sym, ap, subst, ◌∙◌, arith, inl, inr}
use Rattle.std.specs.Prelude.{IsTrue, is_some}
use Rattle.std.specs.List.{list_any}
use Rattle.std.proofs.lemmas.List.{length-map}
use Rattle.jv_model.specs.Partial.{passes}
use Rattle.world_model.specs.World.{World, Class, class_in}
use Rattle.world_model.specs.Supertypes.{is_sub}
use Rattle.link_laws.specs.Above.{is_there, IsDirectly, IsAbove, directly, further, IsSound}
use Rattle.link_laws.proofs.Names.{text_same}
use Rattle.link_laws.proofs.Orders.{sub_is_above}
use Rattle.jv_types.specs.declared.number.ClassNo.{ClassNo}
use Rattle.class_world.specs.World.{names_of, number_of, name_at}
use Rattle.class_world.proofs.Places.{text_at_place, some-position, fails_inside}
use Rattle.class_world.proofs.Numbers.{class_in-position}

-- the class of a name has that name
pub named : (world : World) (name : List ℕ) (c : ClassNo) → number_of world name ≡ Some c → name_at world c ≡ name
named world name c e = from (position (bytes_eq name) (names_of world)) refl e
  where
    from : (found : Option ℕ) → position (bytes_eq name) (names_of world) ≡ found
        → option_map (λ n. let c : ClassNo = record { 0 = n } in c) found ≡ Some c → name_at world c ≡ name
    from None p e = absurd cc
    from (Some n) p e =
        let is : ClassNo = record { 0 = n } in
        let same : is ≡ c = cc in
        subst (λ (number : ClassNo). name_at world number ≡ name) same (sym (text_at_place (names_of world) name n p).1)

no_place : (world : World) (name : List ℕ) → number_of world name ≡ None
    → position (bytes_eq name) (names_of world) ≡ None
no_place world name e = from (position (bytes_eq name) (names_of world)) refl e
  where
    from : (found : Option ℕ) → position (bytes_eq name) (names_of world) ≡ found
        → option_map (λ n. let c : ClassNo = record { 0 = n } in c) found ≡ None
        → position (bytes_eq name) (names_of world) ≡ None
    from None p e = p
    from (Some n) p e = absurd cc

-- a way upwards ends with a step to what is above
last_step : (world : World) (below above : List ℕ) → IsAbove world below above
    → (between : List ℕ) × IsDirectly world between above
last_step world below above (directly _ _ step) = (below, step)
last_step world below above (further _ between _ step more) = last_step world between above more

pub absent_is_false : (world : World) (class : ClassNo) (name : List ℕ) → IsSound world
    → class.0 < length world.classes → number_of world name ≡ None → is_sub world (name_at world class) name ≡ false
absent_is_false world class name sound inside absent = by (is_sub world (name_at world class) name) refl
  where
    none : position (bytes_eq name) (names_of world) ≡ None
    none = no_place world name absent

    listed : list_any (bytes_eq name) (names_of world) ≡ false
    listed = sym (some-position (bytes_eq name) (names_of world)) ∙ ap is_some none

    other : bytes_eq name (name_at world class) ≡ false
    other = fails_inside (bytes_eq name) (names_of world) class.0 [] listed
        (omega (arith, inside, length-map world.classes (λ (c : Class). c.name)))

    gone : is_there world name ≡ false
    gone = ap (passes (λ (c : Class). true)) (class_in-position world name ∙ ap (option_and_then (slice_get world.classes)) none)

    by : (b : Bool) → is_sub world (name_at world class) name ≡ b → is_sub world (name_at world class) name ≡ false
    by false e = e
    by true e = elim (sub_is_above world (name_at world class) name e) [
      | inl same ↦ absurd (true≢false (sym (text_same name (name_at world class) same) ∙ other))
      | inr above ↦
          let last = last_step world (name_at world class) name above in
          absurd (true≢false (sym (sound.whole last.0 name last.1) ∙ gone))
    ]
