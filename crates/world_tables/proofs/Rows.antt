-- Rows for the classes of a world, one more.
use Rattle.std.proofs.Common.{◌≡◌, ℕ, ◌+◌, ◌<◌, List, [], ◌∷◌, ◌++◌, Option, Some, length, map, take, slice_get, option_map, ap, sym, ◌∙◌, refl}
use Rattle.std.proofs.lemmas.List.{map-append, take_more}
use Rattle.std.proofs.lemmas.Option.{slice_get_within, slice_get-map, get_or_from_slice_get}
use Rattle.world_model.specs.World.{World, Class}
use Rattle.world_model.specs.Supertypes.{chain}
use Rattle.jv_types.specs.declared.number.ClassNo.{ClassNo}
use Rattle.class_world.specs.World.{name_at, numbers_of, class_of_origin}
use Rattle.class_world.specs.declared.class_info.Origin.{Origin}
use Rattle.class_world.specs.declared.class_info.Origin.TheVariants.{Boot, Program}
use Rattle.class_world.proofs.Places.{stands_inside}
use Rattle.class_world.proofs.Numbers.{name_at_place}
use Rattle.class_members.specs.Members.{Kept, field_kept}
use Rattle.world_tables.specs.Tables.{chains_of, fields_in, fields_kept}

pub row_more : {R A : Type 0} (items : R → A) (rows : List R) (row : R) (all : List A) (i : ℕ)
    → map items rows ≡ take i all → slice_get all i ≡ Some (items row)
    → map items (rows ++ row ∷ []) ≡ take (i + 1) all
row_more items rows row all i so_far at =
    let inside = slice_get_within all i (items row) at in
    map-append items rows (row ∷ [])
    ∙ ap (λ l. l ++ items row ∷ []) so_far
    ∙ ap (λ a. take i all ++ a ∷ []) (sym (get_or_from_slice_get all i (items row) (items row) at))
    ∙ sym (take_more all i (items row) inside)

pub chain_at : (world : World) (k : ClassNo) → k.0 < length world.classes
    → slice_get (chains_of world) k.0 ≡ Some (numbers_of world (chain world (name_at world k)))
chain_at world k inside =
    let there = stands_inside world.classes k.0 inside in
    let of = λ (c : Class). numbers_of world (chain world c.name) in
    slice_get-map of world.classes k.0 ∙ ap (option_map of) there.1
    ∙ ap (λ (n : List ℕ). Some (numbers_of world (chain world n))) (sym (name_at_place world k.0 there.0 there.1))

-- what is kept of the fields of a class
pub fields_at : (world : World) (k : ℕ) (class : Class) (kept : List Kept) → slice_get world.classes k ≡ Some class
    → kept ≡ map field_kept class.fields → slice_get (fields_kept world) k ≡ Some kept
fields_at world k class kept at is =
    let of = λ (c : Class). map field_kept c.fields in
    slice_get-map of world.classes k ∙ ap (option_map of) at ∙ ap Some (sym is)

pub fields_are : (names : List (List ℕ)) (origin : Origin) → fields_in origin ≡ (class_of_origin names origin).fields
fields_are names (Boot class) = refl
fields_are names (Program loaded) = refl
