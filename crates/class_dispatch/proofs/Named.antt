-- The rows and the chains of a world.
use Rattle.std.proofs.Common.{◌≡◌, ℕ, ◌<◌, Bool, true, ◌&&◌, List, [], ◌∷◌, Option, Some, None, length, map, slice_get, is_some, option_map, option_and_then, ap, sym, ◌∙◌, refl, arith}
use Rattle.std.specs.List.{list_all}
use Rattle.std.proofs.lemmas.List.{length-map}
use Rattle.std.proofs.lemmas.List.Folds.{list_all-map}
use Rattle.std.proofs.lemmas.Option.{slice_get-map}
use Rattle.jv_types.specs.Sequence.{Sequence}
use Rattle.jv_types.specs.declared.number.ClassNo.{ClassNo}
use Rattle.world_model.specs.World.{World, Class, Method}
use Rattle.world_model.specs.LookUp.{Found}
use Rattle.world_model.specs.Supertypes.{chain}
use Rattle.class_world.specs.World.{numbers_of, method_signature}
use Rattle.class_world.specs.Signatures.{Pair}
use Rattle.class_world.proofs.Places.{stands_inside}
use Rattle.class_world.proofs.LookUps.{numbers_inside}
use Rattle.world_tables.specs.Tables.{chains_of}
use Rattle.class_methods.specs.Signatures.{Numbers, signature_at, AreSignatures}
use Rattle.class_dispatch.specs.Rows.{is_selectable, selectable_in}
use Rattle.class_dispatch.specs.Tables.{place, row_in, HaveSignatures, is_inside, are_inside}

some_of : (f : ℕ → Option Pair) (o : Option ℕ) (called : Option Pair) → option_map f o ≡ option_map (λ (p : Pair). Some p) called
    → is_some called ≡ true → is_some o ≡ true
some_of f None None is some = some
some_of f None (Some p) is some = absurd cc
some_of f (Some n) called is some = refl

called_some : (index : ℕ) (row : Option (Sequence Bool)) (class : Option Class)
    → option_map (λ (r : Sequence Bool). r.items) row ≡ option_map (λ (c : Class). map is_selectable c.methods) class
    → index < length (row_in row)
    → is_some (option_map (λ (f : Found Method). method_signature f.member)
    (option_and_then (λ (c : Class). option_map (λ (m : Method). record { class = c.name; member = m }) (slice_get c.methods index)) class)) ≡ true
called_some index None class is inside = absurd (omega arith)
called_some index (Some r) None is inside = absurd cc
called_some index (Some r) (Some c) is inside =
    let same : r.items ≡ map is_selectable c.methods = cc in
    let here : index < length c.methods = omega (arith, inside, ap (λ (l : List Bool). length l) same, length-map c.methods is_selectable) in
    ap (λ (o : Option Method). is_some (option_map (λ (f : Found Method). method_signature f.member)
    (option_map (λ (m : Method). record { class = c.name; member = m }) o))) (stands_inside c.methods index here).1

module _ (world : World) (rows : List (Sequence Bool)) (are : map (λ (r : Sequence Bool). r.items) rows ≡ selectable_in world) where
  pub have_signatures : (signatures : Numbers) → AreSignatures world signatures → HaveSignatures signatures rows
  have_signatures signatures is class index inside =
      some_of (slice_get is.pairs) (signature_at signatures (place class index)) _ (is.each_method (place class index))
      (called_some index (slice_get rows class.0) (slice_get world.classes class.0)
      (sym (slice_get-map (λ (r : Sequence Bool). r.items) rows class.0)
      ∙ ap (λ (l : List (List Bool)). slice_get l class.0) are
      ∙ slice_get-map (λ (c : Class). map is_selectable c.methods) world.classes class.0) inside)

  length_rows : length rows ≡ length world.classes
  length_rows =
      sym (length-map rows (λ (r : Sequence Bool). r.items)) ∙ ap (λ (l : List (List Bool)). length l) are
      ∙ length-map world.classes (λ (c : Class). map is_selectable c.methods)

  inside_all : (classes : List Class)
      → list_all (λ (c : Class). is_inside (length rows) (numbers_of world (chain world c.name))) classes ≡ true
  inside_all [] = refl
  inside_all (class ∷ classes) =
      let here : is_inside (length rows) (numbers_of world (chain world class.name)) ≡ true =
      ap (λ (n : ℕ). is_inside n (numbers_of world (chain world class.name))) length_rows ∙ numbers_inside world (chain world class.name) in
      λ i. here i && inside_all classes i

  pub chains_inside : (chains : List (Sequence ClassNo)) → map (λ (c : Sequence ClassNo). c.items) chains ≡ chains_of world
      → are_inside (length rows) chains ≡ true
  chains_inside chains walked =
      sym (list_all-map (is_inside (length rows)) (λ (c : Sequence ClassNo). c.items) chains)
      ∙ ap (list_all (is_inside (length rows))) walked
      ∙ list_all-map (is_inside (length rows)) (λ (c : Class). numbers_of world (chain world c.name)) world.classes
      ∙ inside_all world.classes
