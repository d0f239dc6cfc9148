-- Layouts by number are those of the definitions.
use Rattle.std.proofs.Common.{◌≡◌, ℕ, suc, ◌+◌, ◌<◌, Bool, true, false, List, [], ◌∷◌, ◌++◌, ◌&&◌, Option, Some, None, length, map, filter, reverse, position, slice_get, bytes_eq, option_map, option_and_then, option_to_list, if◌then◌else◌, ap, sym, subst, ◌∙◌, refl, append_assoc, arith}
use Rattle.std.specs.List.{flat_map, cons_option, list_all}
use Rattle.std.specs.Bool.{beq}
use Rattle.std.proofs.lemmas.List.{append-nil, length-append, length-map, map-append, reverse-append}
use Rattle.std.proofs.lemmas.List.Elements.{filter_map-append}
use Rattle.std.proofs.lemmas.List.Concat.{flat_map-append}
use Rattle.std.proofs.lemmas.List.Folds.{list_all-map}
use Rattle.std.proofs.lemmas.Simd.{map-map}
use Rattle.std.proofs.lemmas.Option.{slice_get-map}
use Rattle.jv_types.specs.Sequence.{Sequence}
use Rattle.jv_types.specs.declared.number.ClassNo.{ClassNo}
use Rattle.jv_model.specs.Operand.{MemberReference}
use Rattle.world_model.specs.World.{World, Class, Field, class_in, is_static_field}
use Rattle.world_model.specs.Supertypes.{chain}
use Rattle.world_model.specs.Members.{field_of}
use Rattle.world_model.specs.LookUp.{Found}
use Rattle.world_model.specs.Layout.{declared, layout}
use Rattle.class_world.specs.World.{names_of, numbers_of, number_of, field_at}
use Rattle.class_world.specs.declared.class_info.FieldPlace.{FieldPlace}
use Rattle.class_world.proofs.Numbers.{number, class_in-position}
use Rattle.class_world.proofs.LookUps.{numbers_inside}
use Rattle.class_members.specs.Members.{Kept, kept_of, field_kept, cell_of}
use Rattle.class_members.specs.declared.field.FieldRow.{FieldRow}
use Rattle.heap_face.specs.declared.layout.Cell.{Cell}
use Rattle.world_tables.specs.Tables.{chains_of, fields_kept}
use Rattle.class_layouts.specs.ByNumber.{own_fields, own_cells, rows_in, rows_at, is_inside, are_inside, all_fields, all_cells}
use Rattle.class_layouts.specs.Layouts.{field_found, member_at, cell_of_member}

-- ---- the fields of one class

slice_get-front : {A : Type 0} (front rest : List A) (a : A) → slice_get (front ++ a ∷ rest) (length front) ≡ Some a
slice_get-front [] rest a = refl
slice_get-front (x ∷ front) rest a = slice_get-front front rest a

module _ (world : World) (k : ClassNo) (class : Class) (at : slice_get world.classes k.0 ≡ Some class) where
  abbrev of_fields : Option (List Field) → ℕ → Option MemberReference
  of_fields None i = None
  of_fields (Some fields) i =
      option_map field_found (option_map (λ (f : Field). record { class = class.name; member = f }) (slice_get fields i))

  member_here : (i : ℕ) (f : Field) → slice_get class.fields i ≡ Some f
      → member_at world (record { class = k; index = i }) ≡ Some (field_of class f)
  member_here i f there =
      ap (λ (o : Option Class). option_map field_found (option_and_then (λ (c : Class). option_map (λ (f : Field). record { class = c.name; member = f }) (slice_get c.fields i)) o)) at
      ∙ ap (λ (o : Option Field). option_map field_found (option_map (λ (f : Field). record { class = class.name; member = f }) o)) there

  abbrev not_static : List Field → List Field
  not_static fields = filter (λ f. beq (is_static_field f) false) fields

  abbrev if_own : Bool → MemberReference → List MemberReference → List MemberReference
  if_own b field rest = if b then rest else field ∷ rest

  static_filter : (f : Field) (fields : List Field) (b : Bool) → b ≡ is_static_field f
      → map (field_of class) (not_static (f ∷ fields)) ≡ if_own b (field_of class f) (map (field_of class) (not_static fields))
  static_filter f fields true is =
      ap (λ (b : Bool). map (field_of class) (if beq b false then f ∷ not_static fields else not_static fields)) (sym is)
  static_filter f fields false is =
      ap (λ (b : Bool). map (field_of class) (if beq b false then f ∷ not_static fields else not_static fields)) (sym is)

  own-members : (own : List FieldRow) (front rest : List Field) → class.fields ≡ front ++ rest
      → map kept_of own ≡ map field_kept rest
      → map (member_at world) (own_fields k (length front) own) ≡ map Some (map (field_of class) (not_static rest))
  own-members [] front [] split same = refl
  own-members [] front (f ∷ rest) split same = absurd cc
  own-members (row ∷ own) front [] split same = absurd cc
  own-members (row ∷ own) front (f ∷ rest) split same =
      let first : kept_of row ≡ field_kept f = cc in
      let others : map kept_of own ≡ map field_kept rest = cc in
      let longer : length (front ++ f ∷ []) ≡ length front + 1 = simp length-append refl in
      let again = own-members own (front ++ f ∷ []) rest (split ∙ sym (append_assoc front (f ∷ []) rest)) others in
      let there = member_here (length front) f (ap (λ (l : List Field). slice_get l (length front)) split ∙ slice_get-front front rest f) in
      let rest_is : map (member_at world) (own_fields k (length front + 1) own) ≡ map Some (map (field_of class) (not_static rest)) =
      ap (λ (n : ℕ). map (member_at world) (own_fields k n own)) (sym longer) ∙ again in
      by row.is_static (ap (λ (kept : Kept). kept.is_static) first) there rest_is
    where
      by : (b : Bool) → b ≡ is_static_field f
          → member_at world (record { class = k; index = length front }) ≡ Some (field_of class f)
          → map (member_at world) (own_fields k (length front + 1) own) ≡ map Some (map (field_of class) (not_static rest))
          → map (member_at world) (if b then own_fields k (length front + 1) own else record { class = k; index = length front } ∷ own_fields k (length front + 1) own)
          ≡ map Some (map (field_of class) (not_static (f ∷ rest)))
      by true is there rest_is = rest_is ∙ sym (ap (map Some) (static_filter f rest true is))
      by false is there rest_is =
          (λ i. there i ∷ rest_is i) ∙ sym (ap (map Some) (static_filter f rest false is))

  own-cells : (own : List FieldRow) (rest : List Field) → map kept_of own ≡ map field_kept rest
      → own_cells own ≡ map cell_of_member (map (field_of class) (not_static rest))
  own-cells [] [] same = refl
  own-cells [] (f ∷ rest) same = absurd cc
  own-cells (row ∷ own) [] same = absurd cc
  own-cells (row ∷ own) (f ∷ rest) same =
      let first : kept_of row ≡ field_kept f = cc in
      let others : map kept_of own ≡ map field_kept rest = cc in
      by row.is_static (ap (λ (kept : Kept). kept.is_static) first) (ap (λ (kept : Kept). kept.cell) first) (own-cells own rest others)
    where
      by : (b : Bool) → b ≡ is_static_field f → row.cell ≡ cell_of f.descriptor
          → own_cells own ≡ map cell_of_member (map (field_of class) (not_static rest))
          → (if b then own_cells own else row.cell ∷ own_cells own)
          ≡ map cell_of_member (map (field_of class) (not_static (f ∷ rest)))
      by true is cell rest_is = rest_is ∙ sym (ap (map cell_of_member) (static_filter f rest true is))
      by false is cell rest_is =
          (λ i. cell i ∷ rest_is i) ∙ sym (ap (map cell_of_member) (static_filter f rest false is))

-- ---- the fields of classes, one after the other

abbrev class_at : World → ClassNo → List Class
class_at world k = option_to_list (slice_get world.classes k.0)

module _ (world : World) (rows : List (Sequence FieldRow)) (are : map (λ (r : Sequence FieldRow). map kept_of r.items) rows ≡ fields_kept world) where
  abbrev kept_in : Option (Sequence FieldRow) → Option (List Kept)
  kept_in row = option_map (λ (r : Sequence FieldRow). map kept_of r.items) row

  kept_at : (k : ClassNo) → kept_in (slice_get rows k.0) ≡ option_map (λ (c : Class). map field_kept c.fields) (slice_get world.classes k.0)
  kept_at k =
      sym (slice_get-map (λ (r : Sequence FieldRow). map kept_of r.items) rows k.0)
      ∙ ap (λ (l : List (List Kept)). slice_get l k.0) are
      ∙ slice_get-map (λ (c : Class). map field_kept c.fields) world.classes k.0

  one-members : (k : ClassNo) (row : Option (Sequence FieldRow)) (class : Option Class) → slice_get world.classes k.0 ≡ class
      → kept_in row ≡ option_map (λ (c : Class). map field_kept c.fields) class
      → map (member_at world) (own_fields k 0 (rows_in row)) ≡ map Some (flat_map (declared false) (option_to_list class))
  one-members k None None at same = refl
  one-members k None (Some class) at same = absurd cc
  one-members k (Some row) None at same = absurd cc
  one-members k (Some row) (Some class) at same =
      own-members world k class at row.items [] class.fields refl (cc)
      ∙ ap (map Some) (sym (append-nil (declared false class)))

  one-cells : (k : ClassNo) (row : Option (Sequence FieldRow)) (class : Option Class) → slice_get world.classes k.0 ≡ class
      → kept_in row ≡ option_map (λ (c : Class). map field_kept c.fields) class
      → own_cells (rows_in row) ≡ map cell_of_member (flat_map (declared false) (option_to_list class))
  one-cells k None None at same = refl
  one-cells k None (Some class) at same = absurd cc
  one-cells k (Some row) None at same = absurd cc
  one-cells k (Some row) (Some class) at same =
      own-cells world k class at row.items class.fields (cc)
      ∙ ap (map cell_of_member) (sym (append-nil (declared false class)))

  all-members : (ks : List ClassNo)
      → map (member_at world) (all_fields rows ks) ≡ map Some (flat_map (declared false) (flat_map (class_at world) ks))
  all-members [] = refl
  all-members (k ∷ ks) =
      map-append (member_at world) (own_fields k 0 (rows_at rows k)) (all_fields rows ks)
      ∙ (λ i. one-members k (slice_get rows k.0) (slice_get world.classes k.0) refl (kept_at k) i ++ all-members ks i)
      ∙ sym (map-append Some (flat_map (declared false) (class_at world k)) (flat_map (declared false) (flat_map (class_at world) ks)))
      ∙ ap (map Some) (sym (flat_map-append (declared false) (class_at world k) (flat_map (class_at world) ks)))

  all-cells : (ks : List ClassNo)
      → all_cells rows ks ≡ map cell_of_member (flat_map (declared false) (flat_map (class_at world) ks))
  all-cells [] = refl
  all-cells (k ∷ ks) =
      (λ i. one-cells k (slice_get rows k.0) (slice_get world.classes k.0) refl (kept_at k) i ++ all-cells ks i)
      ∙ sym (map-append cell_of_member (flat_map (declared false) (class_at world k)) (flat_map (declared false) (flat_map (class_at world) ks)))
      ∙ ap (map cell_of_member) (sym (flat_map-append (declared false) (class_at world k) (flat_map (class_at world) ks)))

  -- ---- the classes of a chain

  classes-numbers : (names : List (List ℕ))
      → flat_map (λ name. option_to_list (class_in world name)) names ≡ flat_map (class_at world) (numbers_of world names)
  classes-numbers [] = refl
  classes-numbers (name ∷ names) =
      (λ i. option_to_list (class_in-position world name i) ++ classes-numbers names i)
      ∙ by (position (bytes_eq name) (names_of world))
    where
      by : (o : Option ℕ)
          → option_to_list (option_and_then (slice_get world.classes) o) ++ flat_map (class_at world) (numbers_of world names)
          ≡ flat_map (class_at world) (cons_option (option_map number o) (numbers_of world names))
      by None = refl
      by (Some j) = refl

  numbers-reverse : (names : List (List ℕ)) → numbers_of world (reverse names) ≡ reverse (numbers_of world names)
  numbers-reverse [] = refl
  numbers-reverse (name ∷ names) =
      ap (numbers_of world) (reverse-append (name ∷ []) names)
      ∙ filter_map-append (number_of world) (reverse names) (name ∷ [])
      ∙ ap (λ (l : List ClassNo). l ++ numbers_of world (name ∷ [])) (numbers-reverse names)
      ∙ by (number_of world name)
    where
      by : (o : Option ClassNo) → reverse (numbers_of world names) ++ cons_option o [] ≡ reverse (cons_option o (numbers_of world names))
      by None = append-nil (reverse (numbers_of world names))
      by (Some k) = sym (reverse-append (k ∷ []) (numbers_of world names))

  layout-numbers : (name : List ℕ)
      → layout world name ≡ flat_map (declared false) (flat_map (class_at world) (reverse (numbers_of world (chain world name))))
  unfolding layout
  layout-numbers name =
      ap (flat_map (declared false)) (classes-numbers (reverse (chain world name)) ∙ ap (flat_map (class_at world)) (numbers-reverse (chain world name)))

  pub layout_fields : (name : List ℕ) (ks : List ClassNo) (fields : List FieldPlace) → ks ≡ numbers_of world (chain world name)
      → fields ≡ all_fields rows (reverse ks) → map (member_at world) fields ≡ map Some (layout world name)
  layout_fields name ks fields is_chain is =
      ap (map (member_at world)) (is ∙ ap (λ (l : List ClassNo). all_fields rows (reverse l)) is_chain)
      ∙ all-members (reverse (numbers_of world (chain world name)))
      ∙ ap (map Some) (sym (layout-numbers name))

  pub layout_cells : (name : List ℕ) (ks : List ClassNo) (cells : List Cell) → ks ≡ numbers_of world (chain world name)
      → cells ≡ all_cells rows (reverse ks) → cells ≡ map cell_of_member (layout world name)
  layout_cells name ks cells is_chain is =
      is ∙ ap (λ (l : List ClassNo). all_cells rows (reverse l)) is_chain
      ∙ all-cells (reverse (numbers_of world (chain world name)))
      ∙ ap (map cell_of_member) (sym (layout-numbers name))

  -- ---- all classes

  length_rows : length rows ≡ length world.classes
  length_rows =
      sym (length-map rows (λ (r : Sequence FieldRow). map kept_of r.items)) ∙ ap length are
      ∙ length-map world.classes (λ (c : Class). map field_kept c.fields)

  inside_all : (classes : List Class)
      → list_all (λ (c : Class). is_inside (length rows) (numbers_of world (chain world c.name))) classes ≡ true
  inside_all [] = refl
  inside_all (class ∷ classes) =
      let here : is_inside (length rows) (numbers_of world (chain world class.name)) ≡ true =
      ap (λ (n : ℕ). is_inside n (numbers_of world (chain world class.name))) length_rows ∙ numbers_inside world (chain world class.name) in
      λ i. here i && inside_all classes i

  module _ (chains : List (Sequence ClassNo)) (walked : map (λ (c : Sequence ClassNo). c.items) chains ≡ chains_of world) where
    pub chains_inside : are_inside (length rows) chains ≡ true
    chains_inside =
        sym (list_all-map (is_inside (length rows)) (λ (c : Sequence ClassNo). c.items) chains)
        ∙ ap (list_all (is_inside (length rows))) walked
        ∙ list_all-map (is_inside (length rows)) (λ (c : Class). numbers_of world (chain world c.name)) world.classes
        ∙ inside_all world.classes

    -- what is made of each chain is what is made of each class
    of_classes : {A : Type 0} (F : List ClassNo → A)
        → map (λ (c : Sequence ClassNo). F c.items) chains ≡ map (λ (c : Class). F (numbers_of world (chain world c.name))) world.classes
    of_classes F =
        sym (map-map F (λ (c : Sequence ClassNo). c.items) chains) ∙ ap (map F) walked
        ∙ map-map F (λ (c : Class). numbers_of world (chain world c.name)) world.classes

    pub all_layout_fields : (fields : List (Sequence FieldPlace))
        → map (λ (row : Sequence FieldPlace). row.items) fields ≡ map (λ (c : Sequence ClassNo). all_fields rows (reverse c.items)) chains
        → map (λ (row : Sequence FieldPlace). map (member_at world) row.items) fields
        ≡ map (λ (c : Class). map Some (layout world c.name)) world.classes
    all_layout_fields fields is =
        sym (map-map (map (member_at world)) (λ (row : Sequence FieldPlace). row.items) fields)
        ∙ ap (map (map (member_at world))) (is ∙ of_classes (λ ks. all_fields rows (reverse ks)))
        ∙ map-map (map (member_at world)) (λ (c : Class). all_fields rows (reverse (numbers_of world (chain world c.name)))) world.classes
        ∙ λ i. map (λ (c : Class). layout_fields c.name (numbers_of world (chain world c.name)) (all_fields rows (reverse (numbers_of world (chain world c.name)))) refl refl i) world.classes

    pub all_layout_cells : (cells : List (Sequence Cell))
        → map (λ (row : Sequence Cell). row.items) cells ≡ map (λ (c : Sequence ClassNo). all_cells rows (reverse c.items)) chains
        → map (λ (row : Sequence Cell). row.items) cells ≡ map (λ (c : Class). map cell_of_member (layout world c.name)) world.classes
    all_layout_cells cells is =
        is ∙ of_classes (λ ks. all_cells rows (reverse ks))
        ∙ λ i. map (λ (c : Class). layout_cells c.name (numbers_of world (chain world c.name)) (all_cells rows (reverse (numbers_of world (chain world c.name)))) refl refl i) world.classes
