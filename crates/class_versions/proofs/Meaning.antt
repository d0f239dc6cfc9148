-- Where the tables of a world have what its readers ask for.
use Rattle.std.proofs.Common.{◌≡◌, ℕ, ◌<◌, Bool, true, List, Option, Some, None, if◌then◌else◌, length, map, slice_get, nat_lt, is_some, option_map, option_and_then, ap, sym, ◌∙◌, refl}
use Rattle.std.proofs.lemmas.Bool.Decides.{Decides-ltb}
use Rattle.std.proofs.lemmas.List.{length-map}
use Rattle.std.proofs.lemmas.Option.{slice_get-map, slice_get_within}
use Rattle.jv_model.specs.Operand.{MemberReference}
use Rattle.jv_types.specs.Sequence.{Sequence}
use Rattle.jv_types.specs.declared.number.MethodNo.{MethodNo}
use Rattle.world_model.specs.World.{World, Class, Method}
use Rattle.world_model.specs.LookUp.{Found}
use Rattle.world_model.specs.Layout.{layout}
use Rattle.class_world.specs.World.{method_at}
use Rattle.class_world.specs.declared.class_info.FieldPlace.{FieldPlace}
use Rattle.class_layouts.specs.Layouts.{member_at}
use Rattle.code_marks.specs.Marks.{codes_of, mark_at, shown}
use Rattle.code_store.specs.declared.mark.CodeMark.{CodeMark}
use Rattle.member_numbers.specs.Numbers.{number_of}
use Rattle.class_versions.specs.Slots.{slot_of}
use Rattle.class_versions.specs.Versions.{VersionTables, AreVersions}

abbrev counts_of : World → List ℕ
counts_of world = map (λ (c : Class). length c.methods) world.classes

abbrev number_at : MethodNo → List ℕ → ℕ → Option ℕ
number_at method counts count = if nat_lt method.index count then Some (number_of counts method.class.0 method.index) else None

abbrev found : Class → Method → Found Method
found c m = record { class = c.name; member = m }

module _ (world : World) (tables : VersionTables) (are : AreVersions world tables) where
  -- each class has a layout
  pub layout_count : length tables.layouts.fields.items ≡ length world.classes
  layout_count =
      sym (length-map tables.layouts.fields.items (λ (row : Sequence FieldPlace). map (member_at world) row.items))
      ∙ ap (λ (l : List (List (Option MemberReference))). length l) are.layouts.fields
      ∙ length-map world.classes (λ (c : Class). map Some (layout world c.name))

  -- each method has a slot
  pub has_slot : (method : MethodNo) → is_some (method_at world method) ≡ true → is_some (slot_of tables.slots method) ≡ true
  has_slot method there =
      ap (λ (counts : List ℕ). is_some (option_and_then (number_at method counts) (slice_get counts method.class.0))) are.method_counts
      ∙ ap (λ (o : Option ℕ). is_some (option_and_then (number_at method (counts_of world)) o))
      (slice_get-map (λ (c : Class). length c.methods) world.classes method.class.0)
      ∙ by (slice_get world.classes method.class.0) there
    where
      inside : (c : Class) (o : Option Method) → slice_get c.methods method.index ≡ o → is_some (option_map (found c) o) ≡ true
          → method.index < length c.methods
      inside c None at some = absurd cc
      inside c (Some m) at some = slice_get_within c.methods method.index m at

      by : (o : Option Class) → is_some (option_and_then (λ (c : Class). option_map (found c) (slice_get c.methods method.index)) o) ≡ true
          → is_some (option_and_then (number_at method (counts_of world)) (option_map (λ (c : Class). length c.methods) o)) ≡ true
      by None some = absurd cc
      by (Some c) some =
          ap (λ (b : Bool). is_some (if b then Some (number_of (counts_of world) method.class.0 method.index) else None))
          ((Decides-ltb method.index (length c.methods)).1 (inside c (slice_get c.methods method.index) refl some))

  -- each method with code has a mark
  pub has_mark : (method : MethodNo) (found : Found Method) → method_at world method ≡ Some found → is_some found.member.code ≡ true
      → is_some (mark_at tables.marks method) ≡ true
  has_mark method found at coded =
      by (mark_at tables.marks method) (ap is_some (are.codes method found at) ∙ coded)
    where
      by : (o : Option CodeMark) → is_some (shown (codes_of world.classes) o) ≡ true → is_some o ≡ true
      by None some = some
      by (Some mark) some = refl
