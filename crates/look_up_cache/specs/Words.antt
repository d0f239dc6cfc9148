-- Where the fields of objects stand.
use Rattle.std.specs.Prelude.{◌≡◌, ℕ, ◌<◌, ◌≤◌, List, Bool, true, false, Option, Some, None, length, slice_get, option_and_then}
use Rattle.jv_types.specs.Sequence.{Sequence}
use Rattle.world_model.specs.World.{World, Class, Field, is_static_field}
use Rattle.world_model.specs.LookUp.{Found}
use Rattle.world_model.specs.Layout.{layout, field_place}
use Rattle.link_laws.specs.Above.{IsSound}
use Rattle.class_layouts.specs.Layouts.{field_found}
use Rattle.jv_types.specs.declared.number.ClassNo.{ClassNo}
use Rattle.class_world.specs.World.{field_at}
use Rattle.static_fields.specs.Statics.{same_place}
use Rattle.class_world.specs.declared.class_info.FieldPlace.{FieldPlace}

-- the place of a field among the fields of an object of the class that declares it
abbrev pub word_of : World → Found Field → Option ℕ
word_of world found = field_place (layout world found.class) (field_found found)

-- In the objects of each other class that has it, a field has the same place.
abbrev pub WordsStay : Type 0
WordsStay = (world : World) → IsSound world → (found : Found Field) (class : List ℕ) (word place : ℕ)
    → word_of world found ≡ Some word → field_place (layout world class) (field_found found) ≡ Some place
    → place ≡ word

-- ---- the words of all fields

-- For each class, by number, and each field that it declares, by index, its place where it isn't static.
abbrev pub Words : Type 0
Words = List (List (Option ℕ))

abbrev pub entry_at : Words → FieldPlace → Option (Option ℕ)
entry_at words place = option_and_then (λ (row : List (Option ℕ)). slice_get row place.index) (slice_get words place.class.0)

abbrev pub IsWord : World → Found Field → Option ℕ → Type 0
IsWord world found None = is_static_field found.member ≡ true
IsWord world found (Some word) = (is_static_field found.member ≡ false) × (word_of world found ≡ Some word)

-- They are those of the fields of a world.
abbrev pub AreWords : World → Words → Type 0
AreWords world words = (place : FieldPlace) (found : Found Field) → field_at world place ≡ Some found
    → (entry : Option ℕ) × (entry_at words place ≡ Some entry) × IsWord world found entry

-- ---- the words of the fields of one class, by its layout

-- the last item that passes a test stands there
pub record IsLast {A : Type 0} (test : A → Bool) (xs : List A) (k : ℕ) : Type 0 where
  pub item : A
  pub at : slice_get xs k ≡ Some item
  pub passes : test item ≡ true
  pub after : (j : ℕ) (other : A) → k < j → slice_get xs j ≡ Some other → test other ≡ false

-- where a field stands last in a layout, or that it doesn't
abbrev pub IsLastOf : List FieldPlace → FieldPlace → Option ℕ → Type 0
IsLastOf layout place None =
    (word : ℕ) (other : FieldPlace) → slice_get layout word ≡ Some other → same_place place other ≡ false
IsLastOf layout place (Some word) = IsLast (same_place place) layout word

-- of the fields of the class in the layout each is one of so many
abbrev pub AreInside : ClassNo → ℕ → List FieldPlace → Type 0
AreInside class count layout =
    (word : ℕ) (place : FieldPlace) → slice_get layout word ≡ Some place → place.class.0 ≡ class.0 → place.index < count

pub record AreWordsOf (class : ClassNo) (count : ℕ) (layout : List FieldPlace) (row : List (Option ℕ)) : Type 0 where
  pub length_is : length row ≡ count
  pub each : (index : ℕ) (entry : Option ℕ) → slice_get row index ≡ Some entry
      → IsLastOf layout (record { class = class; index = index }) entry

-- those of the fields of each class
pub record AreRows (world : World) (layouts : List (Sequence FieldPlace)) (rows : Words) : Type 0 where
  pub count : length world.classes ≤ length rows
  pub each : (class : ClassNo) (c : Class) (layout : Sequence FieldPlace) (row : List (Option ℕ))
      → slice_get world.classes class.0 ≡ Some c → slice_get layouts class.0 ≡ Some layout → slice_get rows class.0 ≡ Some row
      → AreWordsOf class (length c.fields) layout.items row
