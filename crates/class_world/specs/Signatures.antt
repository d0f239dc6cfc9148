-- What the signatures of members spell, by the texts whose numbers they have.
use Rattle.std.specs.Prelude.{◌≡◌, ℕ, List, [], ◌∷◌, ◌++◌, Bool, true, false, not, ◌&&◌, if◌then◌else◌, Option, Some, None, map, bytes_eq, IsTrue}
use Rattle.std.specs.List.{list_any, list_all, IsDistinct}
use Rattle.jv_model.specs.ClassData.{Const}
use Rattle.jv_model.specs.ConstantPool.{units_at}
use Rattle.link_model.specs.ClassFaults.{has_twice}
use Rattle.jv_types.specs.ClassData.{pool_of}
use Rattle.jv_types.specs.declared.class_data.Member.{Member}
use Rattle.jv_types.specs.declared.boot.BootField.{BootField}
use Rattle.jv_types.specs.declared.boot.BootMethod.{BootMethod}
use Rattle.class_names.specs.declared.signatures.Signature.{Signature}
use Rattle.class_world.specs.declared.class_info.ClassInfo.{ClassInfo}
use Rattle.class_world.specs.declared.class_info.Origin.{Origin}
use Rattle.class_world.specs.declared.class_info.Origin.TheVariants.{Boot, Program}
use Rattle.class_world.specs.declared.signatures.Declared.{Declared}
use Rattle.class_world.specs.World.{spelled, is_spelled}

-- a name and a descriptor
abbrev pub Pair : Type 0
Pair = List ℕ × List ℕ

abbrev pub same_pair : Pair → Pair → Bool
same_pair a b = bytes_eq a.0 b.0 && bytes_eq a.1 b.1

abbrev pub member_pair : List Const → Member → Pair
member_pair pool member = (units_at pool member.name, units_at pool member.descriptor)

abbrev pub boot_field_pair : BootField → Pair
boot_field_pair field = (field.name.items, field.descriptor.items)

abbrev pub boot_method_pair : BootMethod → Pair
boot_method_pair method = (method.name.items, method.descriptor.items)

-- those of a class's own fields and methods
abbrev pub field_pairs : Origin → List Pair
field_pairs (Boot class) = map boot_field_pair class.fields.items
field_pairs (Program loaded) = map (member_pair (pool_of loaded.file.pool.items)) loaded.file.fields.items

abbrev pub method_pairs : Origin → List Pair
method_pairs (Boot class) = map boot_method_pair class.methods.items
method_pairs (Program loaded) = map (member_pair (pool_of loaded.file.pool.items)) loaded.file.methods.items

-- neither two fields nor two methods of a class are the same
abbrev pub has_members_once : ClassInfo → Bool
has_members_once info =
    not (has_twice same_pair (field_pairs info.origin)) && not (has_twice same_pair (method_pairs info.origin))

-- the texts, and more behind them
abbrev pub Extends : List (List ℕ) → List (List ℕ) → Type 0
Extends old new = (rest : List (List ℕ)) × (new ≡ old ++ rest)

-- Signatures spell names and descriptors.
pub record Spells (texts : List (List ℕ)) (rows : List Signature) (pairs : List Pair) : Type 0 where
  pub distinct : IsDistinct bytes_eq texts
  pub within : IsTrue (list_all (is_spelled texts) rows)
  pub are : map (spelled texts) rows ≡ pairs

-- A signature is added where no other spells the same.
pub record AddsSignature (texts more : List (List ℕ)) (rows added : List Signature) (pair : Pair) (is_new : Bool) : Type 0 where
  pub grows : Extends texts more
  pub spells : (pairs : List Pair) → Spells texts rows pairs
      → Spells more added (if is_new then pairs ++ pair ∷ [] else pairs)
  pub news : (pairs : List Pair) → Spells texts rows pairs → is_new ≡ not (list_any (λ p. same_pair p pair) pairs)

-- Signatures of all of them, none twice.
pub record SpellsOnce (texts more : List (List ℕ)) (pairs : List Pair) (rows : List Signature) : Type 0 where
  pub grows : Extends texts more
  pub spells : Spells more rows pairs
  pub once : has_twice same_pair pairs ≡ false

-- they, or none where two are the same
abbrev pub GivesSignatures : List (List ℕ) → List (List ℕ) → List Pair → Option (List Signature) → Type 0
GivesSignatures texts more pairs (Some rows) = SpellsOnce texts more pairs rows
GivesSignatures texts more pairs None = has_twice same_pair pairs ≡ true

-- The same of lists of signatures.
pub record SpellsAll (texts : List (List ℕ)) (rows : List (List Signature)) (pairs : List (List Pair)) : Type 0 where
  pub within : IsTrue (list_all (list_all (is_spelled texts)) rows)
  pub are : map (map (spelled texts)) rows ≡ pairs

-- The signatures of the members of each class.
pub record GivesDeclared (texts : List (List ℕ)) (infos : List ClassInfo) (declared : Declared) : Type 0 where
  pub distinct : IsDistinct bytes_eq texts
  pub fields : SpellsAll texts declared.fields.items (map (λ (i : ClassInfo). field_pairs i.origin) infos)
  pub methods : SpellsAll texts declared.methods.items (map (λ (i : ClassInfo). method_pairs i.origin) infos)
