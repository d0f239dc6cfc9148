-- Tables that stay those of a world.
use Rattle.std.proofs.Common.{◌≡◌, ℕ, ◌<◌, ◌==◌, Bool, true, false, if◌then◌else◌, List, [], ◌∷◌, ◌++◌, Option, Some, None, length, is_some, option_map, slice_set, ap, sym, subst, ◌∙◌, refl}
use Rattle.std.proofs.Math.ListN.{length-set}
use Rattle.std.proofs.lemmas.Bool.Decides.{Decides-eqb}
use Rattle.world_model.specs.World.{World}
use Rattle.jv_types.specs.declared.number.ClassNo.{ClassNo}
use Rattle.jv_values.specs.declared.value.Value.{Value}
use Rattle.jv_values.specs.Values.{value_of}
use Rattle.class_graph.proofs.Passing.{and_left, and_right}
use Rattle.class_world.specs.World.{field_at}
use Rattle.heap_face.specs.declared.address.Addr.{Addr}
use Rattle.static_fields.specs.Statics.{Statics, Place, value_at, first_at, same_place}
use Rattle.literal_table.specs.Literals.{Literals, IsKept, address_at}
use Rattle.literal_table.proofs.Strings.{kept_added, kept_moved}
use Rattle.world_literals.specs.Literals.{named_literals, have}
use Rattle.class_versions.specs.Versions.{VersionTables, AreVersions, Keeps, HasStatics}

-- ---- static fields

some_map : {A B : Type 0} (f : A → B) (o : Option A) → is_some (option_map f o) ≡ is_some o
some_map f None = refl
some_map f (Some a) = refl

-- where there is a first value there is a field
pub has_statics : (world : World) (statics : Statics)
    → ((place : Place) → option_map value_of (value_at statics place) ≡ first_at world place) → HasStatics world statics
has_statics world statics first place =
    sym (some_map value_of (value_at statics place)) ∙ ap is_some (first place) ∙ some_map _ (field_at world place)

same_is : (place other : Place) → same_place place other ≡ true → place ≡ other
same_is place other same =
    let class = (Decides-eqb place.class.0 other.class.0).0 (and_left (place.class.0 == other.class.0) (place.index == other.index) same) in
    let index = (Decides-eqb place.index other.index).0 (and_right (place.class.0 == other.class.0) (place.index == other.index) same) in
    λ i. record { class = record { 0 = class i }; index = index i }

put_there : (world : World) (old new : Statics) (place : Place) (value : Value) → is_some (value_at old place) ≡ true
    → ((other : Place) → value_at new other ≡ (if same_place place other then Some value else value_at old other))
    → HasStatics world old → HasStatics world new
put_there world old new place value there puts has other =
    ap is_some (puts other) ∙ by (same_place place other) refl
  where
    by : (b : Bool) → same_place place other ≡ b
        → is_some (if b then Some value else value_at old other) ≡ is_some (field_at world other)
    by true same = sym there ∙ has place ∙ ap (λ (p : Place). is_some (field_at world p)) (same_is place other same)
    by false differs = has other

-- ---- tables with other values, locks and strings

changed : (world : World) (old : VersionTables) (statics : Statics) (locks : List ℕ) (literals : Literals) → AreVersions world old
    → HasStatics world statics → length locks ≡ length old.locks → literals.texts ≡ old.literals.texts
    → IsKept literals.texts literals.addresses literals.order
    → AreVersions world (record old { statics = statics; locks = locks; literals = literals })
changed world old statics locks literals are has count texts kept = record {
  layouts = are.layouts;
  method_counts = are.method_counts;
  slots = are.slots;
  dispatch_count = are.dispatch_count;
  selects = are.selects;
  marks = are.marks;
  codes = are.codes;
  statics = has;
  locks = count ∙ are.locks;
  texts = texts ∙ are.texts;
  named = ap (λ (l : List (List ℕ)). have l (named_literals world)) texts ∙ are.named;
  kept = kept;
}

pub put_static : (old new : VersionTables) (place : Place) (value : Value) → is_some (value_at old.statics place) ≡ true
    → ((other : Place) → value_at new.statics other ≡ (if same_place place other then Some value else value_at old.statics other))
    → new ≡ record old { statics = new.statics } → Keeps old new
put_static old new place value there puts rest = λ world are.
    subst (AreVersions world) (sym rest)
    (changed world old new.statics old.locks old.literals are (put_there world old.statics new.statics place value there puts are.statics)
    refl refl are.kept)

pub set_lock : (old new : VersionTables) (class : ClassNo) (word : ℕ)
    → new ≡ record old { locks = slice_set old.locks class.0 word } → Keeps old new
set_lock old new class word is = λ world are.
    subst (AreVersions world) (sym is)
    (changed world old old.statics (slice_set old.locks class.0 word) old.literals are are.statics (length-set old.locks class.0 word) refl are.kept)

pub set_literal : (old new : VersionTables) (number left : ℕ) (address : Addr) → number < length old.literals.texts
    → address_at old.literals.addresses number ≡ None
    → new ≡ record old {
      literals = record old.literals {
        addresses = slice_set old.literals.addresses number (Some address);
        order = old.literals.order ++ number ∷ [];
        left = left;
      };
    } → Keeps old new
set_literal old new number left address inside fresh is = λ world are.
    subst (AreVersions world) (sym is)
    (changed world old old.statics old.locks (record old.literals {
      addresses = slice_set old.literals.addresses number (Some address);
      order = old.literals.order ++ number ∷ [];
      left = left;
    }) are are.statics refl refl
    (kept_added old.literals.texts old.literals.addresses old.literals.order number address are.kept inside fresh))

pub move_literal : (old new : VersionTables) (number : ℕ) (address : Addr) → number < length old.literals.texts
    → is_some (address_at old.literals.addresses number) ≡ true
    → new ≡ record old { literals = record old.literals { addresses = slice_set old.literals.addresses number (Some address) } }
    → Keeps old new
move_literal old new number address inside there is = λ world are.
    subst (AreVersions world) (sym is)
    (changed world old old.statics old.locks
    (record old.literals { addresses = slice_set old.literals.addresses number (Some address) }) are are.statics refl refl
    (kept_moved old.literals.texts old.literals.addresses old.literals.order number address are.kept inside there))
