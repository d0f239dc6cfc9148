-- What a `World` finds is what the definitions find in its world.
use Rattle.std.proofs.Common.{◌≡◌, ℕ, ◌<◌, ◌≤◌, ◌==◌, Bool, false, List, [], Option, Some, None, length, map, position, get_or, slice_get, bytes_eq, find, option_map, reverse, if◌then◌else◌, ap, sym, subst, ◌∙◌, refl, arith}
use Rattle.std.specs.List.{list_any, IsDistinct}
use Rattle.std.proofs.lemmas.Option.{slice_get-map}
use Rattle.class_names.specs.declared.signatures.Signature.{Signature}
use Rattle.world_model.specs.World as model
use Rattle.world_model.specs.World.{is_stub, declared_field, declared_method}
use Rattle.world_model.specs.Supertypes.{field_order, method_order, is_sub}
use Rattle.world_model.specs.LookUp.{find_field, find_method}
use Rattle.jv_types.specs.declared.number.ClassNo.{ClassNo}
use Rattle.class_world.specs.MemberTable.{Members, order_at, first_with}
use Rattle.class_world.specs.declared.class_info.ClassInfo.{ClassInfo}
use Rattle.class_world.specs.declared.class_info.Origin.{Origin}
use Rattle.class_world.specs.declared.class_info.Origin.TheVariants.{Boot, Program}
use Rattle.class_world.specs.World.{class_of_origin, names_of_infos, world_of_infos, name_at, signature_of, field_signature, method_signature, spelled, IsWorld}
use Rattle.class_world.proofs.Numbers.{list_any-numbers}
use Rattle.class_world.proofs.Members.{has_signature, place_of}
use Rattle.class_world.proofs.LookUps.{order_at-numbers, length-order_at, found_by_number, none_by_number, none_declared, own_by_signature}
use Rattle.class_world.proofs.Places.{stands_inside}
use Rattle.class_names.specs.Distinct.{same_signature}
use Rattle.std.proofs.lemmas.List.{length-map}

abbrev pub fields_of : model.Class → List model.Field
fields_of class = class.fields

abbrev pub methods_of : model.Class → List model.Method
methods_of class = class.methods

-- no class of a `World` is an old version
origin_is_no_stub : (names : List (List ℕ)) (origin : Origin) → is_stub (class_of_origin names origin) ≡ false
origin_is_no_stub names (Boot class) = refl
origin_is_no_stub names (Program loaded) = refl

class_is_no_stub : (names : List (List ℕ)) (info : Option ClassInfo) (class : model.Class)
    → option_map (λ (i : ClassInfo). class_of_origin names i.origin) info ≡ Some class → is_stub class ≡ false
class_is_no_stub names None class is = cc
class_is_no_stub names (Some info) class is =
    let same : class_of_origin names info.origin ≡ class = cc in
    subst (λ (c : model.Class). is_stub c ≡ false) same (origin_is_no_stub names info.origin)

module _ (infos : List ClassInfo) (names texts : List (List ℕ)) (fields methods : Members)
    (is : IsWorld infos names texts fields methods) (self : model.World) (view_is : world_of_infos infos ≡ self)
    (class : ClassNo) (inside : class.0 < length self.classes) where
  here : class.0 < length (world_of_infos infos).classes
  here = subst (λ (w : model.World). class.0 < length w.classes) (sym view_is) inside

  declares_field : (name descriptor : List ℕ) (k : ℕ) (c : model.Class) → slice_get (world_of_infos infos).classes k ≡ Some c
      → declared_field name descriptor c ≡ find (λ (f : model.Field). has_signature name descriptor (field_signature f)) (fields_of c)
  declares_field name descriptor k c at =
      let class_of = λ (i : ClassInfo). class_of_origin (names_of_infos infos) i.origin in
      ap (λ (b : Bool). find (λ (f : model.Field). has_signature name descriptor (field_signature f)) (if b then reverse c.fields else c.fields))
      (class_is_no_stub (names_of_infos infos) (slice_get infos k) c (sym (slice_get-map class_of infos k) ∙ at))

  pub field_by_number : (name descriptor : List ℕ) (signature : Signature) (found : Option (ClassNo × ℕ))
      → Some signature ≡ signature_of texts name descriptor
      → found ≡ first_with fields.declared signature (order_at fields class.0)
      → option_map (place_of fields_of self.classes) found ≡ option_map Some (find_field self (name_at self class) name descriptor)
  field_by_number name descriptor signature found is_signature is_found =
      let world = world_of_infos infos in
      subst (λ (w : model.World). option_map (place_of fields_of w.classes) found ≡ option_map Some (find_field w (name_at w class) name descriptor)) view_is
      (ap (option_map (place_of fields_of world.classes)) is_found
      ∙ found_by_number world texts is.texts_apart (field_order world) field_signature fields_of fields is.field_table
      name descriptor (declared_field name descriptor) (declares_field name descriptor) signature (sym is_signature) class here)

  pub no_field : (name descriptor : List ℕ) → None ≡ signature_of texts name descriptor
      → None ≡ option_map Some (find_field self (name_at self class) name descriptor)
  no_field name descriptor is_none =
      let world = world_of_infos infos in
      subst (λ (w : model.World). None ≡ option_map Some (find_field w (name_at w class) name descriptor)) view_is
      (sym (ap (option_map Some)
      (none_by_number world texts is.texts_apart (field_order world) field_signature fields_of fields is.field_table
      name descriptor (declared_field name descriptor) (declares_field name descriptor) (sym is_none) (field_order world (name_at world class)))))

  pub field_steps : length (order_at fields class.0) ≤ length (field_order self (name_at self class))
  field_steps =
      let world = world_of_infos infos in
      subst (λ (w : model.World). length (order_at fields class.0) ≤ length (field_order w (name_at w class))) view_is
      (length-order_at world texts is.texts_apart (field_order world) field_signature fields_of fields is.field_table class here)

  pub method_by_number : (name descriptor : List ℕ) (signature : Signature) (found : Option (ClassNo × ℕ))
      → Some signature ≡ signature_of texts name descriptor
      → found ≡ first_with methods.declared signature (order_at methods class.0)
      → option_map (place_of methods_of self.classes) found ≡ option_map Some (find_method self (name_at self class) name descriptor)
  method_by_number name descriptor signature found is_signature is_found =
      let world = world_of_infos infos in
      subst (λ (w : model.World). option_map (place_of methods_of w.classes) found ≡ option_map Some (find_method w (name_at w class) name descriptor)) view_is
      (ap (option_map (place_of methods_of world.classes)) is_found
      ∙ found_by_number world texts is.texts_apart (method_order world) method_signature methods_of methods is.method_table
      name descriptor (declared_method name descriptor) (λ k c at. refl) signature (sym is_signature) class here)

  pub no_method : (name descriptor : List ℕ) → None ≡ signature_of texts name descriptor
      → None ≡ option_map Some (find_method self (name_at self class) name descriptor)
  no_method name descriptor is_none =
      let world = world_of_infos infos in
      subst (λ (w : model.World). None ≡ option_map Some (find_method w (name_at w class) name descriptor)) view_is
      (sym (ap (option_map Some)
      (none_by_number world texts is.texts_apart (method_order world) method_signature methods_of methods is.method_table
      name descriptor (declared_method name descriptor) (λ k c at. refl) (sym is_none) (method_order world (name_at world class)))))

  pub method_steps : length (order_at methods class.0) ≤ length (method_order self (name_at self class))
  method_steps =
      let world = world_of_infos infos in
      subst (λ (w : model.World). length (order_at methods class.0) ≤ length (method_order w (name_at w class))) view_is
      (length-order_at world texts is.texts_apart (method_order world) method_signature methods_of methods is.method_table class here)

  pub is_sub_by_number : (above : ClassNo) → above.0 < length self.classes
      → list_any (λ (c : ClassNo). above.0 == c.0) (order_at fields class.0) ≡ is_sub self (name_at self class) (name_at self above)
  is_sub_by_number above above_inside =
      let world = world_of_infos infos in
      let above_here = subst (λ (w : model.World). above.0 < length w.classes) (sym view_is) above_inside in
      subst (λ (w : model.World). list_any (λ (c : ClassNo). above.0 == c.0) (order_at fields class.0) ≡ is_sub w (name_at w class) (name_at w above)) view_is
      (ap (list_any (λ (c : ClassNo). above.0 == c.0))
      (order_at-numbers world texts is.texts_apart (field_order world) field_signature fields_of fields is.field_table class here)
      ∙ sym (list_any-numbers world (subst (IsDistinct bytes_eq) is.names_are is.names_apart) above above_here (field_order world (name_at world class))))

  -- ---- what a class declares itself

  pub class_there : (c : model.Class) × (slice_get self.classes class.0 ≡ Some c)
  class_there = stands_inside self.classes class.0 inside

  pub tables_there : class.0 < length methods.declared
  tables_there =
      let world = world_of_infos infos in
      let called = λ (c : model.Class). map method_signature c.methods in
      omega (
        arith,
        here,
        length-map methods.declared (map (spelled texts)),
        length-map world.classes called,
        ap (λ (l : List (List (List ℕ × List ℕ))). length l) is.method_table.declared,
      )

  pub own_by_number : (name descriptor : List ℕ) (signature : Signature) → Some signature ≡ signature_of texts name descriptor
      → (found : Option ℕ) → found ≡ position (same_signature signature) (get_or methods.declared class.0 [])
      → (c : model.Class) × (slice_get self.classes class.0 ≡ Some c) × (option_map (slice_get c.methods) found ≡ option_map Some (declared_method name descriptor c))
  own_by_number name descriptor signature is_signature found is_found =
      let world = world_of_infos infos in
      let at : slice_get world.classes class.0 ≡ Some class_there.0 = ap (λ (w : model.World). slice_get w.classes class.0) view_is ∙ class_there.1 in (
        class_there.0,
        class_there.1,
        ap (option_map (slice_get class_there.0.methods)) is_found
            ∙ own_by_signature world texts is.texts_apart (method_order world) method_signature methods_of methods is.method_table
            name descriptor (declared_method name descriptor) (λ k c at. refl) signature (sym is_signature) class.0 class_there.0 at,
      )

  pub none_own : (name descriptor : List ℕ) → None ≡ signature_of texts name descriptor → (found : Option ℕ) → found ≡ None
      → (c : model.Class) × (slice_get self.classes class.0 ≡ Some c) × (option_map (slice_get c.methods) found ≡ option_map Some (declared_method name descriptor c))
  none_own name descriptor is_none found is_found =
      let world = world_of_infos infos in
      let at : slice_get world.classes class.0 ≡ Some class_there.0 = ap (λ (w : model.World). slice_get w.classes class.0) view_is ∙ class_there.1 in (
        class_there.0,
        class_there.1,
        ap (option_map (slice_get class_there.0.methods)) is_found
            ∙ sym (ap (option_map Some) (none_declared world texts is.texts_apart (method_order world) method_signature methods_of methods is.method_table
            name descriptor (declared_method name descriptor) (λ k c at. refl) (sym is_none) class.0 class_there.0 at)),
      )
