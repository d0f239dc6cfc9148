-- The method of a number is the one of its name.
use Rattle.std.proofs.Common.{◌≡◌, ℕ, ◌&&◌, not, false, Option, Some, None, slice_get, option_map, option_and_then, refl, ap, sym, ◌∙◌}
use Rattle.std.specs.Prelude.{bytes_eq, unwrap_or}
use Rattle.std.specs.List.{IsDistinct}
use Rattle.std.proofs.lemmas.Bool.{and_from, and_parts}
use Rattle.std.proofs.lemmas.Option.{slice_get-map}
use Rattle.world_model.specs.World.{World, Class, Method, class_in, declared_method}
use Rattle.world_model.specs.LookUp.{Found, method_found}
use Rattle.world_model.specs.Members.{method_named}
use Rattle.link_model.specs.ClassFaults.{has_twice, same_field, same_method, has_member_twice}
use Rattle.class_world.specs.World.{HaveMembersOnce, names_of}
use Rattle.member_names.specs.Names.{method_name, no_member}
use Rattle.member_names.specs.Laws.{MethodsAreNamed}
use Rattle.member_names.proofs.Lists.{passes_at, same_text, text_same, one_place, one_index, found_at, neither, turned}

-- a class is found by its name
pub class_found : (world : World) (n : ℕ) (class : Class) → IsDistinct bytes_eq (names_of world)
    → slice_get world.classes n ≡ Some class → class_in world class.name ≡ Some class
class_found world n class apart at =
    found_at (λ (c : Class). bytes_eq c.name class.name) world.classes n class at (text_same class.name class.name refl)
    (λ j c there same. one_place (names_of world) j n class.name apart
    (slice_get-map (λ (d : Class). d.name) world.classes j ∙ ap (option_map (λ (d : Class). d.name)) there
    ∙ ap Some (same_text c.name class.name same))
    (slice_get-map (λ (d : Class). d.name) world.classes n ∙ ap (option_map (λ (d : Class). d.name)) at))

-- no two fields or methods of a class are the same
pub members_once : (world : World) (n : ℕ) (class : Class) → HaveMembersOnce world → slice_get world.classes n ≡ Some class
    → (has_twice same_field class.fields ≡ false) × (has_twice same_method class.methods ≡ false)
members_once world n class once at =
    neither (has_twice same_field class.fields) (has_twice same_method class.methods)
    (turned (has_member_twice class) (passes_at (λ (c : Class). not (has_member_twice c)) world.classes n class once at))

-- a method is found by its name and descriptor
pub method_declared : (world : World) (n i : ℕ) (class : Class) (method : Method) → HaveMembersOnce world
    → slice_get world.classes n ≡ Some class → slice_get class.methods i ≡ Some method
    → declared_method method.name method.descriptor class ≡ Some method
method_declared world n i class method once at own =
    found_at (λ (m : Method). bytes_eq m.name method.name && bytes_eq m.descriptor method.descriptor) class.methods i method own
    (and_from (bytes_eq method.name method.name) (bytes_eq method.descriptor method.descriptor)
    (text_same method.name method.name refl) (text_same method.descriptor method.descriptor refl))
    (λ j m there same.
    let parts = and_parts (bytes_eq m.name method.name) (bytes_eq m.descriptor method.descriptor) same in
    one_index same_method class.methods j i m method (members_once world n class once at).1 there own same
    (and_from (bytes_eq method.name m.name) (bytes_eq method.descriptor m.descriptor)
    (text_same method.name m.name (sym (same_text m.name method.name parts.0)))
    (text_same method.descriptor m.descriptor (sym (same_text m.descriptor method.descriptor parts.1)))))

abbrev made : Class → Method → Found Method
made class method = record { class = class.name; member = method }

pub methods_are_named : MethodsAreNamed
methods_are_named world orderly number found at = of (slice_get world.classes number.class.0) refl at
  where
    within : (class : Class) → slice_get world.classes number.class.0 ≡ Some class → (o : Option Method)
        → slice_get class.methods number.index ≡ o → option_map (made class) o ≡ Some found
        → method_named world (method_name world number) ≡ Some found.member
    within class there None own is = absurd cc
    within class there (Some method) own is =
        let same : made class method ≡ found = cc in
        let name : method_name world number ≡ method_found (made class method) =
        ap (λ (o : Option (Found Method)). unwrap_or (option_map method_found o) no_member) (at ∙ ap Some (sym same)) in
        ap (method_named world) name
        ∙ ap (option_and_then (declared_method method.name method.descriptor)) (class_found world number.class.0 class orderly.names there)
        ∙ method_declared world number.class.0 number.index class method orderly.members there own
        ∙ ap (λ (f : Found Method). Some f.member) same

    of : (o : Option Class) → slice_get world.classes number.class.0 ≡ o
        → option_and_then (λ (class : Class). option_map (made class) (slice_get class.methods number.index)) o ≡ Some found
        → method_named world (method_name world number) ≡ Some found.member
    of None there is = absurd cc
    of (Some class) there is = within class there (slice_get class.methods number.index) refl is
