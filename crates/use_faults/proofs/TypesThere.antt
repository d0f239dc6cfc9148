-- Types of which the classes are there.
use Rattle.std.proofs.Common.{◌≡◌, ℕ, zero, suc, List, true, refl, ap, ◌∙◌}
use Rattle.std.specs.Borrow.{Bor}
use Rattle.jv_model.specs.Descriptors.{FieldType, array_of}
use Rattle.world_model.specs.World.{World}
use Rattle.link_model.specs.UseFaults.{is_type_there, is_class_where}
use Rattle.descriptor_types.specs.declared.types.ElementType.{ElementType}
use Rattle.descriptor_types.specs.declared.types.ElementType.TheVariants.{Byte, Char, Double, Float, Int, Long, Short, Boolean, Class}
use Rattle.descriptor_types.specs.Types.{element_of, nested}

-- an array is as its element type is
pub nested_there : (world : World) (n : ℕ) (type : FieldType)
    → is_type_there world (nested n type) ≡ is_type_there world type
unfolding is_type_there
nested_there world zero type = refl
nested_there world (suc n) type = nested_there world n (array_of type)

pub class_there : (world : World) (n : ℕ) (element : ElementType) (name : Bor (List ℕ)) → element ≡ Class name
    → is_type_there world (nested n (element_of element)) ≡ is_class_where world (λ class. true) name.now
unfolding is_type_there
class_there world n element name is =
    nested_there world n (element_of element) ∙ ap (λ (e : ElementType). is_type_there world (element_of e)) is

pub other_there : (world : World) (n : ℕ) (element : ElementType) → ((name : Bor (List ℕ)) → element ≡ Class name → ⊥)
    → is_type_there world (nested n (element_of element)) ≡ true
unfolding is_type_there
other_there world n element other = nested_there world n (element_of element) ∙ by element other
  where
    by : (e : ElementType) → ((name : Bor (List ℕ)) → e ≡ Class name → ⊥) → is_type_there world (element_of e) ≡ true
    by Byte none = refl
    by Char none = refl
    by Double none = refl
    by Float none = refl
    by Int none = refl
    by Long none = refl
    by Short none = refl
    by Boolean none = refl
    by (Class name) none = absurd (none name refl)
