-- Types that this machine has.
use Rattle.std.proofs.Common.{◌≡◌, ℕ, zero, suc, true, false, ◌⊎◌, inl, inr, refl}
use Rattle.jv_model.specs.Descriptors.{FieldType, array_of}
use Rattle.link_model.specs.DescriptorFaults.{is_supported}
use Rattle.descriptor_types.specs.declared.types.ElementType.{ElementType}
use Rattle.descriptor_types.specs.declared.types.ElementType.TheVariants.{Byte, Char, Double, Float, Int, Long, Short, Boolean, Class}
use Rattle.descriptor_types.specs.Types.{element_of, nested}

-- an array is as its element type is
pub nested_supported : (n : ℕ) (type : FieldType) → is_supported (nested n type) ≡ is_supported type
unfolding is_supported
nested_supported zero type = refl
nested_supported (suc n) type = nested_supported n (array_of type)

pub other_supported : (element : ElementType) → (element ≡ Float → ⊥) → (element ≡ Double → ⊥)
    → is_supported (element_of element) ≡ true
unfolding is_supported
other_supported Byte float double = refl
other_supported Char float double = refl
other_supported Double float double = absurd (double refl)
other_supported Float float double = absurd (float refl)
other_supported Int float double = refl
other_supported Long float double = refl
other_supported Short float double = refl
other_supported Boolean float double = refl
other_supported (Class name) float double = refl

pub not_supported : (element : ElementType) → (element ≡ Float) ⊎ (element ≡ Double)
    → is_supported (element_of element) ≡ false
unfolding is_supported
not_supported element (inl is) = rw is refl
not_supported element (inr is) = rw is refl
