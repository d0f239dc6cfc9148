-- What operands have to be, by number and by name.
use Rattle.std.proofs.Common.{◌≡◌, Bool, true, false, ◌||◌, Some, sym, ◌∙◌, refl}
use Rattle.world_model.specs.World.{World}
use Rattle.world_model.specs.BootNames.{java_object}
use Rattle.jv_model.specs.Descriptors.{class_type, boolean_type}
use Rattle.typing_model.specs.VerificationType as model
use Rattle.typing_model.specs.Assignable.{operand_assignable}
use Rattle.typing_model.specs.Environment.{Environment}
use Rattle.typing_model.specs.ArrayTypes.{is_array_of}
use Rattle.jv_types.specs.Instruction.{element_kind_of}
use Rattle.jv_types.specs.declared.instruction.ElementKind.{ElementKind}
use Rattle.jv_types.specs.declared.instruction.ElementKind.TheVariants.{Int, Long, Reference, Byte, Char, Short}
use Rattle.class_world.specs.World.{number_of}
use Rattle.type_rules.specs.Types.{field_type_of, IsKnownElement}
use Rattle.instruction_types.specs.declared.environment.Environment as code
use Rattle.instruction_types.specs.Wanted.{element_of_kind, component_of}
use Rattle.instruction_types.proofs.Found.{found-name, found-known}

or_false : (b : Bool) → (b || false) ≡ b
or_false true = refl
or_false false = refl

-- what goes to an array of booleans, where such a kind takes it
abbrev pub is_booleans : World → ElementKind → model.VerificationType → Bool
is_booleans world Byte type = operand_assignable world type (model.array boolean_type)
is_booleans world other type = false

pub not_booleans : (world : World) (kind : ElementKind) (type : model.VerificationType) → (kind ≡ Byte → ⊥) → is_booleans world kind type ≡ false
not_booleans world Int type other = refl
not_booleans world Long type other = refl
not_booleans world Reference type other = refl
not_booleans world Byte type other = absurd (other refl)
not_booleans world Char type other = refl
not_booleans world Short type other = refl

module _ (world : World) (here : code.Environment) (object : number_of world java_object ≡ Some here.object) where
  pub component-known : (kind : ElementKind) → IsKnownElement world (element_of_kind here kind)
  component-known Int = tt
  component-known Long = tt
  component-known Reference = found-known world java_object here.object object
  component-known Byte = tt
  component-known Char = tt
  component-known Short = tt

  pub array_of_kind : (e : Environment) → e.world ≡ world → (kind : ElementKind) (type : model.VerificationType)
      → (operand_assignable world type (model.array (field_type_of world (component_of here kind))) || is_booleans world kind type)
      ≡ is_array_of e (element_kind_of kind) type
  array_of_kind e same Int type = or_false _ ∙ (λ i. operand_assignable (sym same i) type (model.array (field_type_of world (component_of here Int))))
  array_of_kind e same Long type = or_false _ ∙ (λ i. operand_assignable (sym same i) type (model.array (field_type_of world (component_of here Long))))
  array_of_kind e same Reference type =
      or_false _ ∙ (λ i. operand_assignable (sym same i) type (model.array (class_type (found-name world java_object here.object object i))))
  array_of_kind e same Byte type =
      λ i. operand_assignable (sym same i) type (model.array (field_type_of world (component_of here Byte)))
      || operand_assignable (sym same i) type (model.array boolean_type)
  array_of_kind e same Char type = or_false _ ∙ (λ i. operand_assignable (sym same i) type (model.array (field_type_of world (component_of here Char))))
  array_of_kind e same Short type = or_false _ ∙ (λ i. operand_assignable (sym same i) type (model.array (field_type_of world (component_of here Short))))
