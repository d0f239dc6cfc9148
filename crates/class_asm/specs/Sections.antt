-- What the lines outside methods say of a class.
use Rattle.std.specs.Prelude.{◌≡◌, List, [], ◌∷◌, ◌++◌}
use Rattle.assembler_model.specs.AssemblerOrder.{Part}
use Rattle.assembler_model.specs.AssembledClass.{all_of, attribute_of, field_of, interface_of, method_of}
use Rattle.assembler_model.specs.PoolEntries.{Entry}
use Rattle.jv_types.specs.ClassData.{attrs_of, members_of}
use Rattle.class_asm.specs.declared.sections.Sections as rows

-- the lists are what these parts say
pub record IsSaid (entries : List Entry) (parts : List Part) (sections : rows.Sections) : Type 0 where
  pub interfaces : sections.interfaces.items ≡ all_of (λ part. interface_of entries) parts
  pub fields : members_of sections.fields.items ≡ all_of (λ part. field_of entries) parts
  pub methods : members_of sections.methods.items ≡ all_of (method_of entries) parts
  pub attributes : attrs_of sections.attributes.items ≡ all_of (λ part. attribute_of entries) parts

-- behind what any parts say, the lists have what one more part says
abbrev pub IsSaidOnwards : List Entry → Part → rows.Sections → rows.Sections → Type 0
IsSaidOnwards entries part old new =
    (parts : List Part) → IsSaid entries parts old → IsSaid entries (parts ++ part ∷ []) new
