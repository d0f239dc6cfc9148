-- What the laws of assembler texts say.
use Rattle.std.specs.Prelude.{◌≡◌, ◌≤◌, ℕ, List, Ok, length}
use Rattle.std.specs.List.{AllByRecursion}
use Rattle.jv_model.specs.Limits.{most_file_bytes}
use Rattle.jv_model.specs.ClassData.{Attr, ClassData}
use Rattle.jv_model.specs.Profile.{IsU4, IsInProfile}
use Rattle.assembler_model.specs.AssembledClass.{assembled}

-- the lengths of attributes are numbers of four bytes
abbrev pub HaveLengths : List Attr → Type 0
HaveLengths attributes = AllByRecursion (λ attribute. IsU4 (length attribute.bytes)) attributes

-- The lengths that a class file writes as numbers of four bytes. The grammar of texts bounds none of them, since a line
-- and a method may be of any length.
pub record FitsNumbers (file : ClassData) : Type 0 where
  pub fields : AllByRecursion (λ field. HaveLengths field.attributes) file.fields
  pub methods : AllByRecursion (λ method. HaveLengths method.attributes) file.methods
  pub attributes : HaveLengths file.attributes

-- What assembles is in the profile of class files, where its lengths can be written.
abbrev pub AssembledIsInProfile : Type 0
AssembledIsInProfile = (text : List ℕ) (class : ClassData) → assembled text ≡ Ok class → FitsNumbers class
    → IsInProfile class

-- The lengths of what a text assembles to can be written, where the text is no longer than a file may be.
abbrev pub AssembledFits : Type 0
AssembledFits = (text : List ℕ) (class : ClassData) → assembled text ≡ Ok class
    → length text ≤ most_file_bytes → FitsNumbers class
