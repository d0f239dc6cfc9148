-- The place of a section in their order.
use Rattle.std.specs.Prelude.{ℕ}
use Rattle.asm_parts.specs.declared.section.Section.{Section}
use Rattle.asm_parts.specs.declared.section.Section.TheVariants.{Start, Flags, Interfaces, Fields, Methods, Attributes}

abbrev pub section_of : Section → ℕ
section_of Start = 0
section_of Flags = 1
section_of Interfaces = 2
section_of Fields = 3
section_of Methods = 4
section_of Attributes = 5
