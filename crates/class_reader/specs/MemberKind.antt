-- Which kind of member of the definitions a `MemberKind` is.
use Rattle.class_reader.specs.declared.member.MemberKind.{MemberKind}
use Rattle.class_reader.specs.declared.member.MemberKind.TheVariants.{Field, Method}
use Rattle.jv_model.specs.ClassReading as model

abbrev pub kind_of : MemberKind → model.MemberKind
kind_of Field = model.field
kind_of Method = model.method
