-- What the rows of the table say. Their texts are ASCII, so that the bytes are the units.
use Rattle.std.specs.Prelude.{ℕ, ◌+◌, None, option_map, map}
use Rattle.world_model.specs.World as model
use Rattle.world_model.specs.World.{acc_static, acc_final, acc_native, acc_interface, acc_abstract}
use Rattle.jv_types.specs.Boot.{flag_if, NumberedClass}
use Rattle.jv_types.specs.declared.number.ClassNo.{ClassNo}
use Rattle.boot_classes.specs.declared.rows.ClassRow.{ClassRow}
use Rattle.boot_classes.specs.declared.rows.FieldRow.{FieldRow}
use Rattle.boot_classes.specs.declared.rows.MethodRow.{MethodRow}
use Rattle.boot_classes.specs.declared.rows.Kind.{Kind}
use Rattle.boot_classes.specs.declared.rows.Kind.TheVariants as kinds
use Rattle.boot_classes.specs.declared.rows.MethodKind.{MethodKind}
use Rattle.boot_classes.specs.declared.rows.MethodKind.TheVariants as method_kinds

abbrev pub field_of : FieldRow → model.Field
field_of row = record {
  name = row.0.now;
  descriptor = row.1.now;
  flags = flag_if row.2 acc_static;
  constant = None;
}

abbrev pub method_flags : MethodKind → ℕ
method_flags method_kinds.Abstract = acc_abstract
method_flags method_kinds.Native = acc_native
method_flags method_kinds.StaticNative = acc_static + acc_native

abbrev pub method_of : MethodRow → model.Method
method_of row = record {
  name = row.1.now;
  descriptor = row.2.now;
  flags = method_flags row.0;
  code = None;
}

abbrev pub class_flags : Kind → ℕ
class_flags kinds.Open = 0
class_flags kinds.Final = acc_final
class_flags kinds.Interface = acc_interface + acc_abstract

abbrev pub class_of : ClassRow → NumberedClass
class_of row = record {
  name = row.name.now;
  flags = class_flags row.kind;
  superclass = option_map (λ (c : ClassNo). c.0) row.superclass;
  interfaces = map (λ (c : ClassNo). c.0) row.interfaces.now;
  fields = map field_of row.fields.now;
  methods = map method_of row.methods.now;
}
