-- The class data with what stands behind the constant pool.
use Rattle.std.specs.Prelude.{ℕ, List}
use Rattle.jv_types.specs.ClassData.{members_of, attrs_of}
use Rattle.jv_model.specs.ClassData.{Const, ClassData}
use Rattle.class_reader.specs.declared.class_file.ClassBody.{ClassBody}

abbrev pub class_with : ℕ → ℕ → List Const → ClassBody → ClassData
class_with minor major pool body = record {
  minor = minor;
  major = major;
  pool = pool;
  flags = body.flags;
  this_class = body.this_class;
  super_class = body.super_class;
  interfaces = body.interfaces.items;
  fields = members_of body.fields.items;
  methods = members_of body.methods.items;
  attributes = attrs_of body.attributes.items;
}
