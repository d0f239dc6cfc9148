-- Which class data of the definitions a `ClassData` is.
use Rattle.std.specs.Prelude.{List, map}
use Rattle.jv_types.specs.declared.class_data.Const.{Const}
use Rattle.jv_types.specs.declared.class_data.Const.TheVariants.{Gap, Utf8, Integer, Float, Long, Double, Class, String, Fieldref, Methodref, InterfaceMethodref, NameAndType, MethodHandle, MethodType, InvokeDynamic}
use Rattle.jv_types.specs.declared.class_data.Attr.{Attr}
use Rattle.jv_types.specs.declared.class_data.Member.{Member}
use Rattle.jv_types.specs.declared.class_data.ClassData.{ClassData}
use Rattle.jv_model.specs.ClassData as model

abbrev pub const_of : Const → model.Const
const_of Gap = model.gap
const_of (Utf8 text) = model.utf8 text.items
const_of (Integer value) = model.integer value
const_of (Float bits) = model.float bits
const_of (Long value) = model.long value
const_of (Double bits) = model.double bits
const_of (Class name) = model.class name
const_of (String text) = model.string text
const_of (Fieldref owner pair) = model.fieldref owner pair
const_of (Methodref owner pair) = model.methodref owner pair
const_of (InterfaceMethodref owner pair) = model.interface_methodref owner pair
const_of (NameAndType name descriptor) = model.name_and_type name descriptor
const_of (MethodHandle kind member) = model.method_handle kind member
const_of (MethodType descriptor) = model.method_type descriptor
const_of (InvokeDynamic method pair) = model.invoke_dynamic method pair

abbrev pub attr_of : Attr → model.Attr
attr_of attribute = record { name = attribute.name; bytes = attribute.bytes.items }

abbrev pub attrs_of : List Attr → List model.Attr
attrs_of attributes = map attr_of attributes

abbrev pub member_of : Member → model.Member
member_of member = record {
  flags = member.flags;
  name = member.name;
  descriptor = member.descriptor;
  attributes = attrs_of member.attributes.items;
}

abbrev pub members_of : List Member → List model.Member
members_of members = map member_of members

abbrev pub pool_of : List Const → List model.Const
pool_of pool = map const_of pool

abbrev pub class_data_of : ClassData → model.ClassData
class_data_of file = record {
  minor = file.minor;
  major = file.major;
  pool = pool_of file.pool.items;
  flags = file.flags;
  this_class = file.this_class;
  super_class = file.super_class;
  interfaces = file.interfaces.items;
  fields = members_of file.fields.items;
  methods = members_of file.methods.items;
  attributes = attrs_of file.attributes.items;
}
