-- The entries of its pool that a class uses, and as what (JVMS 4.1, 4.5 to 4.7, 6.5): those that its superclass,
-- interfaces, instructions, handlers and map frames name, and the descriptors of its members and of references.
use Rattle.std.specs.Prelude.{ℕ, List, [], ◌∷◌, ◌++◌, Bool, true, false, map, flat_map, option_to_list}
use Rattle.jv_model.specs.ClassData.{Const, class, fieldref, methodref, interface_methodref, name_and_type, Member}
use Rattle.jv_model.specs.ConstantPool.{const_at}
use Rattle.jv_model.specs.Instruction.{Instruction, getstatic, putstatic, getfield, putfield, invokevirtual, invokespecial, invokestatic, invokeinterface, new, anewarray, checkcast, instanceof}
use Rattle.jv_model.specs.Code.{Placed, Handler, MapType, map_object, MapFrame, Body}
use Rattle.jv_model.specs.LoadedClass.{LoadedClass}

-- As what an entry is used.
pub data Use : Type 0 where
  as_superclass : Use
  as_interface : Use
  as_field_descriptor : Use
  as_method_descriptor : Use
  -- a field, and whether it's to be static
  as_field : Bool → Use
  -- a method, and whether it's to be static
  as_method : Bool → Use
  -- the class of a new object
  as_new : Use
  -- a class or array type of `anewarray`, `checkcast`, `instanceof`, a handler or a map frame
  as_type : Use

pub record Used : Type 0 where
  pub index : ℕ
  pub use_as : Use

abbrev pub used : Use → ℕ → Used
used use_as index = record { index = index; use_as = use_as }

-- the index of the Utf8 entry that a Class entry names
abbrev pub name_index : Const → ℕ
name_index (class name) = name
name_index other = 0

-- the index of the Utf8 entry that is the descriptor in a name and type, and in a member reference
abbrev pub type_index : Const → ℕ
type_index (name_and_type name descriptor) = descriptor
type_index other = 0

abbrev pub descriptor_index : List Const → Const → ℕ
descriptor_index pool (fieldref owner pair) = type_index (const_at pool pair)
descriptor_index pool (methodref owner pair) = type_index (const_at pool pair)
descriptor_index pool (interface_methodref owner pair) = type_index (const_at pool pair)
descriptor_index pool other = 0

-- a member reference, and the descriptor in it
abbrev pub field_uses : List Const → Bool → ℕ → List Used
field_uses pool is_static index =
    used (as_field is_static) index ∷ used as_field_descriptor (descriptor_index pool (const_at pool index)) ∷ []

abbrev pub method_uses : List Const → Bool → ℕ → List Used
method_uses pool is_static index =
    used (as_method is_static) index ∷ used as_method_descriptor (descriptor_index pool (const_at pool index)) ∷ []

unfoldable pub instruction_uses : List Const → Instruction ℕ → List Used
instruction_uses pool (getstatic index) = field_uses pool true index
instruction_uses pool (putstatic index) = field_uses pool true index
instruction_uses pool (getfield index) = field_uses pool false index
instruction_uses pool (putfield index) = field_uses pool false index
instruction_uses pool (invokevirtual index) = method_uses pool false index
instruction_uses pool (invokespecial index) = method_uses pool false index
instruction_uses pool (invokestatic index) = method_uses pool true index
instruction_uses pool (invokeinterface index) = method_uses pool false index
instruction_uses pool (new index) = used as_new index ∷ []
instruction_uses pool (anewarray index) = used as_type index ∷ []
instruction_uses pool (checkcast index) = used as_type index ∷ []
instruction_uses pool (instanceof index) = used as_type index ∷ []
instruction_uses pool other = []

abbrev pub handler_uses : Handler ℕ → List Used
handler_uses row = map (used as_type) (option_to_list row.catch)

abbrev pub map_type_uses : MapType ℕ → List Used
map_type_uses (map_object index) = used as_type index ∷ []
map_type_uses other = []

abbrev pub frame_uses : MapFrame ℕ → List Used
frame_uses frame = flat_map map_type_uses (frame.locals ++ frame.stack)

abbrev pub code_uses : List Const → Body ℕ → List Used
code_uses pool body =
    flat_map (λ (p : Placed ℕ). instruction_uses pool p.instruction) body.instructions
    ++ flat_map handler_uses body.handlers ++ flat_map frame_uses body.frames

unfoldable pub uses_of : LoadedClass → List Used
uses_of loaded =
    used as_superclass loaded.file.super_class ∷ map (used as_interface) loaded.file.interfaces
    ++ map (λ (m : Member). used as_field_descriptor m.descriptor) loaded.file.fields
    ++ map (λ (m : Member). used as_method_descriptor m.descriptor) loaded.file.methods
    ++ flat_map (code_uses loaded.file.pool) (flat_map option_to_list loaded.codes)
