-- What an index of the constant pool names (JVMS 4.4), and code in which names stand in the place
-- of indices.
use Rattle.std.specs.Prelude.{ℕ, ◌+◌, List, [], Option, Some, None, option_map, map, slice_get, unwrap_or}
use Rattle.jv_model.specs.ClassData.{Const, integer, long, class, string, fieldref, methodref, interface_methodref, name_and_type}
use Rattle.jv_model.specs.Descriptors.{FieldType, double_type, float_type, long_type, class_type, array_of, MethodType}
use Rattle.jv_model.specs.Operand.{MemberReference, Operand, class_named, member_named, int_constant, long_constant, string_constant}
use Rattle.jv_model.specs.Code.{MapType, map_top, map_int, map_long, map_null, map_this, map_object, map_argument, map_new, MapFrame, Placed, Handler, Body}
use Rattle.code_model.specs.TypeReading.{method_type_of, parameter_words, descriptor_of}
use Rattle.code_model.specs.MappedInstruction.{mapped_instruction}
use Rattle.jv_model.specs.ConstantPool.{const_at, units_at}

-- ---- what an index names; an entry of another kind names the empty text

-- the name of a class (JVMS 4.4.1)
abbrev pub name_of_class : List Const → Const → List ℕ
name_of_class pool (class name) = units_at pool name
name_of_class pool other = []

abbrev pub class_name_at : List Const → ℕ → List ℕ
class_name_at pool index = name_of_class pool (const_at pool index)

-- the name and the descriptor of a member (JVMS 4.4.6), of that class
abbrev pub member_of : List Const → List ℕ → Const → MemberReference
member_of pool owner (name_and_type name descriptor) =
    record { class = owner; name = units_at pool name; descriptor = units_at pool descriptor }
member_of pool owner other = record { class = owner; name = []; descriptor = [] }

-- a member reference (JVMS 4.4.2)
abbrev pub member_by : List Const → Const → MemberReference
member_by pool (fieldref owner pair) =
    member_of pool (class_name_at pool owner) (const_at pool pair)
member_by pool (methodref owner pair) =
    member_of pool (class_name_at pool owner) (const_at pool pair)
member_by pool (interface_methodref owner pair) =
    member_of pool (class_name_at pool owner) (const_at pool pair)
member_by pool other = record { class = []; name = []; descriptor = [] }

abbrev pub member_at : List Const → ℕ → MemberReference
member_at pool index = member_by pool (const_at pool index)

abbrev pub operand_by : List Const → Const → Operand
operand_by pool (integer value) = int_constant value
operand_by pool (long value) = long_constant value
operand_by pool (string text) = string_constant (units_at pool text)
operand_by pool (fieldref owner pair) = member_named (member_by pool (fieldref owner pair))
operand_by pool (methodref owner pair) = member_named (member_by pool (methodref owner pair))
operand_by pool (interface_methodref owner pair) =
    member_named (member_by pool (interface_methodref owner pair))
operand_by pool other = class_named (name_of_class pool other)

-- what an instruction's index names
unfoldable pub operand_at : List Const → ℕ → Operand
operand_at pool index = operand_by pool (const_at pool index)

-- the words of a call's arguments, the receiver's among them, where the method's descriptor is well
-- formed
abbrev pub argument_words : List Const → ℕ → Option ℕ
argument_words pool index =
    option_map (λ (type : MethodType). 1 + parameter_words type)
    (method_type_of (member_at pool index).descriptor)

-- ---- code with names

-- The type of a parameter, as a frame keeps it (JVMS 4.10.1.2). Of a float and a double it keeps
-- the words alone.
abbrev pub argument_type : FieldType → MapType Operand
argument_type (class_type name) = map_object (class_named name)
argument_type (array_of component) = map_object (class_named (descriptor_of (array_of component)))
argument_type long_type = map_long
argument_type double_type = map_long
argument_type float_type = map_top
argument_type other = map_int

-- the type of a method's parameter with that number, where there is one
abbrev pub argument_at : Option MethodType → ℕ → MapType Operand
argument_at None index = map_top
argument_at (Some type) index =
    unwrap_or (option_map argument_type (slice_get type.parameters index)) map_top

abbrev pub named_type : List Const → Option MethodType → MapType ℕ → MapType Operand
named_type pool method map_top = map_top
named_type pool method map_int = map_int
named_type pool method map_long = map_long
named_type pool method map_null = map_null
named_type pool method map_this = map_this
named_type pool method (map_object index) = map_object (operand_at pool index)
named_type pool method (map_argument index) = argument_at method index
named_type pool method (map_new pc) = map_new pc

abbrev pub named_frame : List Const → Option MethodType → MapFrame ℕ → MapFrame Operand
named_frame pool method frame =
    record {
      pc = frame.pc;
      locals = map (named_type pool method) frame.locals;
      stack = map (named_type pool method) frame.stack;
    }

abbrev pub named_placed : List Const → Placed ℕ → Placed Operand
named_placed pool placed =
    record {
      pc = placed.pc;
      next = placed.next;
      instruction = mapped_instruction (operand_at pool) placed.instruction;
    }

abbrev pub named_handler : List Const → Handler ℕ → Handler Operand
named_handler pool row =
    record {
      from = row.from;
      to = row.to;
      target = row.target;
      catch = option_map (operand_at pool) row.catch;
    }

-- the code of a method with that descriptor
unfoldable pub named : List Const → List ℕ → Body ℕ → Body Operand
named pool descriptor body =
    record {
      max_stack = body.max_stack;
      max_locals = body.max_locals;
      instructions = map (named_placed pool) body.instructions;
      handlers = map (named_handler pool) body.handlers;
      frames = map (named_frame pool (method_type_of descriptor)) body.frames;
    }
