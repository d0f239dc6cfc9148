-- Code of which all classes are there, as they are in a world that was linked (JVMS 5.4).
use Rattle.std.specs.Prelude.{◌≡◌, List, ℕ, Some, true}
use Rattle.std.specs.List.{All}
use Rattle.std.specs.Option.{IfSome}
use Rattle.jv_model.specs.Descriptors.{MethodType}
use Rattle.jv_model.specs.Operand.{Operand}
use Rattle.jv_model.specs.Instruction.{Instruction, getstatic, putstatic, getfield, putfield, invokevirtual, invokespecial, invokestatic, invokeinterface, new, anewarray, checkcast}
use Rattle.jv_model.specs.Code.{Placed, Handler, MapType, map_object, MapFrame, Body}
use Rattle.world_model.specs.World.{World, Class, Method, class_in}
use Rattle.code_model.specs.TypeReading.{method_type_of}
use Rattle.link_model.specs.UseFaults.{is_class_where, are_types_there}
use Rattle.linked_laws.specs.Operands.{FieldIsLinked, MethodIsLinked, ClassIsLinked}

-- where an instruction looks at a field, a method or a class that it names
abbrev pub InstructionIsLinked : World → Instruction Operand → Type 0
InstructionIsLinked world (getstatic operand) = FieldIsLinked world operand
InstructionIsLinked world (putstatic operand) = FieldIsLinked world operand
InstructionIsLinked world (getfield operand) = FieldIsLinked world operand
InstructionIsLinked world (putfield operand) = FieldIsLinked world operand
InstructionIsLinked world (invokevirtual operand) = MethodIsLinked world operand
InstructionIsLinked world (invokespecial operand) = MethodIsLinked world operand
InstructionIsLinked world (invokestatic operand) = MethodIsLinked world operand
InstructionIsLinked world (invokeinterface operand) = MethodIsLinked world operand
InstructionIsLinked world (new operand) = ClassIsLinked world operand
InstructionIsLinked world (anewarray operand) = ClassIsLinked world operand
InstructionIsLinked world (checkcast operand) = ClassIsLinked world operand
InstructionIsLinked world other = Unit {0}

-- where a row of the exception table names the class that it catches
abbrev pub HandlerIsLinked : World → Handler Operand → Type 0
HandlerIsLinked world handler = IfSome handler.catch (ClassIsLinked world)

abbrev pub MapTypeIsLinked : World → MapType Operand → Type 0
MapTypeIsLinked world (map_object operand) = ClassIsLinked world operand
MapTypeIsLinked world other = Unit {0}

-- The class of each type of a map frame is there.
pub record FrameIsLinked (world : World) (frame : MapFrame Operand) : Type 0 where
  pub locals : All (MapTypeIsLinked world) frame.locals
  pub stack : All (MapTypeIsLinked world) frame.stack

-- The code of a method of a class: whatever its typing looks at by name is there.
pub record CodeIsLinked (world : World) (class : Class) (method : Method) (body : Body Operand) : Type 0 where
  -- the class is the one that its name finds, and that above it is there
  pub class_found : class_in world class.name ≡ Some class
  pub superclass_there : IfSome class.superclass (λ (name : List ℕ). is_class_where world (λ (above : Class). true) name ≡ true)
  -- the method has a type, of which the classes are there
  pub type : MethodType
  pub is_type : method_type_of method.descriptor ≡ Some type
  pub types_there : are_types_there world type ≡ true
  pub instructions : All (λ (placed : Placed Operand). InstructionIsLinked world placed.instruction) body.instructions
  pub handlers : All (HandlerIsLinked world) body.handlers
  pub frames : All (FrameIsLinked world) body.frames
