-- What holds of every state that verified code leads to: values are of the types that typing finds (JVMS 4.10.1), in
-- the present world.
use Rattle.std.specs.Prelude.{◌≡◌, ℕ, IsTrue, List, [], ◌∷◌, Bool, true, false, ◌&&◌, ◌||◌, not, if◌then◌else◌, Option, Some, None, is_some, bytes_eq, codes, option_map, option_and_then, unwrap_or, drop, length, map, flat_map}
use Rattle.std.specs.List.{list_all}
use lib.Pointwise.{pointwise}
use Rattle.jv_model.specs.Partial.{◌>>=◌, passes}
use Rattle.jv_model.specs.Descriptors.{class_type, array_of}
use Rattle.jv_model.specs.Operand.{MemberReference, Operand, member_named}
use Rattle.jv_model.specs.Instruction.{Instruction, invokevirtual, invokespecial, invokestatic, invokeinterface}
use Rattle.world_model.specs.World.{World, Class, Method, class_in, declared_method, is_static_method, is_stub}
use Rattle.world_model.specs.BootNames.{java_string}
use Rattle.world_model.specs.Members.{method_named}
use Rattle.world_model.specs.Layout.{declared, layout}
use Rattle.code_model.specs.TypeReading.{method_type_of}
use Rattle.typing_model.specs.VerificationType.{VerificationType, TypeFrame}
use Rattle.typing_model.specs.Environment.{Environment, environment_of}
use Rattle.typing_model.specs.CallTypes.{results}
use Rattle.typing_model.specs.InstructionTypes.{type_step}
use Rattle.typing_model.specs.FailingPlace.{type_frame_at}
use Rattle.machine_model.specs.Heap.{Contents, instance, array, string, contents_at}
use Rattle.machine_model.specs.State.{Frame, Thread, Static, ClassMonitor, Interned, State}
use Rattle.machine_model.specs.LocalStep.{instruction_at}
use Rattle.machine_model.specs.Monitors.{is_synchronized}
use Rattle.machine_model.specs.WellKept.{WellKept}
use Rattle.machine_model.specs.TypedValues.{HeapTyping, heap_typing, is_in_use, fits_frame, holds, is_declared}

-- ---- frames

-- the method that an instruction calls
abbrev pub called : Instruction Operand → Option MemberReference
called (invokevirtual (member_named m)) = Some m
called (invokespecial (member_named m)) = Some m
called (invokestatic (member_named m)) = Some m
called (invokeinterface (member_named m)) = Some m
called other = None

-- the instruction calls a method of that descriptor
abbrev pub calls : List ℕ → Instruction Operand → Bool
calls descriptor instruction = passes (λ (m : MemberReference). bytes_eq m.descriptor descriptor) (called instruction)

-- the result of a method of that descriptor, where it gives one
abbrev pub result_types : List ℕ → List VerificationType
result_types descriptor = unwrap_or (option_map results (method_type_of descriptor)) []

-- the types of the current frame at a pc
abbrev pub current_types : Environment → ℕ → Option TypeFrame
current_types e pc = type_frame_at e.world e.class e.method pc

-- The types of a frame that waits at a pc for a method of that descriptor: the locals are those before its call, which a
-- handler of what the call throws finds; the operands are those behind it, without the result.
abbrev pub waiting_types : List ℕ → Environment → ℕ → Option TypeFrame
waiting_types descriptor e pc = do
  before ← current_types e pc
  placed ← instruction_at e.body pc
  after ← type_step e pc placed.instruction before
  if calls descriptor placed.instruction
      then Some (record before { stack = drop (length (result_types descriptor)) after.stack }) else None

-- the frames of synchronized methods that aren't static hold their receivers, and no others hold anything
abbrev pub holds_rightly : HeapTyping → Method → Option ℕ → Bool
holds_rightly heap method (Some id) = is_synchronized method && not (is_static_method method) && is_in_use heap id
holds_rightly heap method None = not (is_synchronized method) || is_static_method method

abbrev pub frame_environment : World → Frame → Option Environment
frame_environment world frame = option_and_then
    (λ (c : Class). option_and_then (environment_of world c)
    (declared_method frame.method.name frame.method.descriptor c))
    (class_in world frame.method.class)

-- the frame fits these types of its method
abbrev pub frame_conforms : HeapTyping → (Environment → Option TypeFrame) → Frame → Bool
frame_conforms heap types_of frame = passes
    (λ e. passes (fits_frame heap e frame) (types_of e) && holds_rightly heap e.method frame.held)
    (frame_environment heap.world frame)

-- the frames that wait, the first of them for a method of that descriptor
unfoldable pub callers_conform : HeapTyping → List ℕ → List Frame → Bool
callers_conform heap descriptor [] = true
callers_conform heap descriptor (frame ∷ callers) =
    frame_conforms heap (λ e. waiting_types descriptor e frame.pc) frame
    && callers_conform heap frame.method.descriptor callers

abbrev pub frames_conform : HeapTyping → List Frame → Bool
frames_conform heap [] = true
frames_conform heap (frame ∷ callers) =
    frame_conforms heap (λ e. current_types e frame.pc) frame
    && callers_conform heap frame.method.descriptor callers

-- ---- threads

-- a thread can begin the method: it's static, has code, and takes nothing or the program's arguments
abbrev pub can_begin : World → MemberReference → Bool
can_begin world m =
    (bytes_eq m.descriptor (codes "()V") || bytes_eq m.descriptor (codes "([Ljava/lang/String;)V"))
    && passes (λ (method : Method). is_static_method method && is_some method.code) (method_named world m)

abbrev pub thread_conforms : HeapTyping → Thread → Bool
thread_conforms heap thread =
    frames_conform heap thread.frames && list_all (can_begin heap.world) thread.to_start

-- ---- objects

abbrev pub is_present : World → List ℕ → Bool
is_present world name = passes (λ (c : Class). not (is_stub c)) (class_in world name)

-- An object in use has just the fields of its class, which isn't an old version. A String is one by its units.
abbrev pub contents_conform : HeapTyping → Contents → Bool
contents_conform heap (instance name values) = is_present heap.world name && not (bytes_eq name java_string)
    && pointwise (λ (f : MemberReference) value. is_declared heap f.descriptor value) (layout heap.world name) values
contents_conform heap (array type elements) = list_all (holds heap type) elements
contents_conform heap (string units) = true

abbrev pub is_string : List ℕ → Contents → Bool
is_string units (string own) = bytes_eq own units
is_string units other = false

-- the string of a literal is in use, and has its units
abbrev pub literal_conforms : State → HeapTyping → Interned → Bool
literal_conforms state heap row =
    is_in_use heap row.id && passes (is_string row.units) (contents_at state.heap row.id)

-- ---- a state

-- What threads share conforms, with these objects in use: what static fields and literals name is among them, and so is
-- what they hold.
pub record SharedConforms (state : State) (live : ℕ → Bool) : Type 0 where
  pub statics : IsTrue
      (list_all (λ (s : Static). is_declared (heap_typing state live) s.field.descriptor s.value) state.statics)
  -- each static field of each class is there, and each class's monitor
  pub static_fields : map (λ (s : Static). s.field) state.statics ≡ flat_map (declared true) state.world.classes
  pub class_monitors :
      map (λ (m : ClassMonitor). m.class) state.class_monitors ≡ map (λ (c : Class). c.name) state.world.classes
  pub literals : IsTrue (list_all (literal_conforms state (heap_typing state live)) state.interned)
  -- the first object is the array that main is called with
  pub arguments : (heap_typing state live).type_at 0 ≡ Some (array_of (class_type java_string))
  pub objects : (id : ℕ) (contents : Contents) → IsTrue (live id) → contents_at state.heap id ≡ Some contents
      → IsTrue (contents_conform (heap_typing state live) contents)

-- With these objects in use the state conforms; what threads name is among them, too.
pub record ConformsWith (state : State) (live : ℕ → Bool) : Type 0 where
  pub threads : IsTrue (list_all (thread_conforms (heap_typing state live)) state.threads)
  pub shared : SharedConforms state live

pub record Conforms (state : State) : Type 0 where
  pub live : ℕ → Bool
  pub is : ConformsWith state live
  pub kept : WellKept state
