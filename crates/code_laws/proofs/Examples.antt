-- Code attributes, with what is read of them by JVMS 4.7.3, 4.7.4, 4.9.1 and 6.5, worked out by
-- hand.
use Rattle.std.proofs.Common.{◌≡◌, ℕ, List, [], ◌∷◌, ◌++◌, length, map, Some, Result, Ok, Err, refl, pos}
use Rattle.std.specs.Prelude.{codes, neg_ℤ}
use Rattle.jv_model.specs.Refusal.{Cause, wrong_operand, wrong_target, wrong_map_frame, unsupported, wrong_shape}
use Rattle.jv_model.specs.ClassData.{Const, gap, utf8, float, class, name_and_type, interface_methodref, Member, ClassData}
use Rattle.jv_model.specs.ClassBytes.{u2, u4, table, attribute_bytes}
use Rattle.jv_model.specs.Flow.{targets_of}
use Rattle.jv_model.specs.Instruction.{Instruction, increment, tableswitch, return_void, invokeinterface, nop}
use Rattle.jv_model.specs.Code.{Placed, Handler, MapFrame, map_int, map_argument, map_long, Body}
use Rattle.code_model.specs.TypeReading.{are_parts, before_semicolon, type_at, dimensions, parameters_within}
use Rattle.code_model.specs.Formats.{primitive_of}
use Rattle.code_model.specs.Opcodes.{constants, loads, stores, stacks, maths, conversions, comparisons, controls, references_of, extended, format_of}
use Rattle.code_model.specs.OperandReading.{targets_at, entry_at, interface_call_at, table_at, pairs_at, lookup_at}
use Rattle.code_model.specs.InstructionReading.{instruction_at, instructions_within}
use Rattle.code_model.specs.StackMapEntries.{tagged_type_at, entry_types_at, extended_at, typed_at, entries_at}
use Rattle.code_model.specs.CodeShape.{handler_at, handlers_at, inner_at, inners_at, parts_at, parts_of}
use Rattle.code_model.specs.CodePlaces.{target_fault, handler_fault}
use Rattle.code_model.specs.FirstLocals.{parameter_types}
use Rattle.code_model.specs.StackMaps.{known_types, types_of, frame_of}
use Rattle.code_model.specs.CodeReading.{frames_from, body_at}
use Rattle.code_model.specs.SpellsCode.{handler_bytes}

-- of a class Main with a static method m of an int, a Main and a long
abbrev pool : List Const
pool =
    gap ∷ utf8 (codes "StackMapTable") ∷ utf8 (codes "m") ∷ utf8 (codes "(ILMain;J)V") ∷ float 0
    ∷ utf8 (codes "Main") ∷ class 5 ∷ name_and_type 2 3 ∷ interface_methodref 6 7 ∷ []

abbrev method : Member
method = record { flags = 0x0008; name = 2; descriptor = 3; attributes = [] }

abbrev file : ClassData
file =
    record {
      minor = 0;
      major = 52;
      pool = pool;
      flags = 0x0021;
      this_class = 6;
      super_class = 6;
      interfaces = [];
      fields = [];
      methods = method ∷ [];
      attributes = [];
    }

abbrev read : List ℕ → Result (Body ℕ) Cause
read bytes = body_at file 0 method bytes

-- with a stack of two words
abbrev attribute : ℕ → List ℕ → List (Handler ℕ) → List (List ℕ) → List ℕ
attribute max_locals code rows maps =
    u2 2 ++ (u2 max_locals ++ (u4 (length code) ++ (code ++ (table handler_bytes rows
    ++ table (λ run. attribute_bytes (record { name = 1; bytes = run })) maps))))

abbrev of_code : List ℕ → List ℕ
of_code code = attribute 4 code [] []

-- of a method that returns at once, with a map of one frame
abbrev of_frame : ℕ → List ℕ → List ℕ
of_frame max_locals frame = attribute max_locals (0xB1 ∷ []) [] ((u2 1 ++ frame) ∷ [])

abbrev placed : ℕ → ℕ → Instruction ℕ → Placed ℕ
placed pc next instruction = record { pc = pc; next = next; instruction = instruction }

abbrev body : ℕ → List (Placed ℕ) → List (Handler ℕ) → List (MapFrame ℕ) → Result (Body ℕ) Cause
body max_locals instructions rows frames =
    Ok (
    record {
      max_stack = 2;
      max_locals = max_locals;
      instructions = instructions;
      handlers = rows;
      frames = frames;
    })

abbrev code_is : List (Placed ℕ) → Result (Body ℕ) Cause
code_is instructions = body 4 instructions [] []

abbrev row : Handler ℕ
row = record { from = 0; to = 2; target = 1; catch = Some 6 }

abbrev examples : List (List ℕ × Result (Body ℕ) Cause)
examples =
    -- `wide` before iinc: a local and a number of two bytes each
    (
      of_code (0xC4 ∷ 0x84 ∷ 0x01 ∷ 0x00 ∷ 0xFF ∷ 0xFE ∷ 0xB1 ∷ []),
      code_is (placed 0 6 (increment 256 (neg_ℤ (pos 2))) ∷ placed 6 7 return_void ∷ []),
    )
    -- `wide` before nop, which has no local
    ∷ (of_code (0xC4 ∷ 0x00 ∷ 0xB1 ∷ []), Err (wrong_operand 0 0))
    -- tableswitch at 1: two bytes of padding, keys -1 and 0; the default inside it, and behind it
    ∷ (
      of_code (0x00 ∷ 0xAA ∷ 0x07 ∷ 0x07 ∷ (u4 19 ++ (u4 0xFFFFFFFF ++ (u4 0 ++ (u4 19
          ++ (u4 0xFFFFFFFF ++ (0xB1 ∷ []))))))),
      Err (wrong_target 0 1),
    )
    ∷ (
      of_code (0x00 ∷ 0xAA ∷ 0x07 ∷ 0x07 ∷ (u4 23 ++ (u4 0xFFFFFFFF ++ (u4 0 ++ (u4 23
          ++ (u4 0xFFFFFFFF ++ (0xB1 ∷ []))))))),
      code_is (placed 0 1 nop ∷ placed 1 24 (tableswitch 24 (neg_ℤ (pos 1)) (24 ∷ 0 ∷ []))
          ∷ placed 24 25 return_void ∷ []),
    )
    -- lookupswitch whose keys are equal
    ∷ (
      of_code (0xAB ∷ 0x00 ∷ 0x00 ∷ 0x00 ∷ (u4 0 ++ (u4 2 ++ (u4 7 ++ (u4 0 ++ (u4 7 ++ u4 0)))))),
      Err (wrong_operand 0 0),
    )
    -- ldc of a float
    ∷ (of_code (0x12 ∷ 0x04 ∷ []), Err (unsupported 0 0))
    -- invokeinterface: the receiver, an int, a reference and a long are five words
    ∷ (
      of_code (0xB9 ∷ 0x00 ∷ 0x08 ∷ 0x05 ∷ 0x00 ∷ 0xB1 ∷ []),
      code_is (placed 0 5 (invokeinterface 8) ∷ placed 5 6 return_void ∷ []),
    )
    ∷ (of_code (0xB9 ∷ 0x00 ∷ 0x08 ∷ 0x04 ∷ 0x00 ∷ 0xB1 ∷ []), Err (wrong_operand 0 0))
    -- a branch into the middle of an instruction, and one before the code
    ∷ (of_code (0xA7 ∷ 0x00 ∷ 0x01 ∷ []), Err (wrong_target 0 0))
    ∷ (of_code (0xA7 ∷ 0xFF ∷ 0xFF ∷ []), Err (wrong_target 0 0))
    -- a row of the exception table up to the end of the code
    ∷ (
      attribute 4 (0x00 ∷ 0xB1 ∷ []) (row ∷ []) [],
      body 4 (placed 0 1 nop ∷ placed 1 2 return_void ∷ []) (row ∷ []) [],
    )
    -- chop of one local; the descriptor's reference is kept as the parameter that it is
    ∷ (
      of_frame 4 (0xFA ∷ 0x00 ∷ 0x00 ∷ []),
      body 4 (placed 0 1 return_void ∷ []) []
          (record { pc = 0; locals = map_int ∷ map_argument 1 ∷ []; stack = [] } ∷ []),
    )
    -- the descriptor's locals take four words, of which the long takes two
    ∷ (
      of_frame 4 (0x00 ∷ []),
      body 4 (placed 0 1 return_void ∷ []) []
          (record { pc = 0; locals = map_int ∷ map_argument 1 ∷ map_long ∷ []; stack = [] } ∷ []),
    )
    ∷ (of_frame 3 (0x00 ∷ []), Err (wrong_map_frame 0 0))
    -- behind a tag that isn't known nothing is looked at; behind a float all is
    ∷ (of_frame 4 (0x40 ∷ 0x09 ∷ 0x00 ∷ []), Err (wrong_map_frame 0 0))
    ∷ (of_frame 4 (0x40 ∷ 0x02 ∷ []), Err (wrong_map_frame 0 0))
    ∷ (of_frame 4 (0x40 ∷ 0x02 ∷ 0x00 ∷ []), Err (wrong_shape 0 23))
    -- a second StackMapTable
    ∷ (attribute 4 (0xB1 ∷ []) [] (u2 0 ∷ u2 0 ∷ []), Err (wrong_shape 0 21)) ∷ []

-- each is read so
examples_are_read : map (λ (example : List ℕ × Result (Body ℕ) Cause). read example.0) examples
    ≡ map (λ (example : List ℕ × Result (Body ℕ) Cause). example.1) examples
unfolding are_parts before_semicolon type_at dimensions parameters_within primitive_of constants
    loads stores stacks maths conversions comparisons controls references_of extended format_of
    targets_at entry_at interface_call_at table_at pairs_at lookup_at instruction_at
    instructions_within tagged_type_at entry_types_at extended_at typed_at entries_at handler_at
    handlers_at inner_at inners_at parts_at parts_of target_fault handler_fault parameter_types
    known_types types_of frame_of frames_from body_at targets_of
examples_are_read = refl
