-- The code of a main method, where this version runs all of it: no instruction of it branches, throws or leaves the
-- method but by `return`.
use Rattle.std.specs.Prelude.{ℕ, ◌+◌, List, [], ◌∷◌, Bool, false, ◌&&◌, if◌then◌else◌, Option, Some, None, option_map, bytes_eq, codes}
use Rattle.jv_model.specs.Partial.{◌>>=◌}
use Rattle.jv_model.specs.Operand.{MemberReference, Operand, member_named, int_constant}
use Rattle.jv_model.specs.Instruction as methods
use Rattle.jv_model.specs.Code as code
use Rattle.straight_line_model.specs.IntOperation.{IntOperation, add, subtract, multiply, conjunction, disjunction, exclusive_disjunction}
use Rattle.straight_line_model.specs.Instruction.{Instruction, constant, arithmetic, negate, pop, get_out, print_line, return, Placed, Body}
use Rattle.straight_line_model.specs.StraightLine.{is_return}

-- ---- what operands name

abbrev pub has_signature : List ℕ → List ℕ → MemberReference → Bool
has_signature name descriptor member =
    bytes_eq member.name name && bytes_eq member.descriptor descriptor

abbrev pub is_member : List ℕ → List ℕ → List ℕ → Operand → Bool
is_member class name descriptor (member_named member) =
    bytes_eq member.class class && has_signature name descriptor member
is_member class name descriptor other = false

-- `java/lang/System.out`
abbrev pub is_out : Operand → Bool
is_out operand =
    is_member (codes "java/lang/System") (codes "out") (codes "Ljava/io/PrintStream;") operand

-- `java/io/PrintStream.println (I)V`
abbrev pub is_println : Operand → Bool
is_println operand = is_member (codes "java/io/PrintStream") (codes "println") (codes "(I)V") operand

-- ---- instructions (JVMS 6.5)

-- the arithmetic that needs no divisor
abbrev pub operation_of : methods.Arithmetic → Option IntOperation
operation_of methods.add = Some add
operation_of methods.subtract = Some subtract
operation_of methods.multiply = Some multiply
operation_of methods.bit_and = Some conjunction
operation_of methods.bit_or = Some disjunction
operation_of methods.bit_xor = Some exclusive_disjunction
operation_of other = None

abbrev pub integer_of : Operand → Option Instruction
integer_of (int_constant value) = Some (constant value)
integer_of other = None

abbrev pub where_true : Bool → Instruction → Option Instruction
where_true test instruction = if test then Some instruction else None

-- An instruction as this version runs it, where it does.
abbrev pub instruction_of : methods.Instruction Operand → Option Instruction
instruction_of (methods.push_int value) = Some (constant value)
instruction_of (methods.ldc operand) = integer_of operand
instruction_of (methods.int_arithmetic operation) = option_map arithmetic (operation_of operation)
instruction_of methods.int_negate = Some negate
instruction_of (methods.stack methods.pop_one) = Some pop
instruction_of (methods.getstatic operand) = where_true (is_out operand) get_out
instruction_of (methods.invokevirtual operand) = where_true (is_println operand) print_line
instruction_of methods.return_void = Some return
instruction_of other = None

-- where it runs all of them
unfoldable pub instructions_of : List (code.Placed Operand) → Option (List Instruction)
instructions_of [] = Some []
instructions_of (first ∷ others) = do
  here ← instruction_of first.instruction
  rest ← instructions_of others
  Some (here ∷ rest)

-- ---- the code of a method

-- those up to the first `return`, which ends the method: none behind it is reached
abbrev pub up_to_return : List Instruction → Option (List Instruction)
up_to_return [] = None
up_to_return (first ∷ others) =
    if is_return first then Some (first ∷ [])
    else option_map (λ rest. first ∷ rest) (up_to_return others)

-- An instruction's place is its number here: nothing that a run shows tells how many bytes an instruction has.
abbrev pub numbered_from : ℕ → List Instruction → List Placed
numbered_from number [] = []
numbered_from number (first ∷ others) =
    record { pc = number; next = number + 1; instruction = first } ∷ numbered_from (number + 1) others

abbrev pub with_instructions : code.Body Operand → List Instruction → Body
with_instructions body instructions = record {
  max_stack = body.max_stack;
  max_locals = body.max_locals;
  instructions = numbered_from 0 instructions;
}

-- the code, where this version runs it
abbrev pub straight_body : code.Body Operand → Option Body
straight_body body = do
  instructions ← instructions_of body.instructions
  reached ← up_to_return instructions
  Some (with_instructions body reached)
