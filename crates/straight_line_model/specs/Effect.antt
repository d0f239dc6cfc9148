-- What an instruction does when it is run (JVMS 6.5).
use Rattle.std.specs.Prelude.{ℕ, ℤ, List, [], ◌∷◌, ◌++◌, Option, Some, None, option_map}
use Rattle.std.specs.Fmt.{signed_decimal}
use Rattle.straight_line_model.specs.IntOperation.{int_result, int_negated}
use Rattle.straight_line_model.specs.Instruction.{Instruction, constant, arithmetic, negate, pop, get_out, print_line, return}
use Rattle.straight_line_model.specs.OperandStack.{Value, int, print_stream, within}

pub data Effect : Type 0 where
  -- the frame goes on behind the instruction with this operand stack, and these bytes are printed
  goes_on : List Value → List ℕ → Effect
  -- the method ends, and its frame is gone
  returns : Effect

-- what `println` writes of an int: its decimal, and a line feed
abbrev pub printed_line : ℤ → List ℕ
printed_line value = signed_decimal value ++ 10 ∷ []

-- the effect on a frame with that operand stack, where the instruction finds its operands on it
abbrev pub effect_of : Instruction → List Value → Option Effect
effect_of (constant value) stack = Some (goes_on (int value ∷ stack) [])
effect_of (arithmetic operation) (int b ∷ int a ∷ stack) = Some (goes_on (int (int_result operation a b) ∷ stack) [])
effect_of negate (int a ∷ stack) = Some (goes_on (int (int_negated a) ∷ stack) [])
effect_of pop (operand ∷ stack) = Some (goes_on stack [])
effect_of get_out stack = Some (goes_on (print_stream ∷ stack) [])
effect_of print_line (int value ∷ print_stream ∷ stack) = Some (goes_on stack (printed_line value))
effect_of return stack = Some returns
effect_of other stack = None

-- the effect, where it leaves no more than max_stack operands
abbrev pub fitting : ℕ → Effect → Option Effect
fitting max_stack (goes_on stack bytes) = option_map (λ operands. goes_on operands bytes) (within max_stack stack)
fitting max_stack returns = Some returns
