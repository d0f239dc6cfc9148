-- Code that runs from its first instruction to its last, as the code of this version does.
use Rattle.std.specs.Prelude.{◌≡◌, ℕ, ◌<◌, List, [], ◌∷◌, Bool, true, false, if◌then◌else◌, ◌==◌, Option, Some, None, IsTrue, length}
use Rattle.std.specs.Option.{option_map_or}
use Rattle.jv_model.specs.Partial.{◌>>=◌}
use Rattle.straight_line_model.specs.Instruction.{Instruction, constant, arithmetic, negate, pop, get_out, print_line, return, Placed, Body}
use Rattle.straight_line_model.specs.OperandStack.{ValueType, int_type, print_stream_type, within}

-- the types below the top one, where the top one is this
abbrev pub popped : ValueType → List ValueType → Option (List ValueType)
popped int_type (int_type ∷ types) = Some types
popped print_stream_type (print_stream_type ∷ types) = Some types
popped wanted types = None

-- the types below the top one, where there is one
abbrev pub dropped : List ValueType → Option (List ValueType)
dropped [] = None
dropped (top ∷ types) = Some types

-- the types of the operands behind an instruction that goes on, where it finds its operands
abbrev pub types_after : Instruction → List ValueType → Option (List ValueType)
types_after (constant value) types = Some (int_type ∷ types)
types_after (arithmetic operation) types = do
  once ← popped int_type types
  twice ← popped int_type once
  Some (int_type ∷ twice)
types_after negate types = do
  others ← popped int_type types
  Some (int_type ∷ others)
types_after pop types = dropped types
types_after get_out types = Some (print_stream_type ∷ types)
types_after print_line types = do
  others ← popped int_type types
  popped print_stream_type others
types_after return types = None

abbrev pub is_return : Instruction → Bool
is_return return = true
is_return other = false

-- From operands of these types on, each instruction finds its operands on a stack that never passes max_stack, and `return` stands last
-- and nowhere else.
abbrev pub is_straight : ℕ → List ValueType → List Placed → Bool
is_straight max_stack types [] = false
is_straight max_stack types (first ∷ others) =
    if length others == 0 then is_return first.instruction
    else option_map_or (λ after. is_straight max_stack after others) (types_after first.instruction types >>= within max_stack) false

-- each instruction begins where the one before it ends, and the first at this place
abbrev pub FollowEachOther : ℕ → List Placed → Type 0
FollowEachOther place [] = Unit {0}
FollowEachOther place (first ∷ others) = (first.pc ≡ place) × (first.pc < first.next) × FollowEachOther first.next others

pub record IsStraightLine (body : Body) : Type 0 where
  pub places : FollowEachOther 0 body.instructions
  pub operands : IsTrue (is_straight body.max_stack [] body.instructions)
