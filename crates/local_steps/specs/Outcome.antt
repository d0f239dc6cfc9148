-- What a local step asks of the words of a frame, and what it comes to.
use Rattle.std.specs.Prelude.{ℕ, ℤ, ◌+ℤ◌, ◌+◌, List, ◌≤◌, length, Option, Some, None}
use Rattle.std.specs.Int.{w32, int_wrap}
use Rattle.jv_model.specs.Instruction.{StackForm, pop_one, pop_two, swap}
use Rattle.jv_model.specs.StackForms.{upper_words, lower_words}
use Rattle.machine_model.specs.Value.{Value, int}
use Rattle.machine_model.specs.LocalStep.{with_local}

-- there are operands after the step, and no more than that
abbrev pub Fits : ℕ → Option (List Value) → Type 0
Fits most None = ⊥
Fits most (Some operands) = length operands ≤ most

-- the locals with more in an int than was there
abbrev pub incremented_in : ℕ → ℤ → List Value → Option Value → Option (List Value)
incremented_in n by locals (Some (int a)) = with_local n (int (int_wrap w32 (a +ℤ by))) locals
incremented_in n by locals other = None

-- the words that a stack form puts back
abbrev pub words_back : StackForm → ℕ
words_back pop_one = 0
words_back pop_two = 0
words_back swap = 2
words_back other = upper_words other + lower_words other + upper_words other
