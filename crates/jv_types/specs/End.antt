-- Which end of the definitions an `End` is, where each class number has a name.
use Rattle.std.specs.Prelude.{ℕ, List}
use Rattle.jv_types.specs.declared.end.End.{End}
use Rattle.jv_types.specs.declared.end.End.TheVariants as ends
use Rattle.jv_model.specs.End as model

abbrev pub end_of : (ℕ → List ℕ) → End → model.End
end_of name_of ends.AllEnded = model.all_ended
end_of name_of (ends.Uncaught class thread) = model.uncaught (name_of class.0) thread.0
end_of name_of (ends.StepsSpent n) = model.steps_spent n
end_of name_of (ends.HeapFull asked reach half) = model.heap_full asked reach half
end_of name_of ends.Stuck = model.stuck
end_of name_of ends.OutputFull = model.output_full
end_of name_of (ends.StackDeep thread) = model.stack_deep thread.0
end_of name_of ends.ThreadsFull = model.threads_full
