-- How a call ends, as the user is told.
use Rattle.std.specs.Prelude.{ℕ, List, [], ◌∷◌, codes, decimal}
use Rattle.jv_model.specs.Lines.{line_of}
use Rattle.jv_model.specs.Utf16.{printed_units}
use Rattle.jv_model.specs.End.{all_ended, uncaught, steps_spent, heap_full, stuck, output_full, stack_deep, threads_full}
use Rattle.jv_model.specs.Status.{Status, ended, bad_words, bad_input, read_fault, write_fault, no_memory, bad_journal}
use Rattle.text_model.specs.CauseWords.{cause_words}

-- the status as the process's exit status
abbrev pub status_number : Status → ℕ
status_number (ended all_ended) = 0
status_number (ended (uncaught class thread)) = 1
status_number bad_words = 2
status_number (bad_input item sub cause) = 3
status_number read_fault = 4
status_number write_fault = 5
status_number no_memory = 6
status_number (ended (steps_spent count)) = 7
status_number (ended (heap_full asked reach half)) = 8
status_number (ended stuck) = 9
status_number (ended output_full) = 10
status_number (bad_journal entry) = 11
status_number (ended (stack_deep thread)) = 12
status_number (ended threads_full) = 13

-- the status's name and its fields
unfoldable pub status_words : Status → List (List ℕ)
status_words (ended all_ended) = codes "finished" ∷ []
status_words (ended (uncaught class thread)) =
    codes "uncaught" ∷ printed_units class ∷ codes "thread" ∷ decimal thread ∷ []
status_words bad_words = codes "bad" ∷ codes "words" ∷ []
status_words (bad_input item sub cause) = codes "bad" ∷ codes "input" ∷ decimal item ∷ decimal sub ∷ cause_words cause
status_words read_fault = codes "read" ∷ codes "fault" ∷ []
status_words write_fault = codes "write" ∷ codes "fault" ∷ []
status_words no_memory = codes "no" ∷ codes "memory" ∷ []
status_words (ended (steps_spent count)) = codes "steps" ∷ codes "spent" ∷ decimal count ∷ []
status_words (ended (heap_full asked reach half)) =
    codes "heap" ∷ codes "full" ∷ codes "asked" ∷ decimal asked ∷ codes "reach" ∷ decimal reach ∷ codes "half"
    ∷ decimal half ∷ []
status_words (ended stuck) = codes "stuck" ∷ []
status_words (ended output_full) = codes "output" ∷ codes "full" ∷ []
status_words (bad_journal entry) = codes "bad" ∷ codes "journal" ∷ decimal entry ∷ []
status_words (ended (stack_deep thread)) = codes "stack" ∷ codes "deep" ∷ codes "thread" ∷ decimal thread ∷ []
status_words (ended threads_full) = codes "threads" ∷ codes "full" ∷ []

-- the last line that a user sees
abbrev pub status_line : Status → List ℕ
status_line status = line_of (codes "jvolve:" ∷ decimal (status_number status) ∷ status_words status)
