-- Which status of the definitions a `Status` is.
use Rattle.jv_types.specs.declared.status.Status.{Status}
use Rattle.jv_types.specs.declared.status.Status.TheVariants as statuses
use Rattle.jv_types.specs.Refusal.{cause_of}
use Rattle.jv_model.specs.End as ends
use Rattle.jv_model.specs.Status as model

abbrev pub status_of : Status → model.Status
status_of statuses.Finished = model.ended ends.all_ended
status_of (statuses.Uncaught class thread) = model.ended (ends.uncaught class.items thread.0)
status_of statuses.BadWords = model.bad_words
status_of (statuses.BadInput item sub cause) = model.bad_input item sub (cause_of cause)
status_of statuses.ReadFault = model.read_fault
status_of statuses.WriteFault = model.write_fault
status_of statuses.NoMemory = model.no_memory
status_of (statuses.StepsSpent n) = model.ended (ends.steps_spent n)
status_of (statuses.HeapFull asked reach half) = model.ended (ends.heap_full asked reach half)
status_of statuses.Stuck = model.ended ends.stuck
status_of statuses.OutputFull = model.ended ends.output_full
status_of (statuses.BadJournal entry) = model.bad_journal entry
status_of (statuses.StackDeep thread) = model.ended (ends.stack_deep thread.0)
status_of statuses.ThreadsFull = model.ended ends.threads_full
