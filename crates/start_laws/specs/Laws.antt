-- What the laws of the start say.
use Rattle.std.specs.Prelude.{◌≡◌, ◌⊎◌, ℕ, List, true, Some, None}
use Rattle.std.specs.List.{list_all}
use Rattle.jv_model.specs.Journal.{Entry, run}
use Rattle.machine_model.specs.Machine.{Program, Machine}
use Rattle.machine_model.specs.Ends.{end_of}
use Rattle.machine_model.specs.Legal.{may_attempt}
use Rattle.machine_model.specs.Start.{start}
use Rattle.machine_model.specs.Conforms.{Conforms}
use Rattle.journal_model.specs.Journal.{made, replayed}
use Rattle.machine_laws.specs.Deeds.{is_run}
use Rattle.start_laws.specs.Startable.{IsStartable}

abbrev pub StartConforms : Type 0
StartConforms = (program : Program) → IsStartable program
    → Conforms (start program).state × ((start program).state.world ≡ program.world)

abbrev pub StartedConforms : Type 0
StartedConforms = (program : Program) (entries : List Entry) (end : Machine) → IsStartable program
    → list_all is_run entries ≡ true → replayed entries (start program) ≡ Some end
    → Conforms end.state × (end.state.world ≡ program.world)

-- Where the run has no end then, some thread can make a step, or an attempt to update may be made.
abbrev pub StartedGoesOn : Type 0
StartedGoesOn = (program : Program) (entries : List Entry) (end : Machine) → IsStartable program
    → list_all is_run entries ≡ true → replayed entries (start program) ≡ Some end → end_of end ≡ None
    → ((t : ℕ) × (after : Machine) × (made (run t 1) end ≡ Some after)) ⊎ (may_attempt end ≡ true)
