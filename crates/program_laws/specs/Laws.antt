-- What the laws of programs say: a program that was linked and verified never gets stuck, and can always go on.
use Rattle.std.specs.Prelude.{◌≡◌, ◌⊎◌, ℕ, List, true, Some, None}
use Rattle.std.specs.List.{list_all}
use Rattle.jv_model.specs.Journal.{Entry, run}
use Rattle.world_model.specs.World.{World}
use Rattle.machine_model.specs.Machine.{Program, Machine}
use Rattle.machine_model.specs.Ends.{end_of}
use Rattle.machine_model.specs.Legal.{may_attempt}
use Rattle.machine_model.specs.Start.{start}
use Rattle.machine_model.specs.Conforms.{Conforms}
use Rattle.journal_model.specs.Journal.{made, replayed}
use Rattle.machine_laws.specs.Runnable.{IsRunnable}
use Rattle.machine_laws.specs.Deeds.{is_run}
use Rattle.start_laws.specs.Startable.{IsStartable}
use Rattle.program_laws.specs.Verified.{IsVerifiedWorld, IsVerifiedProgram}

-- All that the laws of the machine ask of a world is so.
abbrev pub VerifiedIsRunnable : Type 0
VerifiedIsRunnable = (world : World) → IsVerifiedWorld world → IsRunnable world

-- And all that those of the start ask of a program.
abbrev pub VerifiedIsStartable : Type 0
VerifiedIsStartable = (program : Program) → IsVerifiedProgram program → IsStartable program

-- After every legal list of entries without an attempt, from the start, the machine conforms, in the program's world.
abbrev pub VerifiedConforms : Type 0
VerifiedConforms = (program : Program) (entries : List Entry) (end : Machine) → IsVerifiedProgram program
    → list_all is_run entries ≡ true → replayed entries (start program) ≡ Some end
    → Conforms end.state × (end.state.world ≡ program.world)

-- Where the run has no end then, some thread can make a step, or an attempt to update may be made.
abbrev pub VerifiedGoesOn : Type 0
VerifiedGoesOn = (program : Program) (entries : List Entry) (end : Machine) → IsVerifiedProgram program
    → list_all is_run entries ≡ true → replayed entries (start program) ≡ Some end → end_of end ≡ None
    → ((t : ℕ) × (after : Machine) × (made (run t 1) end ≡ Some after)) ⊎ (may_attempt end ≡ true)
