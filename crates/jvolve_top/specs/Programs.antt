-- Which program of the definitions a `VerifiedProgram` is, and which stop a refusal of the whole is.
use Rattle.std.specs.Prelude.{◌≡◌, Option, Some, None}
use Rattle.jv_model.specs.Refusal as faults
use Rattle.world_model.specs.BootTable.{boot_table}
use Rattle.link_model.specs.WorldOf.{world_of}
use Rattle.typing_model.specs.FailingPlace.{world_failure}
use Rattle.run_model.specs.LoadProgram as model
use Rattle.jv_types.specs.Refusal.{cause_of}
use Rattle.jv_types.specs.declared.refusal.Cause.{Cause}
use Rattle.class_loader.specs.declared.stop.Stop.{Stop}
use Rattle.class_loader.specs.declared.stop.Stop.TheVariants as stops
use Rattle.class_loader.specs.Items.{classes_in}
use Rattle.jvolve_top.specs.declared.program.VerifiedProgram.{VerifiedProgram}

abbrev pub verified_of : VerifiedProgram → model.VerifiedProgram
verified_of program = record {
  world = world_of boot_table (classes_in program.classes);
  has_updates = program.has_updates;
}

-- each of its methods is well typed
abbrev pub IsVerified : VerifiedProgram → Type 0
IsVerified program = world_failure (world_of boot_table (classes_in program.classes)) ≡ None

-- a refusal of the whole program has no item
abbrev pub program_stop : Cause → Stop
program_stop cause = stops.Refused 0 0 cause

-- a stop for a fault, where it isn't one for want of memory
abbrev pub StopsFor : Option faults.Cause → Stop → Type 0
StopsFor fault (stops.Refused item sub cause) =
    (item ≡ 0) × (sub ≡ 0) × (fault ≡ Some (cause_of cause))
StopsFor fault stops.ReadFault = ⊥
StopsFor fault stops.NoMemory = Unit {0}
