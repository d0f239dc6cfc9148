-- What a deed of verified code is: not wrong, and where it does something, what it leaves conforms.
use Rattle.std.specs.Prelude.{Bool, true, false, ⊤}
use Rattle.world_model.specs.World.{World}
use Rattle.jv_model.specs.Journal.{Entry, run, attempt}
use Rattle.machine_model.specs.Deed.{Deed, throws, does, wrong}
use Rattle.machine_model.specs.Step.{Stepped, made, cannot, wrong_step}
use Rattle.machine_model.specs.Conforms.{Conforms}
use Rattle.machine_laws.specs.Runnable.{IsThrowable}

abbrev pub IsRight : World → Deed → Type 0
IsRight world (throws class native) = IsThrowable world class
IsRight world (does words mark state) = Conforms state
IsRight world wrong = ⊥
IsRight world other = ⊤

-- So for a step of the machine.
abbrev pub IsRightStep : Stepped → Type 0
IsRightStep (made after) = Conforms after.state
IsRightStep cannot = ⊤
IsRightStep wrong_step = ⊥

-- an entry of steps
abbrev pub is_run : Entry → Bool
is_run (run t count) = true
is_run attempt = false
