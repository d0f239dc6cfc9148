-- What a step of a thread that may throw comes to.
use Rattle.std.specs.Prelude.{◌≡◌, ℕ, List, false}
use Rattle.jv_model.specs.Descriptors.{FieldType}
use Rattle.machine_model.specs.State.{State}
use Rattle.machine_model.specs.Deed.{throws}
use Rattle.machine_model.specs.SharedStep.{deed_of}
use Rattle.machine_parts.specs.Parts.{Machine, StandsFor}
use Rattle.machine_parts.specs.Steps.{Makes}
use Rattle.machine_throws.specs.declared.outcome.Outcome.{Outcome}
use Rattle.machine_throws.specs.declared.outcome.Outcome.TheVariants.{Made, Throws}
use Rattle.machine_throws.specs.Names.{name_of}

-- The step is made, or the next instruction of the thread throws an object of that class, and from whichever state the one
-- machine is in, the other is still in it. (It's no native method that throws.)
abbrev pub ComesTo : ℕ → Machine → Machine → Outcome → Type 0
ComesTo t old new Made = Makes t old new
ComesTo t old new (Throws what) = (types : List FieldType) (state : State) → StandsFor types old state
    → (deed_of state t ≡ throws (name_of what) false) × StandsFor types new state
