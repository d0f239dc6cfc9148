-- What verifying a world says of it.
use Rattle.std.specs.Prelude.{◌≡◌, Option, Some, None, Result, Ok, Err}
use Rattle.jv_model.specs.Refusal.{Cause, not_verified}
use Rattle.world_model.specs.World.{World}
use Rattle.typing_model.specs.FailingPlace.{world_failure}
use Rattle.jv_types.specs.Refusal.{rule_of}
use Rattle.stackmap_verify.specs.declared.error.VerifyError.{VerifyError}
use Rattle.stackmap_verify.specs.declared.error.VerifyError.TheVariants.{NotVerified, NoMemory}

-- the error tells the failure
abbrev pub Tells : Option Cause → VerifyError → Type 0
Tells failure (NotVerified class method descriptor pc rule) =
    failure ≡ Some (not_verified class.items method.items descriptor.items pc (rule_of rule))
Tells failure NoMemory = Unit {0}

-- nothing fails, or the error tells what does
abbrev pub Answers : Option Cause → Result (Unit {0}) VerifyError → Type 0
Answers failure (Ok done) = failure ≡ None
Answers failure (Err error) = Tells failure error

-- The world itself where nothing fails, and else the world and the first failure.
abbrev pub VerifiesAs : World → Result World (World × VerifyError) → Type 0
VerifiesAs world (Ok verified) = (verified ≡ world) × (world_failure world ≡ None)
VerifiesAs world (Err refused) = (refused.0 ≡ world) × Tells (world_failure world) refused.1
