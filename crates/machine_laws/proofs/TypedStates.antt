-- What a deed of verified code leaves is of the types that typing finds.
use Rattle.std.specs.Prelude.{ℕ, Bool, ⊤}
use Rattle.world_model.specs.World.{World}
use Rattle.machine_model.specs.State.{State}
use Rattle.machine_model.specs.Deed.{Deed, throws, does, wrong}
use Rattle.machine_model.specs.Conforms.{ConformsWith}
use Rattle.machine_laws.specs.Runnable.{IsThrowable}

-- the part of `Conforms` that types say
pub record IsTypedState (state : State) : Type 0 where
  pub live : ℕ → Bool
  pub is : ConformsWith state live

-- the part of `IsRight` that they do
abbrev pub IsTypedDeed : World → Deed → Type 0
IsTypedDeed world (throws class native) = IsThrowable world class
IsTypedDeed world (does words mark state) = IsTypedState state
IsTypedDeed world wrong = ⊥
IsTypedDeed world other = ⊤
