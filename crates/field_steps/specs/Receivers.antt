-- The objects whose fields are read and written.
use Rattle.std.specs.Prelude.{◌≡◌, ℕ, ◌<◌, ◌^◌, List, false, Option, Some, None, IfSome, codes, reverse, slice_get}
use Rattle.jv_model.specs.Descriptors.{FieldType}
use Rattle.machine_model.specs.State.{State}
use Rattle.machine_model.specs.Deed.{throws}
use Rattle.machine_model.specs.SharedStep.{deed_of}
use Rattle.jv_values.specs.declared.value.Value.{Value}
use Rattle.jv_values.specs.declared.value.Value.TheVariants.{Half, Null, Ref}
use Rattle.heap_face.specs.declared.address.Addr.{Addr}
use Rattle.thread_frames.specs.Frames.{FrameState}
use Rattle.machine_parts.specs.Parts.{Machine, StandsFor}

-- a reference to the object at an address, or null
abbrev pub reference_to : Option Addr → Value
reference_to None = Null
reference_to (Some a) = Ref a.0

-- The operand of a frame that has so many words above it.
abbrev pub operand_at : FrameState → ℕ → Option Value
operand_at frame above = slice_get (reverse frame.stack) above

-- how many words the value takes whose upper word this is
abbrev pub words_under : Value → ℕ
words_under Half = 2
words_under other = 1

-- The operand that has so many words above it is a reference.
pub record HasReference (above : ℕ) (frame : FrameState) : Type 0 where
  pub object : Option Addr
  pub at : operand_at frame above ≡ Some (reference_to object)
  pub small : IfSome object (λ (a : Addr). a.0 < 2 ^ 32)

-- In whichever state the machine is, the next instruction of the thread throws for a reference that is null (JVMS 6.5).
abbrev pub FindsNull : ℕ → Machine → Type 0
FindsNull t machine = (types : List FieldType) (state : State) → StandsFor types machine state
    → deed_of state t ≡ throws (codes "java/lang/NullPointerException") false
