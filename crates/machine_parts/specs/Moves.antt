-- Parts of the machine in which other addresses stand where they named objects: what is left where a collection moved these.
use Rattle.std.specs.Prelude.{◌≡◌, ℕ, List, map, option_map}
use Rattle.jv_values.specs.declared.value.Value.{Value}
use Rattle.jv_values.specs.declared.value.Value.TheVariants.{Ref}
use Rattle.static_fields.specs.Statics.{Place, value_at}
use Rattle.literal_table.specs.Literals.{Literals}
use Rattle.thread_frames.specs.Frames.{FrameState}
use Rattle.frame_stacks.specs.declared.thread.Thread.{Thread}
use Rattle.machine_model.specs.State.{Interned}
use Rattle.machine_shared.specs.Shared.{interned_in}
use Rattle.machine_parts.specs.Parts.{Machine}

-- ---- without addresses

abbrev pub blank_value : Value → Value
blank_value (Ref address) = Ref 0
blank_value other = other

abbrev pub blank_frame : FrameState → FrameState
blank_frame frame = record frame {
  held = blank_value frame.held;
  locals = map blank_value frame.locals;
  stack = map blank_value frame.stack;
}

abbrev pub blank_thread : Thread → Thread
blank_thread thread = record thread { frames = map blank_frame thread.frames }

-- the units of interned strings
abbrev pub interned_units : Literals → List (List ℕ)
interned_units literals = map (λ (row : Interned). row.units) (interned_in literals)

-- They are the same apart from addresses.
pub record AreReaddressed (before after : Machine) : Type 0 where
  pub world : after.world ≡ before.world
  pub threads : map blank_thread after.stacks.threads ≡ map blank_thread before.stacks.threads
  pub statics : (place : Place)
      → option_map blank_value (value_at after.versions.statics place) ≡ option_map blank_value (value_at before.versions.statics place)
  pub interned : interned_units after.versions.literals ≡ interned_units before.versions.literals
  pub rest : after.versions ≡ record before.versions { statics = after.versions.statics; literals = after.versions.literals }
  pub output : after.output ≡ before.output
  pub requests : after.requests ≡ before.requests
