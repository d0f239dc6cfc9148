-- What a pass over the code of a method says of it.
use Rattle.std.specs.Prelude.{◌≡◌, Bool, false, List, [], Option, Some, None, IsSome, Result, Ok, Err, length, map}
use Rattle.world_model.specs.World.{World, Class, Method}
use Rattle.typing_model.specs.VerificationType.{TypeFrame}
use Rattle.typing_model.specs.Environment.{Environment}
use Rattle.typing_model.specs.WellTyped.{IsTypingTo, IsTyping}
use Rattle.typing_model.specs.FailingPlace.{first_place, visits, failing_place, method_failure}
use Rattle.type_rules.specs.Frames.{Types, frame_of}
use Rattle.stackmap_verify.specs.declared.error.VerifyError.{VerifyError}
use Rattle.stackmap_verify.specs.declared.pass.Passed.{Passed}
use Rattle.stackmap_verify.specs.declared.pass.Passed.TheVariants.{Typed, Breaks}
use Rattle.stackmap_verify.specs.Outcome.{Tells}
use Rattle.stackmap_verify.specs.Visits.{place_of}

abbrev pub frames_of : World → List Types → List TypeFrame
frames_of world frames = map (frame_of world) frames

-- it holds of the frames, where they are wanted
abbrev pub Keeps : Bool → (List Types → Type 0) → Option (List Types) → Type 0
Keeps wanted P (Some frames) = P frames
Keeps wanted P None = wanted ≡ false

-- no instruction breaks a rule, and these are their frames; or it's the first that does
abbrev pub Passes : World → Environment → Bool → Passed → Type 0
Passes world e wanted (Typed kept) = (first_place e (visits e) ≡ None)
    × Keeps wanted (λ frames. IsTypingTo e (length e.body.instructions) (frames_of world frames)) kept
Passes world e wanted (Breaks place) = first_place e (visits e) ≡ Some (place_of place)

-- the same of a method with code
abbrev pub PassesAs : World → Class → Method → Bool → Passed → Type 0
PassesAs world class method wanted (Typed kept) = (failing_place world class method ≡ None)
    × Keeps wanted (λ frames. IsTyping world class method (frames_of world frames)) kept
PassesAs world class method wanted (Breaks place) = failing_place world class method ≡ Some (place_of place)

-- A method with code is well typed, and these are the frames of its instructions. One without code has none.
pub record AreFramesOf (world : World) (class : Class) (method : Method) (frames : List TypeFrame) : Type 0 where
  pub typing : IsSome method.code → IsTyping world class method frames
  pub nothing : method.code ≡ None → frames ≡ []

-- the same of any method; what fails is told
abbrev pub PassesMethod : World → Class → Method → Bool → Result (Option (List Types)) VerifyError → Type 0
PassesMethod world class method wanted (Ok kept) = (method_failure world class method ≡ None)
    × Keeps wanted (λ frames. AreFramesOf world class method (frames_of world frames)) kept
PassesMethod world class method wanted (Err error) = Tells (method_failure world class method) error
