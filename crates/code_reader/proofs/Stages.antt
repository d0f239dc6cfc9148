-- The stages of reading a method's code are those of the definitions.
use Rattle.std.proofs.Common.{◌≡◌, ℕ, List, length, Option, Some, None, Result, Ok, Err, refl}
use Rattle.jv_model.specs.Fallible.{unless, ◌>>=◌}
use Rattle.jv_model.specs.Refusal.{Cause}
use Rattle.jv_model.specs.ClassData.{ClassData, Member}
use Rattle.jv_model.specs.Code.{Placed, Body}
use Rattle.code_model.specs.CodeShape.{Parts, parts_of, fitting_parts}
use Rattle.code_model.specs.CodePlaces.{target_fault, handler_fault}
use Rattle.code_model.specs.InstructionReading.{instructions_of}
use Rattle.code_model.specs.FirstLocals.{first_locals}
use Rattle.code_model.specs.CodeReading.{frames_of, bounds_of, body_of, body_at}
use Rattle.code_reader.specs.Body.{led_instructions, staged_body}

-- what follows two readings, one after the other
bind_twice : {A B C : Type 0} (read : Result A Cause) (first : A → Result B Cause)
    (second : B → Result C Cause)
    → ((read >>= first) >>= second) ≡ (read >>= λ x. (first x >>= second))
bind_twice (Ok x) first second = refl
bind_twice (Err cause) first second = refl

module _ (file : ClassData) (method : ℕ) (member : Member) where
  -- the frames, and the body with them
  abbrev framed : Parts → List (Placed ℕ) → Result (Body ℕ) Cause
  framed parts instructions =
      frames_of (bounds_of file parts instructions) method (first_locals file member) parts.map
      >>= λ frames. Ok (body_of parts instructions frames)

  handled : (parts : Parts) (fault : Option Cause) (instructions : List (Placed ℕ))
      → ((unless fault instructions >>= λ led. unless (handler_fault file.pool method
      (length parts.code) led 0 parts.handlers) led) >>= framed parts)
      ≡ (unless fault instructions >>= λ led. (unless (handler_fault file.pool method
      (length parts.code) led 0 parts.handlers) led >>= framed parts))
  handled parts None instructions = refl
  handled parts (Some cause) instructions = refl

  led : (parts : Parts) (read : Result (List (Placed ℕ)) Cause)
      → ((read >>= λ instructions. (unless (target_fault method instructions instructions)
      instructions >>= λ led. unless (handler_fault file.pool method
      (length parts.code) led 0 parts.handlers) led)) >>= framed parts)
      ≡ (read >>= λ instructions. (unless (target_fault method instructions instructions)
      instructions >>= λ led. (unless (handler_fault file.pool method
      (length parts.code) led 0 parts.handlers) led >>= framed parts)))
  led parts (Ok instructions) =
      handled parts (target_fault method instructions instructions) instructions
  led parts (Err cause) = refl

  fitted : (fitting : Result Parts Cause)
      → (fitting >>= λ parts. (led_instructions file method parts >>= framed parts))
      ≡ (fitting >>= λ parts. (instructions_of file method parts.code >>= λ instructions.
      (unless (target_fault method instructions instructions) instructions >>= λ led.
      (unless (handler_fault file.pool method (length parts.code) led 0 parts.handlers) led
      >>= framed parts))))
  fitted (Ok parts) = led parts (instructions_of file method parts.code)
  fitted (Err cause) = refl

  shaped : (read : Result Parts Cause)
      → ((read >>= fitting_parts method) >>= λ parts.
      (led_instructions file method parts >>= framed parts))
      ≡ (read >>= λ shaped. (fitting_parts method shaped >>= λ parts.
      (instructions_of file method parts.code >>= λ instructions.
      (unless (target_fault method instructions instructions) instructions >>= λ led.
      (unless (handler_fault file.pool method (length parts.code) led 0 parts.handlers) led
      >>= framed parts)))))
  shaped (Ok parts) = fitted (fitting_parts method parts)
  shaped (Err cause) = refl

  pub stages_are : (bytes : List ℕ)
      → staged_body file method member bytes ≡ body_at file method member bytes
  unfolding body_at
  stages_are bytes = shaped (parts_of file.pool method bytes)
