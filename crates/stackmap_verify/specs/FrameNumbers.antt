-- The number of the first frame of a stack map at a place.
use Rattle.std.specs.Prelude.{◌≡◌, ℕ, ◌==◌, List, Bool, Option, Some, None, find, if◌then◌else◌, option_and_then, slice_get}
use Rattle.jv_model.specs.Code.{MapFrame}

-- what stands there
abbrev pub number_in : List (Option ℕ) → ℕ → Option ℕ
number_in numbers pc = option_and_then (λ (number : Option ℕ). number) (slice_get numbers pc)

abbrev pub number_if : Bool → ℕ → Option ℕ
number_if is_there number = if is_there then Some number else None

-- the first frame at a place
abbrev pub frame_at : List (MapFrame ℕ) → ℕ → Option (MapFrame ℕ)
frame_at frames pc = find (λ (f : MapFrame ℕ). f.pc == pc) frames

-- it's the number of the first frame there, or there is none
abbrev pub FindsFrame : List (MapFrame ℕ) → ℕ → Option ℕ → Type 0
FindsFrame frames pc (Some number) =
    (frame : MapFrame ℕ) × (slice_get frames number ≡ Some frame) × (frame_at frames pc ≡ Some frame)
FindsFrame frames pc None = frame_at frames pc ≡ None

-- At each place stands the number of the first frame there.
abbrev pub AreNumbers : List (MapFrame ℕ) → List (Option ℕ) → Type 0
AreNumbers frames numbers = (pc : ℕ) → FindsFrame frames pc (number_in numbers pc)
