-- Numbers of frames, place by place.
use Rattle.std.proofs.Common.{◌≡◌, ℕ, zero, suc, ◌+◌, ◌==◌, Bool, true, false, if◌then◌else◌, List, [], ◌∷◌, ◌++◌, Option, Some, None, length, find, take, slice_get, option_map, ap, sym, subst, ◌∙◌, refl, arith}
use Rattle.std.proofs.lemmas.List.{take_more, length-take-le}
use Rattle.std.proofs.lemmas.Option.{slice_get_within, get_or_from_slice_get}
use Rattle.jv_model.specs.Code.{MapFrame}
use Rattle.jv_model.specs.Partial.{or_else}
use Rattle.stackmap_verify.specs.FrameNumbers.{number_in, number_if, frame_at, FindsFrame, AreNumbers}

find_more : {A : Type 0} (p : A → Bool) (xs : List A) (x : A) → find p (xs ++ x ∷ []) ≡ or_else (find p xs) (if p x then Some x else None)
find_more p [] x = refl
find_more p (y ∷ xs) x = by (p y) (find_more p xs x)
  where
    by : (b : Bool) → find p (xs ++ x ∷ []) ≡ or_else (find p xs) (if p x then Some x else None)
        → (if b then Some y else find p (xs ++ x ∷ [])) ≡ or_else (if b then Some y else find p xs) (if p x then Some x else None)
    by true rest = refl
    by false rest = rest

last_there : {A : Type 0} (xs : List A) (x : A) → slice_get (xs ++ x ∷ []) (length xs) ≡ Some x
last_there [] x = refl
last_there (y ∷ xs) x = last_there xs x

still_there : {A : Type 0} (xs : List A) (y x : A) (n : ℕ) → slice_get xs n ≡ Some x → slice_get (xs ++ y ∷ []) n ≡ Some x
still_there [] y x n at = absurd cc
still_there (z ∷ xs) y x zero at = at
still_there (z ∷ xs) y x (suc n) at = still_there xs y x n at

frame_more : (frames : List (MapFrame ℕ)) (frame : MapFrame ℕ) (at : ℕ) (number : Option ℕ) → FindsFrame frames at number
    → FindsFrame (frames ++ frame ∷ []) at (or_else number (number_if (frame.pc == at) (length frames)))
frame_more frames frame at (Some n) finds = (
  finds.0,
  still_there frames frame finds.0 n finds.1,
  find_more (λ (f : MapFrame ℕ). f.pc == at) frames frame
      ∙ ap (λ (o : Option (MapFrame ℕ)). or_else o (if frame.pc == at then Some frame else None)) finds.2,
)
frame_more frames frame at None finds = by (frame.pc == at) refl
  where
    found : frame_at (frames ++ frame ∷ []) at ≡ (if frame.pc == at then Some frame else None)
    found =
        find_more (λ (f : MapFrame ℕ). f.pc == at) frames frame
        ∙ ap (λ (o : Option (MapFrame ℕ)). or_else o (if frame.pc == at then Some frame else None)) finds

    by : (b : Bool) → (frame.pc == at) ≡ b → FindsFrame (frames ++ frame ∷ []) at (number_if b (length frames))
    by true here = (frame, last_there frames frame, found ∙ ap (λ (c : Bool). if c then Some frame else None) here)
    by false other = found ∙ ap (λ (c : Bool). if c then Some frame else None) other

-- one frame more has its number
numbers_more : (frames : List (MapFrame ℕ)) (k : ℕ) (frame : MapFrame ℕ) (old new : List (Option ℕ)) → slice_get frames k ≡ Some frame
    → ((at : ℕ) → number_in new at ≡ or_else (number_in old at) (number_if (frame.pc == at) k))
    → AreNumbers (take k frames) old → AreNumbers (take (k + 1) frames) new
numbers_more frames k frame old new there adds are at =
    let inside = slice_get_within frames k frame there in
    let taken : take (k + 1) frames ≡ take k frames ++ frame ∷ [] =
    take_more frames k frame inside
    ∙ ap (λ (f : MapFrame ℕ). take k frames ++ f ∷ []) (get_or_from_slice_get frames k frame frame there) in
    let count : length (take k frames) ≡ k = length-take-le k frames (omega arith) in
    let finds = frame_more (take k frames) frame at (number_in old at) (are at) in
    subst (λ (l : List (MapFrame ℕ)). FindsFrame l at (number_in new at)) (sym taken)
    (subst (FindsFrame (take k frames ++ frame ∷ []) at)
    (ap (λ (n : ℕ). or_else (number_in old at) (number_if (frame.pc == at) n)) count ∙ sym (adds at)) finds)

-- the same, by the place of the frame
pub numbers_more_at : (frames : List (MapFrame ℕ)) (k pc : ℕ) (old new : List (Option ℕ))
    → option_map (λ (frame : MapFrame ℕ). frame.pc) (slice_get frames k) ≡ Some pc
    → ((at : ℕ) → number_in new at ≡ or_else (number_in old at) (number_if (pc == at) k))
    → AreNumbers (take k frames) old → AreNumbers (take (k + 1) frames) new
numbers_more_at frames k pc old new is adds are = by (slice_get frames k) refl is
  where
    by : (found : Option (MapFrame ℕ)) → slice_get frames k ≡ found
        → option_map (λ (frame : MapFrame ℕ). frame.pc) found ≡ Some pc → AreNumbers (take (k + 1) frames) new
    by None there at = absurd cc
    by (Some frame) there at =
        let same : pc ≡ frame.pc = cc in
        numbers_more frames k frame old new there
        (subst (λ (place : ℕ). (at : ℕ) → number_in new at ≡ or_else (number_in old at) (number_if (place == at) k)) same adds) are
