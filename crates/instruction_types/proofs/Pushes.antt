-- Types that are put in two goes, and all at once.
use Rattle.std.proofs.Common.{◌≡◌, ◌+◌, ◌<◌, ℕ, Bool, true, false, nat_le, if◌then◌else◌, List, ◌++◌, Option, Some, None, append_assoc, ap, sym, ◌∙◌, inl, inr, refl, arith}
use Rattle.std.proofs.lemmas.Bool.{false≢true}
use Rattle.std.proofs.lemmas.Bool.Decides.{leb_tells}
use Rattle.std.proofs.lemmas.List.Sums.{sum-map, sum_by-append}
use Rattle.jv_model.specs.Partial.{◌>>=◌}
use Rattle.typing_model.specs.VerificationType as model
use Rattle.typing_model.specs.VerificationType.{TypeFrame}
use Rattle.typing_model.specs.Environment.{Environment}
use Rattle.typing_model.specs.Transition.{pushed}
use Rattle.instruction_types.proofs.Stacks.{le_not}

words_of-append : (a b : List model.VerificationType) → model.words_of (a ++ b) ≡ model.words_of a + model.words_of b
words_of-append a b =
    sum-map model.words (a ++ b) ∙ sum_by-append model.words a b
    ∙ (λ i. sym (sum-map model.words a) i + sym (sum-map model.words b) i)

gt_from : (a b : ℕ) → nat_le a b ≡ false → b < a
gt_from a b is = elim (leb_tells a b) [ inl w ↦ absurd (false≢true (sym is ∙ w.0)) | inr w ↦ w.1 ]

module _ (e : Environment) (a b : List model.VerificationType) (frame : TypeFrame) where
  put_after : Bool → Option TypeFrame
  put_after room = (if room then Some (record { locals = frame.locals; stack = b ++ frame.stack }) else None) >>= pushed e a

  pub pushed-append : pushed e (a ++ b) frame ≡ (pushed e b frame >>= pushed e a)
  unfolding put_after
  pushed-append = by (nat_le (model.words_of (b ++ frame.stack)) e.body.max_stack) refl
    where
      by : (room : Bool) → nat_le (model.words_of (b ++ frame.stack)) e.body.max_stack ≡ room
          → pushed e (a ++ b) frame ≡ (pushed e b frame >>= pushed e a)
      by true is =
          (λ i. if (nat_le (model.words_of (append_assoc a b frame.stack i)) e.body.max_stack) then Some (record { locals = frame.locals; stack = append_assoc a b frame.stack i }) else None)
          ∙ sym (ap put_after is)
      by false is =
          let past = gt_from (model.words_of (b ++ frame.stack)) e.body.max_stack is in
          let words : model.words_of ((a ++ b) ++ frame.stack) ≡ model.words_of a + model.words_of (b ++ frame.stack) =
          ap model.words_of (append_assoc a b frame.stack) ∙ words_of-append a (b ++ frame.stack) in
          let none = le_not (model.words_of ((a ++ b) ++ frame.stack)) e.body.max_stack (omega arith) in
          (λ i. if none i then Some (record { locals = frame.locals; stack = (a ++ b) ++ frame.stack }) else None)
          ∙ sym (ap put_after is)
