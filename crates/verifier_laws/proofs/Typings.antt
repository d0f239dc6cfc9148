-- The frames of the instructions that a pass came to, one by one.
use Rattle.std.proofs.Common.{◌≡◌, ℕ, ◌+◌, List, [], ◌∷◌, ◌++◌, Option, Some, None, length, slice_get, drop, refl, ap, sym, subst, ◌∙◌}
use Rattle.std.proofs.lemmas.List.{at_drop_more, length-append, append-nil, append_assoc}
use Rattle.std.proofs.lemmas.Option.{get_or_from_slice_get, slice_get_within}
use Rattle.jv_model.specs.Operand.{Operand}
use Rattle.jv_model.specs.Code.{Placed}
use Rattle.typing_model.specs.VerificationType.{TypeFrame}
use Rattle.typing_model.specs.Environment.{Environment}
use Rattle.typing_model.specs.DescriptorFrame.{descriptor_frame}
use Rattle.typing_model.specs.Rules.{frame_of, first_failing, flow_behind}
use Rattle.typing_model.specs.WellTyped.{IsTypingTo}
use Rattle.typing_laws.proofs.Frames.{AreTyped, visit_of, number-typing}
use Rattle.verifier_laws.proofs.Visits.{visit_at, as_here}

-- These are the frames of the first instructions, so many, no rule fails at any, and so flow comes to the next one.
pub record AreFrames (e : Environment) (n : ℕ) (flow : Option TypeFrame) (frames : List TypeFrame) : Type 0 where
  pub count : length frames ≡ n
  pub typed : (rest : List TypeFrame) → AreTyped e flow (drop n e.body.instructions) rest
      → AreTyped e (Some (descriptor_frame e)) e.body.instructions (frames ++ rest)

pub no_frames : (e : Environment) → AreFrames e 0 (Some (descriptor_frame e)) []
no_frames e = record { count = refl; typed = λ rest typed. typed }

-- one more
pub one_frame : (e : Environment) (n : ℕ) (flow next : Option TypeFrame) (frames : List TypeFrame) (p : Placed Operand) (f : TypeFrame)
    → slice_get e.body.instructions n ≡ Some p → frame_of e (visit_at flow e.body.instructions n p) ≡ Some f
    → first_failing e (visit_at flow e.body.instructions n p) ≡ None
    → flow_behind e (visit_at flow e.body.instructions n p) ≡ next
    → AreFrames e n flow frames → AreFrames e (n + 1) next (frames ++ f ∷ [])
unfolding AreTyped
one_frame e n flow next frames p f at framed none is_next so_far = record {
  count = length-append frames (f ∷ []) ∙ ap (λ (k : ℕ). k + 1) so_far.count;
  typed = λ rest typed.
      let others = drop (n + 1) e.body.instructions in
      let here : visit_of flow p others ≡ visit_at flow e.body.instructions n p = as_here e flow n p at in
      let first : AreTyped e flow (p ∷ others) (f ∷ rest) = (
        ap (frame_of e) here ∙ framed,
        ap (first_failing e) here ∙ none,
        subst (λ (o : Option TypeFrame). AreTyped e o others rest) (sym (ap (flow_behind e) here ∙ is_next)) typed,
      ) in
      let left : drop n e.body.instructions ≡ p ∷ others =
      at_drop_more (λ ps. ps) e.body.instructions n p (slice_get_within e.body.instructions n p at)
      ∙ ap (λ (q : Placed Operand). q ∷ others) (get_or_from_slice_get e.body.instructions n p p at) in
      subst (λ (l : List TypeFrame). AreTyped e (Some (descriptor_frame e)) e.body.instructions l)
      (sym (append_assoc frames (f ∷ []) rest))
      (so_far.typed (f ∷ rest) (subst (λ (ps : List (Placed Operand)). AreTyped e flow ps (f ∷ rest)) (sym left) first));
}

-- all of them
pub all_frames : (e : Environment) (n : ℕ) (flow : Option TypeFrame) (frames : List TypeFrame) → n ≡ length e.body.instructions
    → AreFrames e n flow frames → IsTypingTo e (length e.body.instructions) frames
unfolding AreTyped
all_frames e n flow frames end so_far =
    subst (λ (k : ℕ). IsTypingTo e k frames) (so_far.count ∙ end)
    (number-typing e frames (subst (λ (l : List TypeFrame). AreTyped e (Some (descriptor_frame e)) e.body.instructions l)
    (append-nil frames) (so_far.typed [] tt)))
