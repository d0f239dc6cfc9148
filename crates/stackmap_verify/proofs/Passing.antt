-- The pass over the instructions of a method, one by one.
use Rattle.std.proofs.Common.{◌≡◌, ℕ, ◌+◌, ◌≤◌, ◌==◌, Bool, List, [], ◌∷◌, ◌++◌, Option, Some, None, is_some, length, option_map, slice_get, ap, sym, subst, ◌∙◌, refl, arith}
use Rattle.std.specs.Option.{IfSome}
use Rattle.std.proofs.lemmas.List.{length-map, map-append}
use Rattle.std.proofs.lemmas.Option.{slice_get-map}
use Rattle.jv_model.specs.Refusal.{Rule}
use Rattle.jv_model.specs.Operand.{Operand}
use Rattle.jv_model.specs.Code.{Placed}
use Rattle.world_model.specs.World.{World}
use Rattle.code_model.specs.Names.{named_placed}
use Rattle.typing_model.specs.VerificationType.{TypeFrame}
use Rattle.typing_model.specs.Environment.{Environment}
use Rattle.typing_model.specs.DescriptorFrame.{descriptor_frame}
use Rattle.typing_model.specs.Rules.{Visit, frame_of, first_failing, flow_behind}
use Rattle.typing_model.specs.WellTyped.{IsTypingTo}
use Rattle.jv_types.specs.ClassData.{pool_of}
use Rattle.type_rules.specs.Frames as numbered
use Rattle.type_rules.specs.Frames.{Types}
use Rattle.verifier_laws.proofs.Visits.{visit_at, place_from, fails_here, goes_further, is_last, no_more}
use Rattle.verifier_laws.proofs.Typings.{AreFrames, no_frames, one_frame, all_frames}
use Rattle.stackmap_verify.specs.declared.method.Method.{Method}
use Rattle.stackmap_verify.specs.Methods.{IsMethod}
use Rattle.stackmap_verify.specs.Passed.{frames_of, Keeps}
use Rattle.stackmap_verify.proofs.StepRule.{instructions_are}

module _ (method : Method) (e : Environment) (is : IsMethod method e) (flow : Option TypeFrame) (n : ℕ) where
  pub count : length e.body.instructions ≡ length method.code.now.body.now.instructions
  count =
      ap (λ (l : List (Placed Operand)). length l) (instructions_are method e is)
      ∙ length-map method.code.now.body.now.instructions (named_placed (pool_of method.code.now.pool.now))

  -- there are no more
  pub passed : length method.code.now.body.now.instructions ≤ n → place_from e flow n ≡ None
  passed end = no_more e flow n (omega (arith, count))

  module _ (placed : Placed ℕ) (at : slice_get method.code.now.body.now.instructions n ≡ Some placed) where
    -- the instruction with names
    abbrev pub named_here : Placed Operand
    named_here = named_placed (pool_of method.code.now.pool.now) placed

    -- the visit of it
    abbrev pub visit_here : Visit
    visit_here = visit_at flow e.body.instructions n named_here

    pub there : slice_get e.body.instructions n ≡ Some named_here
    there =
        ap (λ (l : List (Placed Operand)). slice_get l n) (instructions_are method e is)
        ∙ slice_get-map (named_placed (pool_of method.code.now.pool.now)) method.code.now.body.now.instructions n
        ∙ ap (option_map (named_placed (pool_of method.code.now.pool.now))) at

    pub last_here : visit_here.is_last ≡ (n + 1 == length method.code.now.body.now.instructions)
    last_here = is_last e flow n named_here there ∙ ap (λ (k : ℕ). n + 1 == k) count

    pub stops_here : (rule : Rule) → first_failing e visit_here ≡ Some rule → place_from e flow n ≡ Some (placed.pc, rule)
    stops_here rule fails = fails_here e flow n named_here there rule fails

    pub passes_here : (next : Option TypeFrame) → first_failing e visit_here ≡ None → flow_behind e visit_here ≡ next
        → place_from e flow n ≡ place_from e next (n + 1)
    passes_here next none is_next =
        goes_further e flow n named_here there none ∙ ap (λ (f : Option TypeFrame). place_from e f (n + 1)) is_next

-- ---- the frames that are kept

module _ (world : World) (e : Environment) (wanted : Bool) where
  abbrev pub KeepsTo : ℕ → Option TypeFrame → Option (List Types) → Type 0
  KeepsTo n flow kept = Keeps wanted (λ frames. AreFrames e n flow (frames_of world frames)) kept

  -- one more
  pub keeps_more : (n : ℕ) (flow next : Option TypeFrame) (kept more : Option (List Types)) (placed : Placed Operand) (frame : Types)
      → slice_get e.body.instructions n ≡ Some placed
      → frame_of e (visit_at flow e.body.instructions n placed) ≡ Some (numbered.frame_of world frame)
      → first_failing e (visit_at flow e.body.instructions n placed) ≡ None
      → flow_behind e (visit_at flow e.body.instructions n placed) ≡ next
      → more ≡ option_map (λ (frames : List Types). frames ++ frame ∷ []) kept → KeepsTo n flow kept → KeepsTo (n + 1) next more
  keeps_more n flow next kept more placed frame at framed none is_next is so_far =
      subst (KeepsTo (n + 1) next) (sym is) (by kept so_far)
    where
      by : (k : Option (List Types)) → KeepsTo n flow k → KeepsTo (n + 1) next (option_map (λ (frames : List Types). frames ++ frame ∷ []) k)
      by None so_far = so_far
      by (Some frames) so_far =
          subst (AreFrames e (n + 1) next) (sym (map-append (numbered.frame_of world) frames (frame ∷ [])))
          (one_frame e n flow next (frames_of world frames) placed (numbered.frame_of world frame) at framed none is_next so_far)

  -- those of all
  pub keeps_all : (n : ℕ) (flow : Option TypeFrame) (kept : Option (List Types)) → n ≡ length e.body.instructions → KeepsTo n flow kept
      → Keeps wanted (λ frames. IsTypingTo e (length e.body.instructions) (frames_of world frames)) kept
  keeps_all n flow None end so_far = so_far
  keeps_all n flow (Some frames) end so_far = all_frames e n flow (frames_of world frames) end so_far

-- none
pub keeps_none : (world : World) (e : Environment) (start : Types) (kept : Option (List Types)) → descriptor_frame e ≡ numbered.frame_of world start
    → IfSome kept (λ (frames : List Types). frames ≡ []) → KeepsTo world e (is_some kept) 0 (Some (numbered.frame_of world start)) kept
keeps_none world e start None is empty = refl
keeps_none world e start (Some frames) is empty =
    subst (λ (l : List Types). AreFrames e 0 (Some (numbered.frame_of world start)) (frames_of world l)) (sym empty)
    (subst (λ (f : TypeFrame). AreFrames e 0 (Some f) []) is (no_frames e))
