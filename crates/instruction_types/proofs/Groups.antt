-- Groups of words on a stack, by number and by name.
use Rattle.std.proofs.Common.{◌≡◌, ℕ, zero, suc, ◌+◌, ◌≤◌, if◌then◌else◌, List, [], ◌∷◌, Option, Some, None, length, drop, slice_get, option_map, take, ap, subst, ◌∙◌, refl, arith, length-drop}
use Rattle.std.proofs.lemmas.List.{length-take}
use Rattle.std.proofs.lemmas.List.Elements.{All-drop, All-take}
use Rattle.jv_model.specs.Partial.{◌>>=◌}
use Rattle.jv_model.specs.Instruction.{StackForm}
use Rattle.jv_model.specs.StackForms.{upper_words, lower_words, put_back}
use Rattle.world_model.specs.World.{World}
use Rattle.typing_model.specs.Environment.{Environment}
use Rattle.typing_model.specs.Transition.{pushed}
use Rattle.typing_model.specs.VerificationType as model
use Rattle.typing_model.specs.VerificationType.{TypeFrame, is_one_word}
use Rattle.typing_model.specs.StackTypes.{group, stack_formed}
use Rattle.type_rules.specs.declared.types.VerificationType.{VerificationType}
use Rattle.type_rules.specs.declared.types.VerificationType.TheVariants.{Top, Int, Long, Null, This, New, Class, Array}
use Rattle.type_rules.specs.Types.{type_of, IsKnownType}
use Rattle.type_rules.specs.Frames.{types_of, AreKnown}
use Rattle.instruction_types.specs.Groups.{StandsAt}

-- what stands at a place begins what is left from there on
pub drop-at : {A : Type 0} (xs : List A) (n : ℕ) (x : A) → slice_get xs n ≡ Some x → drop n xs ≡ (x ∷ drop (suc n) xs)
drop-at [] n x is = cc
drop-at (y ∷ xs) zero x is = let same : y ≡ x = cc in λ i. same i ∷ xs
drop-at (y ∷ xs) (suc n) x is = drop-at xs n x is

-- ---- what stands at a place

pub one-stands : (stack : List VerificationType) (n : ℕ) (x : VerificationType) → slice_get stack n ≡ Some x → StandsAt stack n (x ∷ [])
one-stands stack n x is = ap (take 1) (drop-at stack n x is)

pub two-stand : (stack : List VerificationType) (n : ℕ) (x y : VerificationType) → slice_get stack n ≡ Some x
    → slice_get stack (n + 1) ≡ Some y → StandsAt stack n (x ∷ y ∷ [])
two-stand stack n x y is next_is =
    let next : suc n ≡ n + 1 = omega arith in
    ap (take 2) (drop-at stack n x is ∙ ap (λ (rest : List VerificationType). x ∷ rest) (ap (λ (k : ℕ). drop k stack) next ∙ drop-at stack (n + 1) y next_is))

pub stand-inside : (stack : List VerificationType) (n : ℕ) (types : List VerificationType) → StandsAt stack n types → n ≤ length stack
    → n + length types ≤ length stack
stand-inside stack n types is inside =
    omega (arith, ap length is, length-take (length types) (drop n stack), length-drop n stack)

module _ (world : World) where
  pub stand-known : (stack : List VerificationType) (n : ℕ) (types : List VerificationType) → StandsAt stack n types
      → AreKnown world stack → AreKnown world types
  stand-known stack n types is known =
      subst (AreKnown world) is
      (All-take (IsKnownType world) (length types) (drop n stack) (All-drop (IsKnownType world) n stack known))

  -- a read of the stack, as what is left from there on
  pub drop-there : (stack : List VerificationType) (n : ℕ) (type : VerificationType) → slice_get stack n ≡ Some type
      → drop n (types_of world stack) ≡ (type_of world type ∷ drop (suc n) (types_of world stack))
  drop-there [] n type is = cc
  drop-there (first ∷ stack) zero type is = let same : first ≡ type = cc in λ i. type_of world (same i) ∷ types_of world stack
  drop-there (first ∷ stack) (suc n) type is = drop-there stack n type is

  pub drop-none : (stack : List VerificationType) (n : ℕ) → slice_get stack n ≡ None → drop n (types_of world stack) ≡ []
  drop-none [] zero is = refl
  drop-none [] (suc n) is = refl
  drop-none (first ∷ stack) zero is = cc
  drop-none (first ∷ stack) (suc n) is = drop-none stack n is

  -- one word
  pub group-one : (type : VerificationType) (below : List model.VerificationType)
      → (if is_one_word (type_of world type) then Some (type_of world type ∷ []) else None) ≡ group 1 (type_of world type ∷ below)
  unfolding group
  group-one Top below = refl
  group-one Int below = refl
  group-one Long below = refl
  group-one Null below = refl
  group-one This below = refl
  group-one (New pc) below = refl
  group-one (Class class) below = refl
  group-one (Array component) below = refl

  pub group-none : (n : ℕ) → group (suc n) [] ≡ None
  unfolding group
  group-none n = refl

  pub group-zero : (stack : List model.VerificationType) → group 0 stack ≡ Some []
  unfolding group
  group-zero stack = refl

  -- two words that are no Long
  pub group-two : (type : VerificationType) (below : List model.VerificationType) → (type ≡ Long → ⊥)
      → (if is_one_word (type_of world type) then option_map (λ rest. type_of world type ∷ rest) (group 1 below) else None)
      ≡ group 2 (type_of world type ∷ below)
  unfolding group
  group-two Top below short = refl
  group-two Int below short = refl
  group-two Long below short = absurd (short refl)
  group-two Null below short = refl
  group-two This below short = refl
  group-two (New pc) below short = refl
  group-two (Class class) below short = refl
  group-two (Array component) below short = refl

  pub group-long : (below : List model.VerificationType) → group 2 (model.long ∷ below) ≡ Some (model.long ∷ [])
  unfolding group
  group-long below = refl

-- ---- what a form leaves

module _ (e : Environment) (form : StackForm) (frame : TypeFrame) where
  after_lower : List model.VerificationType → Option (List model.VerificationType) → Option TypeFrame
  after_lower upper found = found >>= λ (lower : List model.VerificationType).
      pushed e (put_back form upper lower) (record { locals = frame.locals; stack = drop (length upper + length lower) frame.stack })

  after_upper : Option (List model.VerificationType) → Option TypeFrame
  after_upper found = found >>= λ (upper : List model.VerificationType).
      after_lower upper (group (lower_words form) (drop (length upper) frame.stack))

  formed-parts : stack_formed e form frame ≡ after_upper (group (upper_words form) frame.stack)
  unfolding after_upper after_lower
  formed-parts = refl

  pub formed-none : group (upper_words form) frame.stack ≡ None → stack_formed e form frame ≡ None
  unfolding after_upper
  formed-none none = formed-parts ∙ ap after_upper none

  formed-upper : (upper : List model.VerificationType) → group (upper_words form) frame.stack ≡ Some upper
      → stack_formed e form frame ≡ after_lower upper (group (lower_words form) (drop (length upper) frame.stack))
  unfolding after_upper
  formed-upper upper is = formed-parts ∙ ap after_upper is

  pub formed-no_lower : (upper : List model.VerificationType) → group (upper_words form) frame.stack ≡ Some upper
      → group (lower_words form) (drop (length upper) frame.stack) ≡ None → stack_formed e form frame ≡ None
  unfolding after_lower
  formed-no_lower upper is none = formed-upper upper is ∙ ap (after_lower upper) none

  pub formed-both : (upper lower : List model.VerificationType) → group (upper_words form) frame.stack ≡ Some upper
      → group (lower_words form) (drop (length upper) frame.stack) ≡ Some lower
      → stack_formed e form frame
      ≡ pushed e (put_back form upper lower) (record { locals = frame.locals; stack = drop (length upper + length lower) frame.stack })
  unfolding after_lower
  formed-both upper lower is below = formed-upper upper is ∙ ap (after_lower upper) below
