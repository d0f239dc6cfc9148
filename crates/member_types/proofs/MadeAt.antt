-- Where an object was made: of instructions that follow each other one at most begins at a pc.
use Rattle.std.proofs.Common.{◌≡◌, ℕ, ◌<◌, Bool, true, false, ◌==◌, ◌||◌, ◌&&◌, List, [], ◌∷◌, Option, Some, None, cond, find, position, slice_get, option_and_then, is_some, ap, sym, ◌∙◌, arith, ⊎_elim, refl}
use Rattle.std.specs.List.{list_any}
use Rattle.std.proofs.lemmas.Bool.Decides.{eqb_tells}
use Rattle.jv_model.specs.ClassData.{Const}
use Rattle.jv_model.specs.Code.{Placed}
use Rattle.code_model.specs.Names.{named_placed}
use Rattle.typing_model.specs.CallTypes.{is_new_of}
use Rattle.class_world.proofs.Places.{find-position, some-position}
use Rattle.jv_types.specs.Instructions.{starts_at, Follows}
use Rattle.member_types.specs.Constructors.{makes}

or-false : (b : Bool) → (b || false) ≡ b
or-false true = refl
or-false false = refl

is-pc : (a b : ℕ) → (a == b) ≡ true → a ≡ b
is-pc a b same = ⊎_elim (λ t. t.1) (λ f. let never = sym same ∙ f.0 in absurd cc) (eqb_tells a b)

-- where none passes a test, none passes it and another
none-passes : {A : Type 0} (p q : A → Bool) (xs : List A) → list_any p xs ≡ false → list_any (λ x. p x && q x) xs ≡ false
none-passes p q [] none = refl
none-passes {A} p q (x ∷ xs) none = by (p x) none (none-passes p q xs)
  where
    by : (b : Bool) → (b || list_any p xs) ≡ false → (list_any p xs ≡ false → list_any (λ x. p x && q x) xs ≡ false)
        → ((b && q x) || list_any (λ x. p x && q x) xs) ≡ false
    by true none others = absurd cc
    by false none others = others none

module _ (pool : List Const) (name : List ℕ) (pc : ℕ) where
  is_new : Placed ℕ → Bool
  is_new placed = is_new_of name (named_placed pool placed).instruction

  abbrev made : Placed ℕ → Bool
  made placed = makes name pc (named_placed pool placed)

  -- what begins behind a pc isn't at it
  none-behind : (place : ℕ) (xs : List (Placed ℕ)) → pc < place → Follows place xs → list_any (starts_at pc) xs ≡ false
  none-behind place [] after follows = refl
  none-behind place (x ∷ xs) after follows =
      ap (λ (b : Bool). b || list_any (starts_at pc) xs)
      (⊎_elim (λ t. absurd (omega (arith, t.1, after, follows.0))) (λ f. f.0) (eqb_tells x.pc pc))
      ∙ none-behind x.next xs (omega (arith, after, follows.0, follows.1)) follows.2

  found-made : (place : ℕ) (xs : List (Placed ℕ)) (p : Placed ℕ) → Follows place xs → find (starts_at pc) xs ≡ Some p
      → list_any made xs ≡ is_new p
  unfolding is_new
  found-made place [] p follows at = absurd cc
  found-made place (x ∷ xs) p follows at = by (x.pc == pc) refl at (found-made x.next xs p follows.2)
    where
      by : (b : Bool) → (x.pc == pc) ≡ b → cond b (Some x) (find (starts_at pc) xs) ≡ Some p
          → (find (starts_at pc) xs ≡ Some p → list_any made xs ≡ is_new p) → list_any made (x ∷ xs) ≡ is_new p
      by true is at others =
          let same : x ≡ p = cc in
          let none = none-passes (starts_at pc) is_new xs
          (none-behind x.next xs (omega (arith, follows.1, is-pc x.pc pc is)) follows.2) in
          ap (λ (b : Bool). (b && is_new x) || list_any made xs) is ∙ ap (λ (b : Bool). is_new x || b) none
          ∙ or-false (is_new x) ∙ ap is_new same
      by false is at others = ap (λ (b : Bool). (b && is_new x) || list_any made xs) is ∙ others at

  -- the instruction at a pc tells whether an object was made there
  pub made-there : (xs : List (Placed ℕ)) (number : ℕ) (p : Placed ℕ) → Follows 0 xs → position (starts_at pc) xs ≡ Some number
      → slice_get xs number ≡ Some p → list_any made xs ≡ is_new_of name (named_placed pool p).instruction
  unfolding is_new
  made-there xs number p follows at there =
      found-made 0 xs p follows
      (find-position (starts_at pc) xs ∙ ap (λ (o : Option ℕ). option_and_then (slice_get xs) o) at ∙ there)

  -- where none begins, none was
  pub made-nowhere : (xs : List (Placed ℕ)) → position (starts_at pc) xs ≡ None → list_any made xs ≡ false
  unfolding is_new
  made-nowhere xs none =
      none-passes (starts_at pc) is_new xs (sym (some-position (starts_at pc) xs) ∙ ap is_some none)
