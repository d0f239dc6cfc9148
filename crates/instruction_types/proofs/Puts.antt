-- Types that are put into locals, by number and by name.
use Rattle.std.proofs.Common.{◌≡◌, ◌==◌, ℕ, zero, suc, ◌+◌, ◌<◌, ◌≤◌, Bool, true, false, cond, if◌then◌else◌, drop, List, [], ◌∷◌, Option, Some, None, length, slice_get, slice_set, option_map, ap, sym, ◌∙◌, inl, inr, refl, arith}
use Rattle.std.proofs.lemmas.List.{length-set}
use Rattle.std.proofs.lemmas.List.Elements.{All-set}
use Rattle.std.proofs.lemmas.Option.{slice_get_cases}
use Rattle.world_model.specs.World.{World}
use Rattle.typing_model.specs.VerificationType as model
use Rattle.typing_model.specs.LocalTypes.{put_first, cut, put, stored}
use Rattle.typing_model.specs.VerificationType.{TypeFrame, is_of_kind}
use Rattle.typing_model.specs.Transition.{popped}
use Rattle.jv_model.specs.Partial.{◌>>=◌}
use Rattle.jv_model.specs.Instruction.{ValueKind}
use Rattle.type_rules.specs.declared.types.VerificationType.{VerificationType}
use Rattle.type_rules.specs.declared.types.VerificationType.TheVariants.{Top, Int, Long, Null, This, New, Class, Array}
use Rattle.type_rules.specs.Types.{type_of, IsKnownType}
use Rattle.type_rules.specs.Frames.{Types, types_of, frame_of, AreKnown}
use Rattle.type_rules.proofs.Components.{unequal}
use Rattle.instruction_types.specs.Locals.{without_long, before_cut}
use Rattle.instruction_types.proofs.Stacks.{below-one}
use Rattle.instruction_types.proofs.FirstReads.{read-first}

-- a type in one of the locals; a Long takes the next one, too
abbrev pub placed : VerificationType → ℕ → List VerificationType → List VerificationType
placed Long n locals = slice_set (slice_set locals n Long) (suc n) Top
placed type n locals = slice_set locals n type

-- the locals that a type takes beside its first
abbrev pub more : VerificationType → ℕ
more Long = 1
more type = 0

pub placed-short : (type : VerificationType) (n : ℕ) (locals : List VerificationType) → (type ≡ Long → ⊥)
    → placed type n locals ≡ slice_set locals n type
placed-short Long n locals short = absurd (short refl)
placed-short type n locals short = refl

pub more-short : (type : VerificationType) → (type ≡ Long → ⊥) → more type ≡ 0
more-short Long short = absurd (short refl)
more-short type short = refl

placed-cons : (type : VerificationType) (n : ℕ) (first : VerificationType) (others : List VerificationType)
    → placed type (suc n) (first ∷ others) ≡ (first ∷ placed type n others)
placed-cons Long n first others = refl
placed-cons type n first others = refl

-- past the end there is none
pub past_from_none : {A : Type 0} (xs : List A) (n : ℕ) → slice_get xs n ≡ None → length xs ≤ n
past_from_none {A} xs n none = elim ((slice_get_cases xs n).1) [ inl w ↦ absurd (let some = w.2 in cc) | inr w ↦ w.0 ]

-- ---- what is cut

without_long-cons : (first : VerificationType) (others : List VerificationType) (n : ℕ) (there : Option VerificationType)
    → without_long (first ∷ others) (suc n) there ≡ (first ∷ without_long others n there)
without_long-cons first others n None = refl
without_long-cons first others n (Some Long) = refl
without_long-cons first others n (Some other) = refl

length-without_long : (locals : List VerificationType) (n : ℕ) (there : Option VerificationType)
    → length (without_long locals n there) ≡ length locals
length-without_long locals n None = refl
length-without_long locals n (Some Long) = length-set locals n Top
length-without_long locals n (Some other) = refl

pub length-before_cut : (n : ℕ) (locals : List VerificationType) → length (before_cut n locals) ≡ length locals
length-before_cut zero locals = refl
length-before_cut (suc n) locals = length-without_long locals n (slice_get locals n)

module _ (world : World) where
  without_long-known : (locals : List VerificationType) (n : ℕ) (there : Option VerificationType) → AreKnown world locals
      → AreKnown world (without_long locals n there)
  without_long-known locals n None known = known
  without_long-known locals n (Some Long) known = All-set (IsKnownType world) locals n Top tt known
  without_long-known locals n (Some other) known = known

  pub before_cut-known : (n : ℕ) (locals : List VerificationType) → AreKnown world locals → AreKnown world (before_cut n locals)
  before_cut-known zero locals known = known
  before_cut-known (suc n) locals known = without_long-known locals n (slice_get locals n) known

  cut-type : (type : VerificationType) (first : VerificationType) (others : List VerificationType)
      → (cut true (type_of world first) ∷ types_of world (placed type zero others))
      ≡ types_of world (placed type 1 (before_cut 1 (first ∷ others)))
  cut-type type Long others = ap (types_of world) (sym (placed-cons type 0 Top others))
  cut-type type Top others = ap (types_of world) (sym (placed-cons type 0 Top others))
  cut-type type Int others = ap (types_of world) (sym (placed-cons type 0 Int others))
  cut-type type Null others = ap (types_of world) (sym (placed-cons type 0 Null others))
  cut-type type This others = ap (types_of world) (sym (placed-cons type 0 This others))
  cut-type type (New pc) others = ap (types_of world) (sym (placed-cons type 0 (New pc) others))
  cut-type type (Class class) others = ap (types_of world) (sym (placed-cons type 0 (Class class) others))
  cut-type type (Array component) others = ap (types_of world) (sym (placed-cons type 0 (Array component) others))

  cut-first : (type : VerificationType) (n : ℕ) (first : VerificationType) (others : List VerificationType)
      → (cut (n == 0) (type_of world first) ∷ types_of world (placed type n (before_cut n others)))
      ≡ types_of world (placed type (suc n) (before_cut (suc n) (first ∷ others)))
  cut-first type zero first others = cut-type type first others
  cut-first type (suc n) first others =
      (λ i. cut (unequal (suc n) 0 (λ e. omega (arith, e)) i) (type_of world first) ∷ types_of world (placed type (suc n) (before_cut (suc n) others)))
      ∙ ap (types_of world) (sym (ap (placed type (suc (suc n))) (without_long-cons first others n (slice_get others n))
      ∙ placed-cons type (suc n) first (before_cut (suc n) others)))

  -- ---- what is put

  first-there : (type first : VerificationType) (others : List VerificationType) → more type ≤ length others
      → put_first (type_of world type) (types_of world (first ∷ others)) ≡ Some (types_of world (placed type zero (first ∷ others)))
  first-there Long first [] few = absurd (omega arith)
  first-there Long first (next ∷ others) few = refl
  first-there Top first others few = refl
  first-there Int first others few = refl
  first-there Null first others few = refl
  first-there This first others few = refl
  first-there (New pc) first others few = refl
  first-there (Class class) first others few = refl
  first-there (Array component) first others few = refl

  first-none : (type : VerificationType) (locals : List VerificationType) → length locals ≤ more type
      → put_first (type_of world type) (types_of world locals) ≡ None
  first-none Long [] few = refl
  first-none Long (first ∷ []) few = refl
  first-none Long (first ∷ next ∷ locals) few = absurd (omega arith)
  first-none Top [] few = refl
  first-none Int [] few = refl
  first-none Null [] few = refl
  first-none This [] few = refl
  first-none (New pc) [] few = refl
  first-none (Class class) [] few = refl
  first-none (Array component) [] few = refl
  first-none type (first ∷ locals) few = absurd (omega arith)

  pub put-none : (type : VerificationType) (n : ℕ) (locals : List VerificationType) → length locals ≤ n + more type
      → put n (type_of world type) (types_of world locals) ≡ None
  unfolding put
  put-none type zero locals few = first-none type locals (omega arith)
  put-none type (suc n) [] few = refl
  put-none type (suc n) (first ∷ locals) few =
      ap (option_map (λ behind. cut (n == 0) (type_of world first) ∷ behind)) (put-none type n locals (omega arith))

  pub put-there : (type : VerificationType) (n : ℕ) (locals : List VerificationType) → n + more type < length locals
      → put n (type_of world type) (types_of world locals) ≡ Some (types_of world (placed type n (before_cut n locals)))
  unfolding put
  put-there type zero [] inside = absurd (omega arith)
  put-there type zero (first ∷ locals) inside = first-there type first locals (omega arith)
  put-there type (suc n) [] inside = absurd (omega arith)
  put-there type (suc n) (first ∷ locals) inside =
      ap (option_map (λ behind. cut (n == 0) (type_of world first) ∷ behind)) (put-there type n locals (omega arith))
      ∙ ap Some (cut-first type n first locals)

  -- ---- stores

  bind-map : {A B : Type 0} (f : A → B) (o : Option A) → (o >>= λ x. Some (f x)) ≡ option_map f o
  bind-map f None = refl
  bind-map f (Some x) = refl

  after_pop : ℕ → VerificationType → Types → Option (List model.VerificationType) → Option TypeFrame
  after_pop local type old rest =
      option_map (λ (stack : List model.VerificationType). record { locals = types_of world old.locals; stack = stack }) rest
      >>= λ (frame : TypeFrame). (put local (type_of world type) frame.locals
      >>= λ (locals : List model.VerificationType). Some (record { locals = locals; stack = frame.stack }))

  pub stored-by : (kind : ValueKind) (local : ℕ) (old : Types) (type : VerificationType) (fits : Bool)
      → slice_get old.stack 0 ≡ Some type → fits ≡ is_of_kind kind (type_of world type)
      → stored kind local (frame_of world old)
      ≡ (if fits then option_map (λ (locals : List model.VerificationType). record { locals = locals; stack = types_of world (drop 1 old.stack) })
      (put local (type_of world type) (types_of world old.locals)) else None)
  unfolding after_pop
  stored-by kind local old type fits at is =
      read-first world old.stack 0 (Some type)
      (λ (t : model.VerificationType). popped (is_of_kind kind ∷ []) (frame_of world old)
      >>= λ (frame : TypeFrame). (put local t frame.locals >>= λ (locals : List model.VerificationType). Some (record { locals = locals; stack = frame.stack })))
      (sym at)
      ∙ ap (after_pop local type old) (below-one world (is_of_kind kind) old.stack type fits at is)
      ∙ by fits
    where
      by : (b : Bool) → after_pop local type old (cond b (Some (types_of world (drop 1 old.stack))) None)
          ≡ (if b then option_map (λ (locals : List model.VerificationType). record { locals = locals; stack = types_of world (drop 1 old.stack) })
          (put local (type_of world type) (types_of world old.locals)) else None)
      by true = bind-map (λ (locals : List model.VerificationType). record { locals = locals; stack = types_of world (drop 1 old.stack) }) (put local (type_of world type) (types_of world old.locals))
      by false = refl
