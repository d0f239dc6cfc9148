-- Operands that are taken and put, one by one and all together.
use Rattle.std.proofs.Common.{◌≡◌, ℕ, ◌+◌, ◌-◌, ◌<◌, ◌≤◌, Bool, true, false, cond, if◌then◌else◌, nat_le, List, [], ◌∷◌, ◌++◌, Option, Some, None, Result, Err, length, reverse, slice_get, get_or, drop, option_map, ap, sym, subst, ◌∙◌, inl, inr, refl, arith}
use Rattle.std.proofs.lemmas.Bool.{false≢true}
use Rattle.std.proofs.lemmas.Bool.Decides.{leb_tells}
use Rattle.std.specs.List.{sum_by}
use Rattle.std.proofs.lemmas.List.{drop_more, drop_all, map-append, reverse-append}
use Rattle.std.proofs.lemmas.List.Sums.{sum-map, sum_by-cons, sum_by-append, sum_by_push}
use Rattle.jv_model.specs.Partial.{◌>>=◌}
use Rattle.world_model.specs.World.{World}
use Rattle.typing_model.specs.VerificationType as model
use Rattle.typing_model.specs.VerificationType.{TypeFrame}
use Rattle.typing_model.specs.Environment.{Environment}
use Rattle.typing_model.specs.Transition.{Test, below, popped, pushed}
use Rattle.type_rules.specs.declared.types.VerificationType.{VerificationType}
use Rattle.type_rules.specs.declared.types.VerificationType.TheVariants.{Top, Int, Long, Null, This, New, Class, Array}
use Rattle.type_rules.specs.Types.{type_of}
use Rattle.type_rules.specs.Frames.{Types, types_of, frame_of, words_of}
use Rattle.instruction_types.specs.declared.environment.TypingError.{TypingError}
use Rattle.instruction_types.specs.declared.environment.TypingError.TheVariants.{Misfit, NoMemory}
use Rattle.instruction_types.specs.declared.operands.Wanted.{Wanted}
use Rattle.instruction_types.specs.Outcome.{Gives}
use Rattle.instruction_types.specs.Wanted.{test_of, tests_of}

-- ---- one operand

module _ (world : World) (test : Test) where
  pub below-none : (stack : List VerificationType) → slice_get stack 0 ≡ None → below (test ∷ []) (types_of world stack) ≡ None
  unfolding below
  below-none [] none = refl
  below-none (x ∷ stack) none = cc

  pub below-one : (stack : List VerificationType) (x : VerificationType) (taken : Bool) → slice_get stack 0 ≡ Some x
      → taken ≡ test (type_of world x)
      → below (test ∷ []) (types_of world stack) ≡ cond taken (Some (types_of world (drop 1 stack))) None
  unfolding below
  below-one [] x taken at is = cc
  below-one (y ∷ stack) x taken at is =
      let same : y ≡ x = cc in
      λ i. cond ((ap (λ (t : VerificationType). test (type_of world t)) same ∙ sym is) i) (Some (types_of world stack)) None

-- ---- all of them

-- the first, and then the others
pub popped-cons : (test : Test) (tests : List Test) (locals stack : List model.VerificationType)
    → popped (test ∷ tests) (record { locals = locals; stack = stack })
    ≡ (popped (test ∷ []) (record { locals = locals; stack = stack }) >>= popped tests)
unfolding below
popped-cons test tests locals [] = refl
popped-cons test tests locals (type ∷ stack) = by (test type)
  where
    by : (b : Bool) → option_map (λ (rest : List model.VerificationType). record { locals = locals; stack = rest }) (cond b (below tests stack) None)
        ≡ (option_map (λ (rest : List model.VerificationType). record { locals = locals; stack = rest }) (cond b (Some stack) None) >>= popped tests)
    by true = refl
    by false = refl

pub popped-none : (frame : TypeFrame) → popped [] frame ≡ Some frame
unfolding below
popped-none frame = refl

-- what fails at first fails
pub Gives-first : (X : Type 0) (error : TypingError) (given : Option TypeFrame) (next : TypeFrame → Option TypeFrame) (all : Option TypeFrame) (frame : TypeFrame)
    → all ≡ (given >>= next) → Gives {X = X} (Err error) given frame → Gives {X = X} (Err error) all frame
Gives-first X Misfit given next all frame is none = is ∙ ap (λ (o : Option TypeFrame). o >>= next) none
Gives-first X NoMemory given next all frame is none = tt

pub Gives-next : (X : Type 0) (result : Result X TypingError) (given : Option TypeFrame) (between : TypeFrame) (next : TypeFrame → Option TypeFrame) (frame : TypeFrame)
    → given ≡ Some between → Gives {X = X} result (next between) frame → Gives {X = X} result (given >>= next) frame
Gives-next X result given between next frame is gives =
    subst (λ (o : Option TypeFrame). Gives {X = X} result (o >>= next) frame) (sym is) gives

-- ---- words

words_of-type : (world : World) (type : VerificationType) → model.words (type_of world type) ≡ words_of type
words_of-type world Top = refl
words_of-type world Int = refl
words_of-type world Long = refl
words_of-type world Null = refl
words_of-type world This = refl
words_of-type world (New pc) = refl
words_of-type world (Class class) = refl
words_of-type world (Array component) = refl

sum_by-reverse : {A : Type 0} (f : A → ℕ) (xs : List A) → sum_by f (reverse xs) ≡ sum_by f xs
sum_by-reverse f [] = refl
sum_by-reverse f (x ∷ xs) =
    ap (sum_by f) (reverse-append (x ∷ []) xs) ∙ sum_by_push f (reverse xs) x
    ∙ (let rest = sum_by-reverse f xs in omega (arith, rest, sum_by-cons f x xs))

words_of-types : (world : World) (types : List VerificationType) → model.words_of (types_of world types) ≡ sum_by words_of types
words_of-types world [] = refl
words_of-types world (type ∷ types) =
    sum-map model.words (types_of world (type ∷ types)) ∙ sum_by-cons model.words (type_of world type) (types_of world types)
    ∙ (λ i. words_of-type world type i + (sym (sum-map model.words (types_of world types)) ∙ words_of-types world types) i)
    ∙ sym (sum_by-cons words_of type types)

-- the words of what is put and of what is there
pub words-together : (world : World) (types operands stack : List VerificationType) → reverse operands ≡ stack
    → model.words_of (types_of world types ++ types_of world stack) ≡ sum_by words_of types + sum_by words_of operands
words-together world types operands stack is =
    ap model.words_of (sym (map-append (type_of world) types stack)) ∙ words_of-types world (types ++ stack)
    ∙ sum_by-append words_of types stack
    ∙ ap (λ (n : ℕ). sum_by words_of types + n) (ap (sum_by words_of) (sym is) ∙ sum_by-reverse words_of operands)

-- ---- all operands

pub popped-drop : (world : World) (e : Environment) (wanted : List Wanted) (i : ℕ) (d : Wanted) (frame : TypeFrame)
    → i < length wanted
    → popped (tests_of world e (drop i wanted)) frame
    ≡ (popped (test_of world e (get_or wanted i d) ∷ []) frame >>= popped (tests_of world e (drop (i + 1) wanted)))
popped-drop world e wanted i d frame inside =
    ap (λ (ws : List Wanted). popped (tests_of world e ws) frame) (drop_more wanted i d inside)
    ∙ popped-cons (test_of world e (get_or wanted i d)) (tests_of world e (drop (i + 1) wanted)) frame.locals frame.stack

pub popped-end : (world : World) (e : Environment) (wanted : List Wanted) (i : ℕ) (frame : TypeFrame)
    → length wanted ≤ i → popped (tests_of world e (drop i wanted)) frame ≡ Some frame
popped-end world e wanted i frame end =
    ap (λ (ws : List Wanted). popped (tests_of world e ws) frame) (drop_all i wanted end) ∙ popped-none frame

-- so many types were put, and those before them stay to be put
pub pushed-more : {A : Type 0} (types stack : List A) (k : ℕ) (x : A) → k < length types → x ≡ get_or types (length types - 1 - k) x
    → (x ∷ (drop (length types - k) types ++ stack)) ≡ (drop (length types - (k + 1)) types ++ stack)
pushed-more {A} types stack k x inside is =
    let at : length types - (k + 1) ≡ length types - 1 - k = omega arith in
    let next : length types - k ≡ length types - 1 - k + 1 = omega arith in
    (λ i. sym (sym is) i ∷ (drop (next i) types ++ stack))
    ∙ sym ((λ i. drop (at i) types ++ stack)
    ∙ ap (λ (l : List A). l ++ stack) (drop_more types (length types - 1 - k) x (omega arith)))

-- ---- room

le_from : (a b : ℕ) → nat_le a b ≡ true → a ≤ b
le_from a b is = elim (leb_tells a b) [ inl w ↦ w.1 | inr w ↦ absurd (false≢true (sym w.0 ∙ is)) ]

gt_from : (a b : ℕ) → nat_le a b ≡ false → b < a
gt_from a b is = elim (leb_tells a b) [ inl w ↦ absurd (false≢true (sym is ∙ w.0)) | inr w ↦ w.1 ]

pub le_split : (a b m : ℕ) → a ≤ m → nat_le b (m - a) ≡ nat_le (a + b) m
le_split a b m inside = by (nat_le b (m - a)) (nat_le (a + b) m) refl refl
  where
    by : (p q : Bool) → nat_le b (m - a) ≡ p → nat_le (a + b) m ≡ q → nat_le b (m - a) ≡ nat_le (a + b) m
    by true true is_p is_q = is_p ∙ sym is_q
    by false false is_p is_q = is_p ∙ sym is_q
    by true false is_p is_q =
        let few = le_from b (m - a) is_p in let past = gt_from (a + b) m is_q in absurd (omega arith)
    by false true is_p is_q =
        let few = le_from (a + b) m is_q in let past = gt_from b (m - a) is_p in absurd (omega arith)

pub le_not : (a m : ℕ) → m < a → nat_le a m ≡ false
le_not a m past = by (nat_le a m) refl
  where
    by : (q : Bool) → nat_le a m ≡ q → nat_le a m ≡ false
    by false is = is
    by true is = let few = le_from a m is in absurd (omega arith)

pub le_past : (a b m : ℕ) → m < a → false ≡ nat_le (a + b) m
le_past a b m past = by (nat_le (a + b) m) refl
  where
    by : (q : Bool) → nat_le (a + b) m ≡ q → false ≡ nat_le (a + b) m
    by false is = sym is
    by true is = let few = le_from (a + b) m is in absurd (omega arith)

-- what is put, where there is room
pub pushed-by : (world : World) (e : Environment) (types : List VerificationType) (old : Types) (room : Bool)
    → room ≡ nat_le (model.words_of (types_of world types ++ types_of world old.stack)) e.body.max_stack
    → pushed e (types_of world types) (frame_of world old)
    ≡ (if room then Some (frame_of world (record { locals = old.locals; stack = types ++ old.stack })) else None)
pushed-by world e types old room is =
    λ i. if (sym is i) then Some (record { locals = types_of world old.locals; stack = sym (map-append (type_of world) types old.stack) i }) else None
