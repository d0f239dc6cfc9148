-- The nine forms of `pop` .. `swap` are sound.
use Rattle.std.proofs.Common.{◌≡◌, ℕ, zero, suc, ◌+◌, ◌-◌, ◌≤◌, List, [], ◌∷◌, ◌++◌, Some, true, false, refl, ap, sym, subst, ◌&&◌, ◌||◌, nat_le, nat_lt, option_map, length, drop, arith}
use Rattle.std.proofs.Math.Path.{◌∙◌}
use Rattle.std.proofs.Math.Seq.{take-append_seam, drop-append_seam, drop-append-add}
use Rattle.std.proofs.lemmas.List.{length-append, drop-drop}
use Rattle.std.proofs.lemmas.Bool.{and_parts, leb-true, le-ltb}
use Rattle.jv_model.specs.Partial.{◌>>=◌}
use Rattle.jv_model.specs.Operand.{Operand}
use Rattle.jv_model.specs.Code.{Placed}
use Rattle.jv_model.specs.Instruction.{StackForm, pop_one, pop_two, swap}
use Rattle.jv_model.specs.StackForms.{upper_words, lower_words, put_back}
use Rattle.typing_model.specs.VerificationType.{VerificationType, long as long_type, TypeFrame, is_one_word, is_long, words, words_of}
use Rattle.typing_model.specs.Environment.{Environment}
use Rattle.typing_model.specs.Transition.{pushed}
use Rattle.typing_model.specs.StackTypes.{group, stack_formed}
use Rattle.machine_model.specs.Value.{Value, long, half}
use Rattle.machine_model.specs.State.{Frame}
use Rattle.machine_model.specs.Operands.{rearranged}
use Rattle.machine_model.specs.LocalStep.{goes_on_with}
use Rattle.machine_model.specs.TypedValues.{HeapTyping, is_of_type, are_of_types}
use Rattle.frame_laws.proofs.Taking.{words_first, length_is_words}
use Rattle.frame_laws.proofs.Outcome.{IsSound, some_inj, both, map_is, bind_is, when_is, pushed_is_sound}
use Rattle.frame_laws.proofs.Numbers.{Before}

-- ---- operands in two parts

module _ (heap : HeapTyping) (e : Environment) where
  -- operands of two lists of types are of both
  pub together : (upper lower : List VerificationType) (above under : List Value) → are_of_types heap e upper above ≡ true
      → are_of_types heap e lower under ≡ true
      → are_of_types heap e (upper ++ lower) (above ++ under) ≡ true
  unfolding are_of_types
  together [] lower [] under f g = g
  together [] lower (value ∷ above) under f g = absurd cc
  together (long_type ∷ upper) lower (half ∷ long n ∷ above) under f g = together upper lower above under f g
  together (long_type ∷ upper) lower above under f g = absurd cc
  together (type ∷ upper) lower [] under f g = absurd cc
  together (type ∷ upper) lower (value ∷ above) under f g =
      let parts = and_parts (is_of_type heap e type value) (are_of_types heap e upper above) f in
      both (is_of_type heap e type value) (are_of_types heap e (upper ++ lower) (above ++ under)) parts.0
      (together upper lower above under parts.1 g)

  -- operands in two parts, each of its types
  pub record Parts (upper lower : List VerificationType) (values : List Value) : Type 0 where
    pub above : List Value
    pub under : List Value
    pub is : values ≡ above ++ under
    pub above_fits : are_of_types heap e upper above ≡ true
    pub under_fits : are_of_types heap e lower under ≡ true

  -- operands of two lists of types are in two parts
  pub apart : (upper lower : List VerificationType) (values : List Value) → are_of_types heap e (upper ++ lower) values ≡ true
      → Parts upper lower values
  unfolding are_of_types
  apart [] lower values f = record { above = []; under = values; is = refl; above_fits = refl; under_fits = f }
  apart (long_type ∷ upper) lower (half ∷ long n ∷ values) f =
      let p = apart upper lower values f in
      record { above = half ∷ long n ∷ p.above; under = p.under; is = ap (λ vs. half ∷ long n ∷ vs) p.is; above_fits = p.above_fits; under_fits = p.under_fits }
  apart (long_type ∷ upper) lower values f = absurd cc
  apart (type ∷ upper) lower [] f = absurd cc
  apart (type ∷ upper) lower (value ∷ values) f =
      let parts = and_parts (is_of_type heap e type value) (are_of_types heap e (upper ++ lower) values) f in
      let p = apart upper lower values parts.1 in
      record {
        above = value ∷ p.above;
        under = p.under;
        is = ap (λ vs. value ∷ vs) p.is;
        above_fits = both (is_of_type heap e type value) (are_of_types heap e upper p.above) parts.0 p.above_fits;
        under_fits = p.under_fits;
      }

-- ---- groups

-- the group is a front of the stack, of so many words
record Group (k : ℕ) (stack upper : List VerificationType) : Type 0 where
  is : stack ≡ upper ++ drop (length upper) stack
  size : words_of upper ≡ k

-- the first of a group: it is not too wide, and what is left is a group
first_in_group : (more : ℕ) (type : VerificationType) (stack upper : List VerificationType) → group (suc more) (type ∷ stack) ≡ Some upper
    → (rest : List VerificationType) × (words type ≤ suc more) × (group (suc more - words type) stack ≡ Some rest) × (type ∷ rest ≡ upper)
unfolding group
first_in_group more type stack upper h =
    let fits = (is_one_word type || is_long type) && nat_le (words type) (suc more) in
    let w = when_is fits (option_map (λ (rest : List VerificationType). type ∷ rest) (group (suc more - words type) stack)) upper h in
    let m = map_is (λ (rest : List VerificationType). type ∷ rest) (group (suc more - words type) stack) upper w.1 in
    (m.0, leb-true (words type) (suc more) (and_parts (is_one_word type || is_long type) (nat_le (words type) (suc more)) w.0).1, m.1, m.2)

-- what is grouped is a group
group_is : (k : ℕ) (stack upper : List VerificationType) → group k stack ≡ Some upper → Group k stack upper
unfolding group
group_is zero stack upper h = rw (sym (some_inj h)) (record { is = refl; size = refl })
group_is (suc more) [] upper h = absurd cc
group_is (suc more) (type ∷ stack) upper h =
    let f = first_in_group more type stack upper h in
    let g = group_is (suc more - words type) stack f.0 f.2 in
    rw (sym f.3) (record { is = ap (λ (ts : List VerificationType). type ∷ ts) g.is; size = words_first type f.0 ∙ (let s = g.size in let w = f.1 in omega arith) })

-- ---- the places that are moved

-- there are at least the places of both groups
enough : (n m k : ℕ) → nat_lt (n + (m + k)) (n + m) ≡ false
enough n m k = le-ltb (n + (m + k)) (n + m) (omega arith)

-- of two groups of places, with others below, a form makes them put back
places_moved : (form : StackForm) (upper lower rest : List Value) → length upper ≡ upper_words form → length lower ≡ lower_words form
    → rearranged form (upper ++ (lower ++ rest)) ≡ Some (put_back form upper lower ++ rest)
places_moved form upper lower rest u l =
    rw (
      sym u,
      sym l,
      length-append upper (lower ++ rest),
      length-append lower rest,
      enough (length upper) (length lower) (length rest),
      take-append_seam upper (lower ++ rest),
      drop-append_seam upper (lower ++ rest),
      take-append_seam lower rest,
      drop-append-add upper (lower ++ rest) (length lower),
      drop-append_seam lower rest,
    ) refl

-- ---- soundness

-- what typing says of a stack form
record Formed (e : Environment) (form : StackForm) (before after : TypeFrame) : Type 0 where
  upper : List VerificationType
  lower : List VerificationType
  is_upper : group (upper_words form) before.stack ≡ Some upper
  is_lower : group (lower_words form) (drop (length upper) before.stack) ≡ Some lower
  is_pushed : pushed e (put_back form upper lower) (record before { stack = drop (length upper + length lower) before.stack }) ≡ Some after

-- a stack form that is typed is so
formed_is : (e : Environment) (form : StackForm) (before after : TypeFrame) → stack_formed e form before ≡ Some after
    → Formed e form before after
formed_is e form before after h =
    let u = bind_is (λ (upper : List VerificationType). group (lower_words form) (drop (length upper) before.stack) >>= λ lower.
    pushed e (put_back form upper lower) (record before { stack = drop (length upper + length lower) before.stack })) (group (upper_words form) before.stack) after h in
    let l = bind_is (λ (lower : List VerificationType). pushed e (put_back form u.0 lower) (record before { stack = drop (length u.0 + length lower) before.stack }))
    (group (lower_words form) (drop (length u.0) before.stack)) after u.2 in
    record { upper = u.0; lower = l.0; is_upper = u.1; is_lower = l.1; is_pushed = l.2 }

module _ (heap : HeapTyping) (e : Environment) where
  -- groups put back are of the types put back
  put_back_fits : (form : StackForm) (upper lower : List VerificationType) (above under : List Value)
      → are_of_types heap e upper above ≡ true → are_of_types heap e lower under ≡ true
      → are_of_types heap e (put_back form upper lower) (put_back form above under) ≡ true
  unfolding are_of_types
  put_back_fits pop_one upper lower above under f g = refl
  put_back_fits pop_two upper lower above under f g = refl
  put_back_fits swap upper lower above under f g = together heap e lower upper under above g f
  put_back_fits other upper lower above under f g =
      together heap e (upper ++ lower) upper (above ++ under) above (together heap e upper lower above under f g) f

module _ (heap : HeapTyping) (e : Environment) (placed : Placed Operand) (frame : Frame) (before after : TypeFrame) (b : Before heap e placed frame before) where
  -- the nine forms are sound
  pub stack_is_sound : (form : StackForm) → stack_formed e form before ≡ Some after
      → IsSound heap e placed frame after (goes_on_with e.body placed frame (rearranged form frame.stack))
  stack_is_sound form h =
      let w = formed_is e form before after h in
      let gu = group_is (upper_words form) before.stack w.upper w.is_upper in
      let gl = group_is (lower_words form) (drop (length w.upper) before.stack) w.lower w.is_lower in
      let rest : List VerificationType = drop (length w.upper + length w.lower) before.stack in
      let p = apart heap e w.upper (drop (length w.upper) before.stack) frame.stack (subst (λ (ts : List VerificationType). are_of_types heap e ts frame.stack ≡ true) gu.is b.stack) in
      let same : drop (length w.upper) before.stack ≡ w.lower ++ rest = gl.is ∙ ap (λ (ts : List VerificationType). w.lower ++ ts) (drop-drop (length w.lower) (length w.upper) before.stack) in
      let q = apart heap e w.lower rest p.under (subst (λ (ts : List VerificationType). are_of_types heap e ts p.under ≡ true) same p.under_fits) in
      let lu : length p.above ≡ upper_words form = length_is_words heap e w.upper p.above p.above_fits ∙ gu.size in
      let ll : length q.above ≡ lower_words form = length_is_words heap e w.lower q.above q.above_fits ∙ gl.size in
      pushed_is_sound heap e placed frame (put_back form w.upper w.lower) (record before { stack = rest }) after (rearranged form frame.stack) (put_back form p.above q.above ++ q.under)
      (ap (rearranged form) (p.is ∙ ap (λ (vs : List Value). p.above ++ vs) q.is) ∙ places_moved form p.above q.above q.under lu ll)
      w.is_pushed b.locals
      (together heap e (put_back form w.upper w.lower) rest (put_back form p.above q.above) q.under
      (put_back_fits heap e form w.upper w.lower p.above q.above p.above_fits q.above_fits) q.under_fits)
      b.on
