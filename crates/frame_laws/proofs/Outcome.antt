-- What a sound step of a frame leads to, and how pushing and popping lead there.
use Rattle.std.proofs.Common.{◌≡◌, ℕ, zero, suc, List, [], ◌∷◌, ◌++◌, Option, Some, None, Bool, true, false, refl, if◌then◌else◌, ap, sym, subst, unwrap_or, nat_le, slice_get, option_map, inl, inr, ◌&&◌, ◌||◌}
use Rattle.std.specs.Prelude.{⊤, ◌⊎◌}
use Rattle.std.specs.List.{list_all}
use Rattle.std.proofs.lemmas.Bool.{and_parts}
use lib.Pointwise.{pointwise}
use Rattle.jv_model.specs.Partial.{◌>>=◌}
use Rattle.jv_model.specs.Operand.{Operand}
use Rattle.jv_model.specs.Code.{Placed}
use Rattle.typing_model.specs.VerificationType.{VerificationType, TypeFrame, words_of}
use Rattle.typing_model.specs.Environment.{Environment}
use Rattle.typing_model.specs.Transition.{Test, below, popped, pushed, changed}
use Rattle.machine_model.specs.Value.{Value, onto}
use Rattle.machine_model.specs.State.{Frame}
use Rattle.machine_model.specs.Branches.{Branch}
use Rattle.machine_model.specs.LocalStep.{Local, goes_to, not_local, wrong, goes_on_with, branches}
use Rattle.machine_model.specs.TypedValues.{HeapTyping, is_of_type, are_of_types, fits_frame}
use Rattle.frame_laws.proofs.Taking.{length_is_words}
use Rattle.jv_model.specs.Flow.{goes_on, targets_of}

-- flow goes there: to the next instruction, where flow goes on, or to a target
abbrev pub IsNextPlace : Placed Operand → ℕ → Type 0
IsNextPlace placed pc =
    ((pc ≡ placed.next) × (goes_on placed.instruction ≡ true)) ⊎ ((k : ℕ) × (slice_get (targets_of placed.instruction) k ≡ Some pc))

-- a frame that goes on, of the types behind the instruction
pub record GoesRightly (heap : HeapTyping) (e : Environment) (placed : Placed Operand) (frame : Frame) (after : TypeFrame) (next : Frame) : Type 0 where
  pub place : IsNextPlace placed next.pc
  pub same_method : next.method ≡ frame.method
  pub same_held : next.held ≡ frame.held
  pub fits : fits_frame heap e next after ≡ true

-- a step that goes on does so rightly, and none is wrong
abbrev pub IsSound : HeapTyping → Environment → Placed Operand → Frame → TypeFrame → Local → Type 0
IsSound heap e placed frame after (goes_to next) = GoesRightly heap e placed frame after next
IsSound heap e placed frame after not_local = ⊤
IsSound heap e placed frame after wrong = ⊥

-- what stands in two equal options is equal
pub some_inj : {A : Type 0} {a b : A} → Some a ≡ Some b → a ≡ b
some_inj {a = a} h = ap (λ o. unwrap_or o a) h

-- two tests that hold both do
pub both : (a b : Bool) → a ≡ true → b ≡ true → (a && b) ≡ true
both true true h k = refl
both true false h k = absurd cc
both false b h k = absurd cc

-- of two tests one holds
pub or_either : (a b : Bool) → (a || b) ≡ true → (a ≡ true) ⊎ (b ≡ true)
or_either true b h = inl refl
or_either false b h = inr h

-- what a function makes of something is made of something
pub map_is : {A B : Type 0} (f : A → B) (o : Option A) (y : B) → option_map f o ≡ Some y → (x : A) × (o ≡ Some x) × (f x ≡ y)
map_is f None y h = absurd cc
map_is f (Some x) y h = (x, refl, some_inj h)

-- what follows something and gives something
pub bind_is : {A B : Type 0} (f : A → Option B) (o : Option A) (y : B) → (o >>= f) ≡ Some y → (x : A) × (o ≡ Some x) × (f x ≡ Some y)
bind_is f None y h = absurd cc
bind_is f (Some x) y h = (x, refl, h)

-- where a test that is needed gives something, it holds
pub when_is : {A : Type 0} (b : Bool) (o : Option A) (y : A) → (if b then o else None) ≡ Some y → (b ≡ true) × (o ≡ Some y)
when_is true o y h = (refl, h)
when_is false o y h = absurd cc

-- what all pass each passes
pub all_of : {A : Type 0} (test : A → Bool) (xs : List A) (n : ℕ) (x : A) → list_all test xs ≡ true → slice_get xs n ≡ Some x
    → test x ≡ true
all_of test [] n x h at = absurd cc
all_of test (y ∷ ys) zero x h at = rw (sym (some_inj at)) (and_parts (test y) (list_all test ys) h).0
all_of test (y ∷ ys) (suc n) x h at = all_of test ys n x (and_parts (test y) (list_all test ys) h).1 at

-- ---- what popping and pushing say

-- what popping says: the rest of the stack, and the frame with it
pub popped_is : (tests : List Test) (before after : TypeFrame) → popped tests before ≡ Some after
    → (rest : List VerificationType) × (below tests before.stack ≡ Some rest) × (record before { stack = rest } ≡ after)
popped_is tests before after h = map_is (λ (rest : List VerificationType). record before { stack = rest }) (below tests before.stack) after h

-- what pushing says: there is room, and the frame with the types
pub pushed_is : (e : Environment) (types : List VerificationType) (before after : TypeFrame) → pushed e types before ≡ Some after
    → (nat_le (words_of (types ++ before.stack)) e.body.max_stack ≡ true) × (record before { stack = types ++ before.stack } ≡ after)
pushed_is e types before after h =
    let w = when_is (nat_le (words_of (types ++ before.stack)) e.body.max_stack) (Some (record before { stack = types ++ before.stack })) after h in
    (w.0, some_inj w.1)

-- what popping and pushing says: the rest of the stack, and what is pushed onto it
pub changed_is : (e : Environment) (tests : List Test) (types : List VerificationType) (before after : TypeFrame)
    → changed e tests types before ≡ Some after
    → (rest : List VerificationType) × (below tests before.stack ≡ Some rest) × (pushed e types (record before { stack = rest }) ≡ Some after)
changed_is e tests types before after h =
    let p = bind_is (pushed e types) (popped tests before) after h in
    let q = popped_is tests before p.0 p.1 in
    (q.0, q.1, subst (λ (a : TypeFrame). pushed e types a ≡ Some after) (sym q.2) p.2)

-- ---- what is sound

-- these operands are of the types pushed
pub pushed_is_sound : (heap : HeapTyping) (e : Environment) (placed : Placed Operand) (frame : Frame) (types : List VerificationType)
    (before after : TypeFrame)
    (result : Option (List Value)) (operands : List Value) → result ≡ Some operands → pushed e types before ≡ Some after
    → pointwise (is_of_type heap e) before.locals frame.locals ≡ true → are_of_types heap e (types ++ before.stack) operands ≡ true → goes_on placed.instruction ≡ true
    → IsSound heap e placed frame after (goes_on_with e.body placed frame result)
pushed_is_sound heap e placed frame types before after result operands is h locals f on =
    let p = pushed_is e types before after h in
    rw (is, length_is_words heap e (types ++ before.stack) operands f, p.0) (record {
      place = inl (refl, on);
      same_method = refl;
      same_held = refl;
      fits = subst (λ (a : TypeFrame). fits_frame heap e (record frame { pc = placed.next; stack = operands }) a ≡ true) p.1
          (both (pointwise (is_of_type heap e) before.locals frame.locals) (are_of_types heap e (types ++ before.stack) operands) locals f);
    })

-- a value of this type comes onto the stack, in its places
abbrev pub Lands : HeapTyping → Environment → VerificationType → Value → Type 0
Lands heap e type value = (types : List VerificationType) (others : List Value) → are_of_types heap e types others ≡ true
    → are_of_types heap e (type ∷ types) (onto value others) ≡ true

-- a branch leaves operands of the types that are left
pub branch_is_sound : (heap : HeapTyping) (e : Environment) (placed : Placed Operand) (frame : Frame) (before after : TypeFrame)
    (rest : List VerificationType) (result : Option Branch) (branch : Branch)
    → result ≡ Some branch → record before { stack = rest } ≡ after
    → pointwise (is_of_type heap e) before.locals frame.locals ≡ true → are_of_types heap e rest branch.rest ≡ true
    → IsNextPlace placed (unwrap_or branch.target placed.next)
    → IsSound heap e placed frame after (branches placed frame result)
branch_is_sound heap e placed frame before after rest result branch is h locals f place = rw is (record {
  place = place;
  same_method = refl;
  same_held = refl;
  fits = subst (λ (a : TypeFrame). fits_frame heap e (record frame { pc = unwrap_or branch.target placed.next; stack = branch.rest }) a ≡ true) h
      (both (pointwise (is_of_type heap e) before.locals frame.locals) (are_of_types heap e rest branch.rest) locals f);
})
