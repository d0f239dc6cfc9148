-- What a local step of an instruction is, by its family, and what it needs.
use Rattle.std.proofs.Common.{rules, ◌≡◌, ℕ, ◌+◌, ◌≤◌, List, [], ◌∷◌, length, refl, sym, ap, ◌∙◌, subst, arith}
use Rattle.std.specs.Int.{w32, int_wrap}
use Rattle.std.specs.Prelude.{ℤ, ◌+ℤ◌, Bool, true, false, Option, Some, None, IsSome, if◌then◌else◌, option_map, slice_get, unwrap_or}
use Rattle.std.proofs.lemmas.Bool.{ltb-false, le-leb, leb-true}
use Rattle.std.proofs.lemmas.List.{length-append, length-take, length-drop}
use Rattle.jv_model.specs.Operand.{Operand, int_constant, long_constant}
use Rattle.jv_model.specs.Instruction.{Instruction, nop, aconst_null, push_int, push_long, ldc, ldc2_w, load, store, stack, int_arithmetic, int_shift, int_negate, long_arithmetic, long_shift, long_negate, increment, convert, compare_longs, if_zero, if_ints, if_references, if_null, goto, tableswitch, lookupswitch, StackForm, pop_one, pop_two, duplicate, duplicate_x1, duplicate_x2, duplicate_two, duplicate_two_x1, duplicate_two_x2, swap}
use Rattle.jv_model.specs.StackForms.{upper_words, lower_words}
use Rattle.jv_model.specs.Code.{Placed, Body}
use Rattle.code_model.specs.MappedInstruction.{mapped_instruction}
use Rattle.machine_model.specs.Arithmetic.{is_division}
use Rattle.machine_model.specs.Value.{Value, int, long, onto, Taken, taken_of}
use Rattle.machine_model.specs.State.{Frame}
use Rattle.machine_model.specs.Branches.{Branch as Way, branch_on_references, branch_on_null}
use Rattle.machine_model.specs.Operands.{rearranged}
use Rattle.machine_model.specs.LocalStep.{Local, goes_to, not_local, wrong, local_step_of, goes_on_with, pushes, loads, stores_in, stores, increments, branches, local_of_kind, with_local}
use Rattle.local_steps.specs.declared.family.Family.TheVariants.{Push, Store, Operate, Branch, Shared}
use Rattle.local_steps.specs.Constants.{int_named, long_named}
use Rattle.local_steps.specs.Outcome.{Fits, words_back, incremented_in}
use Rattle.local_steps.specs.Families.{family_of, pushed, IsLoaded, Left, stored, left_by, left_with, operated, branched}
use Rattle.jv_values.specs.declared.value.Value.{Value as Word}
use Rattle.jv_values.specs.declared.value.Value.TheVariants as word
use Rattle.jv_values.specs.Values.{value_of, values_of, operands_in, places_of}
use Rattle.jv_values.proofs.WordLemmas.{length-operands_in}
use Rattle.local_steps.specs.Steps.{IsRight, frame_in, with_room, placed_at, step_in}

-- ---- words that are rearranged

some_unless : (b : Bool) (operands : List Value) (most : ℕ) → Fits most (if b then None else Some operands) → (b ≡ false) × (length operands ≤ most)
some_unless true operands most h = absurd h
some_unless false operands most h = (refl, h)

-- there are as many words as a stack form takes
pub rearranged_some : (form : StackForm) (operands : List Value) (most : ℕ) → Fits most (rearranged form operands) → upper_words form + lower_words form ≤ length operands
rearranged_some form operands most h =
    ltb-false (length operands) (upper_words form + lower_words form) (some_unless _ _ most h).0

-- there is room for what it puts back
pub rearranged_room : (form : StackForm) (operands : List Value) (most : ℕ) → Fits most (rearranged form operands) → length operands + words_back form ≤ most + upper_words form + lower_words form
rearranged_room pop_one operands most h =
    omega (arith, rearranged_some pop_one operands most h, simp (length-append, length-take, length-drop) at (some_unless _ _ most h).1)
rearranged_room pop_two operands most h =
    omega (arith, rearranged_some pop_two operands most h, simp (length-append, length-take, length-drop) at (some_unless _ _ most h).1)
rearranged_room duplicate operands most h =
    omega (arith, rearranged_some duplicate operands most h, simp (length-append, length-take, length-drop) at (some_unless _ _ most h).1)
rearranged_room duplicate_x1 operands most h =
    omega (arith, rearranged_some duplicate_x1 operands most h, simp (length-append, length-take, length-drop) at (some_unless _ _ most h).1)
rearranged_room duplicate_x2 operands most h =
    omega (arith, rearranged_some duplicate_x2 operands most h, simp (length-append, length-take, length-drop) at (some_unless _ _ most h).1)
rearranged_room duplicate_two operands most h =
    omega (arith, rearranged_some duplicate_two operands most h, simp (length-append, length-take, length-drop) at (some_unless _ _ most h).1)
rearranged_room duplicate_two_x1 operands most h =
    omega (arith, rearranged_some duplicate_two_x1 operands most h, simp (length-append, length-take, length-drop) at (some_unless _ _ most h).1)
rearranged_room duplicate_two_x2 operands most h =
    omega (arith, rearranged_some duplicate_two_x2 operands most h, simp (length-append, length-take, length-drop) at (some_unless _ _ most h).1)
rearranged_room swap operands most h =
    omega (arith, rearranged_some swap operands most h, simp (length-append, length-take, length-drop) at (some_unless _ _ most h).1)

-- ---- constants

-- a constant that is pushed is the number that is named
pub pushed_int : (operand : Operand) (locals : List Value) → pushed (ldc operand) locals ≡ option_map int (int_named operand)
pushed_int (int_constant n) locals = refl
pushed_int other locals = refl

pub pushed_long : (operand : Operand) (locals : List Value) → pushed (ldc2_w operand) locals ≡ option_map long (long_named operand)
pushed_long (long_constant n) locals = refl
pushed_long other locals = refl

-- ---- the step of each family

-- arithmetic that makes operands doesn't divide
operates : (division : Bool) → (if division then Shared else Operate) ≡ Operate → division ≡ false
operates true h = absurd cc
operates false h = refl

no_branch : (division : Bool) → (if division then Shared else Operate) ≡ Branch → ⊥
no_branch true h = cc
no_branch false h = cc

no_store : (division : Bool) → (if division then Shared else Operate) ≡ Store → ⊥
no_store true h = cc
no_store false h = cc

no_push : (division : Bool) → (if division then Shared else Operate) ≡ Push → ⊥
no_push true h = cc
no_push false h = cc

pub operate_step : (body : Body Operand) (placed : Placed Operand) (frame : Frame) (f : ℕ → Operand) (i : Instruction ℕ) → family_of i ≡ Operate → local_step_of body placed frame (mapped_instruction f i) ≡ goes_on_with body placed frame (operated i frame.stack)
unfolding local_step_of
operate_step body placed frame f (stack form) h = refl
operate_step body placed frame f (int_arithmetic operation) h = rw (operates (is_division operation) h) refl
operate_step body placed frame f (int_shift shift) h = refl
operate_step body placed frame f int_negate h = refl
operate_step body placed frame f (long_arithmetic operation) h = rw (operates (is_division operation) h) refl
operate_step body placed frame f (long_shift shift) h = refl
operate_step body placed frame f long_negate h = refl
operate_step body placed frame f (convert conversion) h = refl
operate_step body placed frame f compare_longs h = refl
operate_step body placed frame f other h = absurd cc

pub branch_step : (body : Body Operand) (placed : Placed Operand) (frame : Frame) (f : ℕ → Operand) (i : Instruction ℕ) → family_of i ≡ Branch → local_step_of body placed frame (mapped_instruction f i) ≡ branches placed frame (branched i frame.stack)
unfolding local_step_of
branch_step body placed frame f (if_zero comparison target) h = refl
branch_step body placed frame f (if_ints comparison target) h = refl
branch_step body placed frame f (if_references wanted target) h = refl
branch_step body placed frame f (if_null wanted target) h = refl
branch_step body placed frame f (goto target) h = refl
branch_step body placed frame f (tableswitch default low targets) h = refl
branch_step body placed frame f (lookupswitch default rows) h = refl
branch_step body placed frame f (int_arithmetic operation) h = absurd (no_branch (is_division operation) h)
branch_step body placed frame f (long_arithmetic operation) h = absurd (no_branch (is_division operation) h)
branch_step body placed frame f other h = absurd cc

-- ---- operands that are made of operands

within : (b : Bool) (next : Frame) → IsRight (if b then goes_to next else wrong) → b ≡ true
within true next h = refl
within false next h = absurd h

fits_right : (body : Body Operand) (placed : Placed Operand) (frame : Frame) (operands : Option (List Value)) → IsRight (goes_on_with body placed frame operands) → Fits body.max_stack operands
fits_right body placed frame None h = absurd h
fits_right body placed frame (Some operands) h = leb-true (length operands) body.max_stack (within _ _ h)

goes_on : (body : Body Operand) (placed : Placed Operand) (frame : Frame) (operands : List Value) → length operands ≤ body.max_stack → goes_on_with body placed frame (Some operands) ≡ goes_to (record frame { pc = placed.next; stack = operands })
goes_on body placed frame operands h = rw (le-leb (length operands) body.max_stack h) refl

pub operate_right : (pc next : ℕ) (f : ℕ → Operand) (i : Instruction ℕ) (locals words : List Word) (depth : ℕ) → family_of i ≡ Operate → IsRight (step_in pc next (mapped_instruction f i) locals words depth) → Fits (length words) (operated i (operands_in words depth))
operate_right pc next f i locals words depth h right =
    fits_right (with_room (length words)) (placed_at pc next (mapped_instruction f i)) (frame_in pc locals words depth) (operated i (operands_in words depth)) (subst IsRight (operate_step (with_room (length words)) (placed_at pc next (mapped_instruction f i)) (frame_in pc locals words depth) f i h) right)

pub operate_reached : (pc next : ℕ) (f : ℕ → Operand) (i : Instruction ℕ) (locals words after : List Word) (depth left : ℕ) → family_of i ≡ Operate → left ≤ length after → length after ≡ length words → operated i (operands_in words depth) ≡ Some (operands_in after left) → step_in pc next (mapped_instruction f i) locals words depth ≡ goes_to (frame_in next locals after left)
operate_reached pc next f i locals words after depth left h inside same e =
    operate_step (with_room (length words)) (placed_at pc next (mapped_instruction f i)) (frame_in pc locals words depth) f i h
    ∙ ap (goes_on_with (with_room (length words)) (placed_at pc next (mapped_instruction f i)) (frame_in pc locals words depth)) e
    ∙ goes_on (with_room (length words)) (placed_at pc next (mapped_instruction f i)) (frame_in pc locals words depth) (operands_in after left) (omega (arith, length-operands_in after left inside))

-- ---- branches

branches_right : (placed : Placed Operand) (frame : Frame) (way : Option Way) → IsRight (branches placed frame way) → IsSome way
branches_right placed frame None h = absurd h
branches_right placed frame (Some way) h = search rules

pub branch_right : (pc next : ℕ) (f : ℕ → Operand) (i : Instruction ℕ) (locals words : List Word) (depth : ℕ) → family_of i ≡ Branch → IsRight (step_in pc next (mapped_instruction f i) locals words depth) → IsSome (branched i (operands_in words depth))
branch_right pc next f i locals words depth h right =
    branches_right (placed_at pc next (mapped_instruction f i)) (frame_in pc locals words depth) (branched i (operands_in words depth)) (subst IsRight (branch_step (with_room (length words)) (placed_at pc next (mapped_instruction f i)) (frame_in pc locals words depth) f i h) right)

pub branch_reached : (pc next : ℕ) (f : ℕ → Operand) (i : Instruction ℕ) (locals words : List Word) (depth left : ℕ) (target : Option ℕ) → family_of i ≡ Branch → branched i (operands_in words depth) ≡ Some (record { target = target; rest = operands_in words left }) → step_in pc next (mapped_instruction f i) locals words depth ≡ goes_to (frame_in (unwrap_or target next) locals words left)
branch_reached pc next f i locals words depth left target h e =
    branch_step (with_room (length words)) (placed_at pc next (mapped_instruction f i)) (frame_in pc locals words depth) f i h ∙ ap (branches (placed_at pc next (mapped_instruction f i)) (frame_in pc locals words depth)) e

-- references are compared where there are two, and with null where there is one
pub two_operands : (wanted : Bool) (target : ℕ) (operands : List Value) → IsSome (branch_on_references wanted target operands) → 2 ≤ length operands
two_operands wanted target [] h = absurd cc
two_operands wanted target (b ∷ []) h = absurd cc
two_operands wanted target (b ∷ a ∷ rest) h = omega arith

pub one_operand : (wanted : Bool) (target : ℕ) (operands : List Value) → IsSome (branch_on_null wanted target operands) → 1 ≤ length operands
one_operand wanted target [] h = absurd cc
one_operand wanted target (a ∷ rest) h = omega arith

-- ---- locals that change

keeps : Placed Operand → Frame → Option Left → Local
keeps placed frame None = wrong
keeps placed frame (Some left) = goes_to (record frame { pc = placed.next; locals = left.locals; stack = left.operands })

stores_kept : (placed : Placed Operand) (frame : Frame) (rest : List Value) (locals : Option (List Value)) → stores_in placed frame rest locals ≡ keeps placed frame (left_with rest locals)
unfolding keeps
stores_kept placed frame rest None = refl
stores_kept placed frame rest (Some locals) = refl

taken_kept : (placed : Placed Operand) (frame : Frame) (n : ℕ) (taken : Option Taken) → stores placed frame n taken ≡ keeps placed frame (left_by n frame.locals taken)
unfolding keeps
taken_kept placed frame n None = refl
taken_kept placed frame n (Some taken) = stores_kept placed frame taken.rest (with_local n taken.value frame.locals)

increment_kept : (placed : Placed Operand) (frame : Frame) (n : ℕ) (by : ℤ) (value : Option Value) → increments placed frame n by value ≡ keeps placed frame (left_with frame.stack (incremented_in n by frame.locals value))
unfolding keeps
increment_kept placed frame n by (Some (int a)) = stores_kept placed frame frame.stack (with_local n (int (int_wrap w32 (a +ℤ by))) frame.locals)
increment_kept placed frame n by other = refl

store_step : (body : Body Operand) (placed : Placed Operand) (frame : Frame) (f : ℕ → Operand) (i : Instruction ℕ) → family_of i ≡ Store → local_step_of body placed frame (mapped_instruction f i) ≡ keeps placed frame (stored i frame.locals frame.stack)
unfolding local_step_of keeps
store_step body placed frame f nop h = refl
store_step body placed frame f (store kind n) h = taken_kept placed frame n (taken_of kind frame.stack)
store_step body placed frame f (increment n by) h = increment_kept placed frame n by (slice_get frame.locals n)
store_step body placed frame f (int_arithmetic operation) h = absurd (no_store (is_division operation) h)
store_step body placed frame f (long_arithmetic operation) h = absurd (no_store (is_division operation) h)
store_step body placed frame f other h = absurd cc

keeps_right : (placed : Placed Operand) (frame : Frame) (left : Option Left) → IsRight (keeps placed frame left) → IsSome left
unfolding keeps
keeps_right placed frame None h = absurd h
keeps_right placed frame (Some left) h = search rules

pub store_right : (pc next : ℕ) (f : ℕ → Operand) (i : Instruction ℕ) (locals words : List Word) (depth : ℕ) → family_of i ≡ Store → IsRight (step_in pc next (mapped_instruction f i) locals words depth) → IsSome (stored i (values_of locals) (operands_in words depth))
store_right pc next f i locals words depth h right =
    keeps_right (placed_at pc next (mapped_instruction f i)) (frame_in pc locals words depth) (stored i (values_of locals) (operands_in words depth)) (subst IsRight (store_step (with_room (length words)) (placed_at pc next (mapped_instruction f i)) (frame_in pc locals words depth) f i h) right)

pub store_reached : (pc next : ℕ) (f : ℕ → Operand) (i : Instruction ℕ) (locals after words : List Word) (depth left : ℕ) → family_of i ≡ Store → stored i (values_of locals) (operands_in words depth) ≡ Some (record { locals = values_of after; operands = operands_in words left }) → step_in pc next (mapped_instruction f i) locals words depth ≡ goes_to (frame_in next after words left)
unfolding keeps
store_reached pc next f i locals after words depth left h e =
    store_step (with_room (length words)) (placed_at pc next (mapped_instruction f i)) (frame_in pc locals words depth) f i h ∙ ap (keeps (placed_at pc next (mapped_instruction f i)) (frame_in pc locals words depth)) e

-- ---- values that come on top

push_step : (body : Body Operand) (placed : Placed Operand) (frame : Frame) (i : Instruction Operand) (value : Value) → pushed i frame.locals ≡ Some value → local_step_of body placed frame i ≡ pushes body placed frame value
unfolding local_step_of
push_step body placed frame aconst_null value e = ap (loads body placed frame) e
push_step body placed frame (push_int n) value e = ap (loads body placed frame) e
push_step body placed frame (push_long n) value e = ap (loads body placed frame) e
push_step body placed frame (ldc (int_constant n)) value e = ap (loads body placed frame) e
push_step body placed frame (ldc2_w (long_constant n)) value e = ap (loads body placed frame) e
push_step body placed frame (load kind n) value e = ap (loads body placed frame) e
push_step body placed frame other value e = absurd cc

loaded_right : (body : Body Operand) (placed : Placed Operand) (frame : Frame) (value : Option Value) → IsRight (loads body placed frame value) → IsSome value
loaded_right body placed frame None h = absurd h
loaded_right body placed frame (Some value) h = search rules

pub load_right : (pc next : ℕ) (f : ℕ → Operand) (i : Instruction ℕ) (locals words : List Word) (depth : ℕ) → IsRight (step_in pc next (mapped_instruction f i) locals words depth) → IsLoaded i (values_of locals)
unfolding local_step_of
load_right pc next f (load kind n) locals words depth right = loaded_right (with_room (length words)) (placed_at pc next (load kind n)) (frame_in pc locals words depth) (local_of_kind kind n (values_of locals)) right
load_right pc next f other locals words depth right = tt

pub push_right : (pc next : ℕ) (i : Instruction Operand) (locals words : List Word) (depth : ℕ) (value : Value) → pushed i (values_of locals) ≡ Some value → IsRight (step_in pc next i locals words depth) → length (onto value (operands_in words depth)) ≤ length words
push_right pc next i locals words depth value e right =
    fits_right (with_room (length words)) (placed_at pc next i) (frame_in pc locals words depth) (Some (onto value (operands_in words depth)))
    (subst IsRight (push_step (with_room (length words)) (placed_at pc next i) (frame_in pc locals words depth) i value e) right)

pub push_reached : (pc next : ℕ) (i : Instruction Operand) (locals words after : List Word) (depth left : ℕ) (value : Value) → pushed i (values_of locals) ≡ Some value → left ≤ length after → length after ≡ length words → operands_in after left ≡ onto value (operands_in words depth) → step_in pc next i locals words depth ≡ goes_to (frame_in next locals after left)
push_reached pc next i locals words after depth left value e inside same on =
    push_step (with_room (length words)) (placed_at pc next i) (frame_in pc locals words depth) i value e
    ∙ ap (λ operands. goes_on_with (with_room (length words)) (placed_at pc next i) (frame_in pc locals words depth) (Some operands)) (sym on)
    ∙ goes_on (with_room (length words)) (placed_at pc next i) (frame_in pc locals words depth) (operands_in after left) (omega (arith, length-operands_in after left inside))

int_none : (body : Body Operand) (placed : Placed Operand) (frame : Frame) (operand : Operand) → pushed (ldc operand) frame.locals ≡ None → local_step_of body placed frame (ldc operand) ≡ not_local
unfolding local_step_of
int_none body placed frame (int_constant n) e = absurd cc
int_none body placed frame other e = refl

long_none : (body : Body Operand) (placed : Placed Operand) (frame : Frame) (operand : Operand) → pushed (ldc2_w operand) frame.locals ≡ None → local_step_of body placed frame (ldc2_w operand) ≡ not_local
unfolding local_step_of
long_none body placed frame (long_constant n) e = absurd cc
long_none body placed frame other e = refl

none_loaded : {X : Type 0} (value : Option X) → IsSome value → value ≡ None → ⊥
none_loaded None h e = absurd cc
none_loaded (Some value) h e = cc

-- where no value comes on top the instruction isn't local
pub push_none : (pc next : ℕ) (f : ℕ → Operand) (i : Instruction ℕ) (locals words : List Word) (depth : ℕ) → family_of i ≡ Push → IsLoaded i (values_of locals) → pushed (mapped_instruction f i) (values_of locals) ≡ None → step_in pc next (mapped_instruction f i) locals words depth ≡ not_local
push_none pc next f aconst_null locals words depth h l e = absurd cc
push_none pc next f (push_int n) locals words depth h l e = absurd cc
push_none pc next f (push_long n) locals words depth h l e = absurd cc
push_none pc next f (ldc index) locals words depth h l e = int_none (with_room (length words)) (placed_at pc next (ldc (f index))) (frame_in pc locals words depth) (f index) e
push_none pc next f (ldc2_w index) locals words depth h l e = long_none (with_room (length words)) (placed_at pc next (ldc2_w (f index))) (frame_in pc locals words depth) (f index) e
push_none pc next f (load kind n) locals words depth h l e = absurd (none_loaded (local_of_kind kind n (values_of locals)) l e)
push_none pc next f (int_arithmetic operation) locals words depth h l e = absurd (no_push (is_division operation) h)
push_none pc next f (long_arithmetic operation) locals words depth h l e = absurd (no_push (is_division operation) h)
push_none pc next f other locals words depth h l e = absurd cc

-- ---- instructions that aren't local

divides : (division : Bool) → (if division then Shared else Operate) ≡ Shared → division ≡ true
divides true h = refl
divides false h = absurd cc

pub shared_none : (pc next : ℕ) (f : ℕ → Operand) (i : Instruction ℕ) (locals words : List Word) (depth : ℕ) → family_of i ≡ Shared → step_in pc next (mapped_instruction f i) locals words depth ≡ not_local
unfolding local_step_of
shared_none pc next f nop locals words depth h = absurd cc
shared_none pc next f aconst_null locals words depth h = absurd cc
shared_none pc next f (push_int n) locals words depth h = absurd cc
shared_none pc next f (push_long n) locals words depth h = absurd cc
shared_none pc next f (ldc index) locals words depth h = absurd cc
shared_none pc next f (ldc2_w index) locals words depth h = absurd cc
shared_none pc next f (load kind n) locals words depth h = absurd cc
shared_none pc next f (store kind n) locals words depth h = absurd cc
shared_none pc next f (stack form) locals words depth h = absurd cc
shared_none pc next f (int_shift shift) locals words depth h = absurd cc
shared_none pc next f int_negate locals words depth h = absurd cc
shared_none pc next f (long_shift shift) locals words depth h = absurd cc
shared_none pc next f long_negate locals words depth h = absurd cc
shared_none pc next f (increment n by) locals words depth h = absurd cc
shared_none pc next f (convert conversion) locals words depth h = absurd cc
shared_none pc next f compare_longs locals words depth h = absurd cc
shared_none pc next f (if_zero comparison target) locals words depth h = absurd cc
shared_none pc next f (if_ints comparison target) locals words depth h = absurd cc
shared_none pc next f (if_references wanted target) locals words depth h = absurd cc
shared_none pc next f (if_null wanted target) locals words depth h = absurd cc
shared_none pc next f (goto target) locals words depth h = absurd cc
shared_none pc next f (tableswitch default low targets) locals words depth h = absurd cc
shared_none pc next f (lookupswitch default rows) locals words depth h = absurd cc
shared_none pc next f (int_arithmetic operation) locals words depth h = rw (divides (is_division operation) h) refl
shared_none pc next f (long_arithmetic operation) locals words depth h = rw (divides (is_division operation) h) refl
shared_none pc next f other locals words depth h = refl

-- a value takes its words on top
pub onto_words : (value : Word) (operands : List Value) → length (onto (value_of value) operands) ≡ length operands + places_of value
onto_words (word.Int n) operands = omega arith
onto_words (word.Long n) operands = omega arith
onto_words word.Half operands = omega arith
onto_words word.Null operands = omega arith
onto_words (word.Ref serial) operands = omega arith
