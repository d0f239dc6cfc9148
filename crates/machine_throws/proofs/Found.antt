-- The operands that the definitions take lie on top of the machine's.
use Rattle.std.proofs.Common.{◌≡◌, ℕ, true, List, ◌∷◌, Some, refl, ap, sym, ◌∙◌}
use Rattle.jv_model.specs.Instruction.{ValueKind, of_int, of_long, of_reference}
use Rattle.machine_model.specs.Value as model
use Rattle.machine_model.specs.Value.{is_of_kind, taken_of}
use Rattle.jv_values.specs.declared.value.Value.{Value}
use Rattle.jv_values.specs.Values.{value_of}
use Rattle.thread_frames.specs.Frames.{FrameState}
use Rattle.frame_stacks.specs.Threads.{Threads}
use Rattle.heap_objects.specs.Ids.{value_by}
use Rattle.machine_threads.specs.Laws.{IsNewest}
use Rattle.frame_operands.specs.Operands.{IsTop, HasOne, HasTwo, HasThree}
use Rattle.machine_parts.proofs.Operands.{tops, is_taken}

-- ---- kinds

-- a value keeps its kind, whatever the address stands for
kind_kept : (kind : ValueKind) (id : ℕ → ℕ) (value : model.Value) → is_of_kind kind value ≡ is_of_kind kind (value_by id value)
kind_kept kind id (model.int n) = refl
kind_kept kind id (model.long n) = refl
kind_kept kind id model.half = refl
kind_kept kind id model.null = refl
kind_kept of_int id (model.reference n) = refl
kind_kept of_long id (model.reference n) = refl
kind_kept of_reference id (model.reference n) = refl

kind_taken : (kind : ValueKind) (operands : List model.Value) (taken : model.Taken) → taken_of kind operands ≡ Some taken
    → is_of_kind kind taken.value ≡ true
kind_taken of_int (model.int n ∷ rest) taken is =
    let same : record { value = model.int n; rest = rest } ≡ taken = cc in ap (λ (t : model.Taken). is_of_kind of_int t.value) (sym same)
kind_taken of_long (model.half ∷ model.long n ∷ rest) taken is =
    let same : record { value = model.long n; rest = rest } ≡ taken = cc in ap (λ (t : model.Taken). is_of_kind of_long t.value) (sym same)
kind_taken of_reference (model.null ∷ rest) taken is =
    let same : record { value = model.null; rest = rest } ≡ taken = cc in ap (λ (t : model.Taken). is_of_kind of_reference t.value) (sym same)
kind_taken of_reference (model.reference n ∷ rest) taken is =
    let same : record { value = model.reference n; rest = rest } ≡ taken = cc in ap (λ (t : model.Taken). is_of_kind of_reference t.value) (sym same)
kind_taken kind operands taken is = absurd cc

-- ---- one value

-- The value that the definitions take, and the operands below it.
pub record FoundOne (id : ℕ → ℕ) (stack : List Value) (kind : ValueKind) (taken : model.Taken) : Type 0 where
  pub value : Value
  pub below : List Value
  pub top : IsTop kind stack below value
  pub value_is : taken.value ≡ value_by id (value_of value)
  pub rest_is : taken.rest ≡ tops id below

pub found_one : (kind : ValueKind) (id : ℕ → ℕ) (stack : List Value) (taken : model.Taken) → taken_of kind (tops id stack) ≡ Some taken
    → FoundOne id stack kind taken
found_one kind id stack taken takes =
    let is = is_taken kind id stack taken takes in
    record {
      value = is.value;
      below = is.below;
      top = record {
        is = is.is;
        fits = kind_kept kind id (value_of is.value) ∙ ap (is_of_kind kind) (sym is.value_is) ∙ kind_taken kind (tops id stack) taken takes;
      };
      value_is = is.value_is;
      rest_is = is.rest_is;
    }

abbrev pub has_one : {stacks : Threads} {t : ℕ} {frame : FrameState} {older : List FrameState} {id : ℕ → ℕ} {kind : ValueKind} {taken : model.Taken}
    → IsNewest stacks t frame older → FoundOne id frame.stack kind taken → HasOne stacks t kind
has_one {frame = frame} {older = older} newest one =
    record { frame = frame; older = older; newest = newest; value = one.value; below = one.below; top = one.top }

-- ---- two and three

-- the operands below a value, of which the definitions take another
pub found_next : (kind upper : ValueKind) (id : ℕ → ℕ) (stack : List Value) (above taken : model.Taken) (one : FoundOne id stack upper above)
    → taken_of kind above.rest ≡ Some taken → FoundOne id one.below kind taken
found_next kind upper id stack above taken one takes =
    found_one kind id one.below taken (ap (taken_of kind) (sym one.rest_is) ∙ takes)

abbrev pub has_two : {stacks : Threads} {t : ℕ} {frame : FrameState} {older : List FrameState} {id : ℕ → ℕ} {lower upper : ValueKind} {above taken : model.Taken}
    → IsNewest stacks t frame older → (one : FoundOne id frame.stack upper above) → FoundOne id one.below lower taken → HasTwo stacks t lower upper
has_two {frame = frame} {older = older} newest one next = record {
  frame = frame;
  older = older;
  newest = newest;
  second = one.value;
  between = one.below;
  top = one.top;
  first = next.value;
  below = next.below;
  next = next.top;
}

abbrev pub has_three : {stacks : Threads} {t : ℕ} {frame : FrameState} {older : List FrameState} {id : ℕ → ℕ} {lower middle upper : ValueKind} {uppermost above taken : model.Taken}
    → IsNewest stacks t frame older → (one : FoundOne id frame.stack upper uppermost) → (next : FoundOne id one.below middle above)
    → FoundOne id next.below lower taken → HasThree stacks t lower middle upper
has_three {frame = frame} {older = older} newest one next last = record {
  frame = frame;
  older = older;
  newest = newest;
  third = one.value;
  above = one.below;
  top = one.top;
  second = next.value;
  between = next.below;
  next = next.top;
  first = last.value;
  below = last.below;
  last = last.top;
}
