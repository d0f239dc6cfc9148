-- What stands in front of the exception table of a Code attribute. Nothing of it is kept, so it
-- takes no memory.
use Rattle.std.specs.Prelude.{◌≡◌, ℕ, List, [], Option, Some, None, Result, Err, unwrap_or, option_and_then, slice_get, MatchResult}
use Rattle.jv_model.specs.Fallible.{where_true, ◌>>=◌}
use Rattle.jv_model.specs.Refusal.{Cause, wrong_shape}
use Rattle.jv_model.specs.ClassData.{Member, ClassData}
use Rattle.jv_model.specs.Input.{Input, whole_of, number_at, bytes_at}
use Rattle.code_model.specs.CodeShape.{code_bytes, is_code_length}
use Rattle.code_reader.specs.declared.error.CodeError.{CodeError}
use Rattle.code_reader.specs.declared.error.CodeError.TheVariants as errors
use Rattle.code_reader.specs.declared.error.PartError.{PartError}
use Rattle.code_reader.specs.declared.error.PartError.TheVariants as part_errors

-- max_stack, max_locals, the code, and the count of rows, of the method with that index
abbrev pub head_at : ℕ → Input → Result (ℕ × Input) Cause
head_at method input = do
  max_stack ← number_at 2 input
  max_locals ← number_at 2 max_stack.1
  count ← number_at 4 max_locals.1
  counted ← where_true (is_code_length count.0) (wrong_shape method max_locals.1.at) count
  code ← bytes_at counted.0 counted.1
  number_at 2 code.1

-- without the attribute it's as if it were empty
abbrev pub bytes_of : ClassData → Option Member → List ℕ
bytes_of file None = []
bytes_of file (Some method) = unwrap_or (code_bytes file method) []

-- the same of the whole attribute of the method with that index
abbrev pub head_of : ClassData → ℕ → Result (ℕ × Input) Cause
head_of file index = head_at index (whole_of (bytes_of file (slice_get file.methods index)))

-- ---- the error is a refusal, and not want of memory

abbrev pub IsRefusal : CodeError → Type 0
IsRefusal errors.NoMemory = ⊥
IsRefusal other = Unit {0}

abbrev pub IsPartRefusal : PartError → Type 0
IsPartRefusal part_errors.NoMemory = ⊥
IsPartRefusal other = Unit {0}

-- where the head is refused, the answer is a refusal
abbrev pub IsEarly : {X E : Type 0} → (E → Type 0) → Result (ℕ × Input) Cause → Result X E → Type 0
IsEarly is_refusal head answer =
    (cause : Cause) → head ≡ Err cause → MatchResult answer (λ _. ⊥) is_refusal

-- ---- the first method of a class

-- the bytes of its Code attribute, where there are a first method and an attribute
abbrev pub first_bytes : ClassData → Option (List ℕ)
first_bytes file = option_and_then (λ (method : Member). code_bytes file method)
    (slice_get file.methods 0)

abbrev pub IsMethodRefusal : ℕ × CodeError → Type 0
IsMethodRefusal error = IsRefusal error.1

-- where the head of the attribute with these bytes is refused, the answer is a refusal
abbrev pub IsEarlyInMethod :
    {X E : Type 0} → (E → Type 0) → ℕ → Option (List ℕ) → Result X E → Type 0
IsEarlyInMethod is_refusal index bytes answer =
    (run : List ℕ) → bytes ≡ Some run → IsEarly is_refusal (head_at index (whole_of run)) answer
