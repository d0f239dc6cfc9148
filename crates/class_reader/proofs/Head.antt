-- What is refused in front of the entries of the constant pool is refused as the whole is.
use Rattle.std.proofs.Common.{◌≡◌, ℕ, List, length, leb, Result, Ok, Err, ap}
use Rattle.jv_model.specs.Limits.{most_file_bytes}
use Rattle.jv_model.specs.Refusal.{Cause, above_limit, whole_file}
use Rattle.jv_model.specs.Fallible.{◌>>=◌, where_true}
use Rattle.jv_model.specs.Input.{Input, whole_of, number_at}
use Rattle.jv_model.specs.ClassData.{Const}
use Rattle.jv_model.specs.ClassReading.{versions_at, pool_at, class_at, class_of}
use Rattle.class_reader.specs.Head.{head_at, head_of}

refused_first : {A B : Type 0} (first : Result A Cause) (others : A → Result B Cause)
    (cause : Cause) → first ≡ Err cause → (first >>= others) ≡ Err cause
refused_first first others cause refused = ap (λ read. read >>= others) refused

-- what is refused behind the same first item
refused_behind : {A B C : Type 0} (first : Result A Cause) (one : A → Result B Cause)
    (other : A → Result C Cause) (cause : Cause)
    → ((x : A) → one x ≡ Err cause → other x ≡ Err cause) → (first >>= one) ≡ Err cause
    → (first >>= other) ≡ Err cause
refused_behind (Ok x) one other cause behind refused = behind x refused
refused_behind (Err fault) one other cause behind refused = cc

pool_is_refused : (major : ℕ) (input : Input) (cause : Cause) → number_at 2 input ≡ Err cause
    → pool_at major input ≡ Err cause
unfolding pool_at
pool_is_refused major input cause refused = refused_first (number_at 2 input) _ cause refused

class_is_refused : (input : Input) (cause : Cause) → head_at input ≡ Err cause
    → class_at input ≡ Err cause
unfolding class_at
class_is_refused input cause refused =
    refused_behind (versions_at input) _ _ cause
    (λ versions counted. refused_first (pool_at versions.0.1 versions.1) _ cause
    (pool_is_refused versions.0.1 versions.1 cause counted)) refused

pub whole_is_refused : (bytes : List ℕ) (cause : Cause) → head_of bytes ≡ Err cause
    → class_of bytes ≡ Err cause
unfolding class_of
whole_is_refused bytes cause refused =
    refused_behind (where_true (leb (length bytes) most_file_bytes)
    (above_limit whole_file (length bytes)) (whole_of bytes)) head_at _ cause
    (λ input front. refused_first (class_at input) _ cause (class_is_refused input cause front))
    refused

-- where the pool was read, so was its count
pub pool_has_count : (major : ℕ) (input : Input) (pool : List Const × Input) (cause : Cause)
    → pool_at major input ≡ Ok pool → number_at 2 input ≡ Err cause → ⊥
pool_has_count major input pool cause read refused = let no =
    pool_is_refused major input cause refused in cc

-- where the versions were read, the count is refused
pub count_is_refused : (input : Input) (versions : (ℕ × ℕ) × Input) (cause : Cause)
    → versions_at input ≡ Ok versions → head_at input ≡ Err cause
    → number_at 2 versions.1 ≡ Err cause
count_is_refused input versions cause read refused = rw read at refused
