-- What the laws of class files say of an answer that is what reading gives.
use Rattle.std.proofs.Common.{◌≡◌, ℕ, ◌≤◌, List, length, Some, None, Result, Ok, Err, subst}
use Rattle.std.specs.Prelude.{IfOk, IfErr, MatchResult}
use Rattle.jv_types.specs.declared.class_data.ClassData.{ClassData as Here}
use Rattle.jv_types.specs.ClassData.{class_data_of}
use Rattle.jv_types.specs.Reading.{Refuses}
use Rattle.jv_model.specs.Limits.{most_file_bytes}
use Rattle.jv_model.specs.Refusal.{Cause}
use Rattle.jv_model.specs.ClassData.{ClassData}
use Rattle.jv_model.specs.Profile.{SpellsClass}
use Rattle.jv_model.specs.ClassReading.{class_of}
use Rattle.class_laws.proofs.Numbers.{IsBytes}
use Rattle.class_laws.proofs.ClassFile.{class_takes, class_again}
use Rattle.class_reader.specs.declared.error.ClassError.{ClassError}
use Rattle.class_reader.specs.declared.error.ClassError.TheVariants as errors
use Rattle.class_reader.specs.Gives.{class_refusal, GivesClass, IsRefusal}
use Rattle.class_reader.specs.Head.{head_of}
use Rattle.class_reader.proofs.Head.{whole_is_refused}

pub is_found : (bytes : List ℕ) (answer : Result Here ClassError) → IsBytes bytes
    → GivesClass class_data_of answer (class_of bytes)
    → IfOk answer (λ file. SpellsClass bytes (class_data_of file))
is_found bytes (Ok file) fits gives = (class_takes bytes (class_data_of file) fits gives).0
is_found bytes (Err error) fits gives = tt

pub is_read : (bytes : List ℕ) (answer : Result Here ClassError) (file : ClassData)
    → SpellsClass bytes file → length bytes ≤ most_file_bytes
    → GivesClass class_data_of answer (class_of bytes) → GivesClass class_data_of answer (Ok file)
is_read bytes answer file spells short gives =
    subst (GivesClass class_data_of answer) (class_again bytes file spells short) gives

-- an error that is no want of memory is the refusal
refusal_is : (error : ClassError) (read : Result ClassData Cause) (cause : Cause) → IsRefusal error
    → read ≡ Err cause → Refuses (class_refusal error) read → class_refusal error ≡ Some cause
refusal_is errors.NoMemory read cause told refused refuses = absurd told
refusal_is (errors.Truncated at) read cause told refused refuses = cc
refusal_is errors.Magic read cause told refused refuses = cc
refusal_is (errors.Version major) read cause told refused refuses = cc
refusal_is (errors.Pool index) read cause told refused refuses = cc
refusal_is (errors.Utf8 index) read cause told refused refuses = cc
refusal_is (errors.Attribute at) read cause told refused refuses = cc
refusal_is (errors.Extra at) read cause told refused refuses = cc
refusal_is (errors.Limit what n) read cause told refused refuses = cc

pub is_early : (bytes : List ℕ) (answer : Result Here ClassError) (cause : Cause)
    → GivesClass class_data_of answer (class_of bytes)
    → (head_of bytes ≡ Err cause → IfErr answer IsRefusal)
    → head_of bytes ≡ Err cause → MatchResult answer (λ file. ⊥)
    (λ error. class_refusal error ≡ Some cause)
is_early bytes (Ok file) cause gives told refused =
    absurd (let no = whole_is_refused bytes cause refused in cc)
is_early bytes (Err error) cause gives told refused =
    refusal_is error (class_of bytes) cause (told refused)
    (whole_is_refused bytes cause refused) gives
