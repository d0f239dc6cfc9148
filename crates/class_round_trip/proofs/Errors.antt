-- Why reading or writing what the other gave may still fail.
use Rattle.std.proofs.Common.{◌≡◌, ℕ, ◌<◌, ◌≤◌, List, length, Ok, Err, refl, inl, inr, subst}
use Rattle.std.specs.Prelude.{◌⊎◌}
use Rattle.std.proofs.lemmas.Bool.{cases_lt}
use Rattle.jv_types.specs.ClassData.{class_data_of}
use Rattle.jv_model.specs.Limits.{most_file_bytes}
use Rattle.jv_model.specs.ClassData.{ClassData}
use Rattle.jv_model.specs.ClassBytes.{class_bytes}
use Rattle.jv_model.specs.Profile.{SpellsClass}
use Rattle.class_reader.specs.declared.error.ClassError.{ClassError}
use Rattle.class_reader.specs.declared.error.ClassError.TheVariants as reading
use Rattle.class_reader.specs.Gives.{GivesClass}

-- what is spelled so is refused for want of memory alone
unrefused : (error : ClassError) (file : ClassData) → GivesClass class_data_of (Err error) (Ok file)
    → error ≡ reading.NoMemory
unrefused (reading.Truncated at) file gives = absurd cc
unrefused reading.Magic file gives = absurd cc
unrefused (reading.Version major) file gives = absurd cc
unrefused (reading.Pool index) file gives = absurd cc
unrefused (reading.Utf8 index) file gives = absurd cc
unrefused (reading.Attribute at) file gives = absurd cc
unrefused (reading.Extra at) file gives = absurd cc
unrefused (reading.Limit what n) file gives = absurd cc
unrefused reading.NoMemory file gives = refl

-- Where written bytes aren't read, they are too many, or memory ran out.
pub too_long_or_memory : (error : ClassError) (bytes : List ℕ) (file : ClassData)
    → SpellsClass bytes file
    → ((length bytes ≤ most_file_bytes) → GivesClass class_data_of (Err error) (Ok file))
    → (error ≡ reading.NoMemory) ⊎ (most_file_bytes < length (class_bytes file))
too_long_or_memory error bytes file spells read =
    elim (cases_lt most_file_bytes (length bytes)) [
      | inl long ↦ inr (subst (λ (b : List ℕ). most_file_bytes < length b) spells.spelled long)
      | inr short ↦ inl (unrefused error file (read short))
    ]
