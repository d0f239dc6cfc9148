-- What is assembled is in the profile.
use Rattle.std.proofs.Common.{List, ℕ, ◌≤◌, length, Result, Ok, Err}
use Rattle.std.specs.Prelude.{IfOk}
use Rattle.jv_model.specs.Limits.{most_file_bytes}
use Rattle.jv_model.specs.Profile.{IsInProfile}
use Rattle.assembler_model.specs.AssembledClass.{assembled}
use Rattle.assembler_laws.proofs.ProfileLemmas.{in_profile}
use Rattle.assembler_laws.proofs.ShortLemmas.{numbers_fit}
use Rattle.jv_types.specs.ClassData.{class_data_of}
use Rattle.jv_types.specs.declared.class_data.ClassData.{ClassData}
use Rattle.class_asm.specs.Assembles.{Assembles}
use Rattle.class_asm.specs.declared.error.AsmError.{AsmError}

pub is_in_profile : (text : List ℕ) (result : Result ClassData AsmError) → Assembles result (assembled text)
    → length text ≤ most_file_bytes → IfOk result (λ class. IsInProfile (class_data_of class))
is_in_profile text (Ok class) is fits =
    in_profile text (class_data_of class) is (numbers_fit text (class_data_of class) is fits)
is_in_profile text (Err error) is fits = tt
