-- What an answer says of the code of a class's methods.
use Rattle.std.specs.Prelude.{◌≡◌, ℕ, List, map, Option, Some, Result, slice_get}
use Rattle.jv_model.specs.Refusal.{Cause}
use Rattle.jv_model.specs.ClassData.{ClassData, Member}
use Rattle.jv_model.specs.Code.{Body}
use Rattle.code_model.specs.SpellsCode.{HasCode}
use Rattle.jv_types.specs.Reading.{Gives}
use Rattle.jv_types.specs.Loaded.{code_of}
use Rattle.jv_types.specs.declared.code.CodeBody.{CodeBody}
use Rattle.jv_types.specs.declared.loaded.Loaded.{Loaded}
use Rattle.code_reader.specs.declared.error.CodeError.{CodeError}
use Rattle.code_reader.specs.Gives.{code_refusal}

-- the method with that index has a Code attribute, whose bytes are those of the body
abbrev pub IsCodeOf : ClassData → ℕ → Body ℕ → Type 0
IsCodeOf file index body =
    (method : Member) × (slice_get file.methods index ≡ Some method)
    × HasCode file method (Some body)

-- the refusal of the method with an index
abbrev pub codes_refusal : ℕ × CodeError → Option Cause
codes_refusal error = code_refusal error.0 error.1

abbrev pub GivesCodes :
    {X Y : Type 0} → (X → Y) → Result X (ℕ × CodeError) → Result Y Cause → Type 0
GivesCodes view answer read = Gives codes_refusal view answer read

-- the code of methods, in their order
abbrev pub Codes : Type 0
Codes = List (Option (Body ℕ))

abbrev pub codes_of : List (Option CodeBody) → List (Option (Body ℕ))
codes_of codes = map code_of codes

abbrev pub codes_in : Loaded → List (Option (Body ℕ))
codes_in loaded = codes_of loaded.codes.items
