-- What is said of a reading that asks for no file.
use Rattle.std.specs.Prelude.{◌≡◌, Option, Some, None, Result, Ok, Err}
use Rattle.jv_model.specs.Refusal as refusals
use Rattle.jv_types.specs.Refusal.{cause_of, line_kind_of}
use Rattle.class_asm.specs.declared.error.AsmError.{AsmError}
use Rattle.class_asm.specs.declared.error.AsmError.TheVariants as asm_errors
use Rattle.load_model.specs.Loading.{Loading, refuses, answers, yields}
use Rattle.class_loader.specs.declared.stop.Stop.{Stop}
use Rattle.class_loader.specs.declared.stop.Stop.TheVariants as stops

-- It gives what loading comes to, its value seen by view, or the refusal. Want of memory says nothing.
abbrev pub IsPlaced : {T A : Type 0} → (T → A) → Result T Stop → Loading A → Type 0
IsPlaced view (Ok x) loading = loading ≡ yields (view x)
IsPlaced view (Err (stops.Refused item sub cause)) loading =
    loading ≡ answers (refuses item sub (cause_of cause))
IsPlaced view (Err stops.ReadFault) loading = ⊥
IsPlaced view (Err stops.NoMemory) loading = Unit {0}

-- of an assembler text
abbrev pub asm_refusal : AsmError → Option refusals.Cause
asm_refusal (asm_errors.Line fault) = Some (refusals.assembler_line fault.line (line_kind_of fault.kind))
asm_refusal asm_errors.NoMemory = None
