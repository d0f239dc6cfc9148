-- What an answer says about the reading of the definitions.
use Rattle.std.specs.Prelude.{Option, Some, None, Result}
use Rattle.jv_types.specs.Refusal.{limited_of}
use Rattle.jv_types.specs.Reading.{Gives}
use Rattle.class_reader.specs.declared.error.ClassError.{ClassError}
use Rattle.class_reader.specs.declared.error.ClassError.TheVariants as class_errors
use Rattle.jv_model.specs.Refusal.{Cause, truncated, wrong_magic, wrong_version, wrong_constant, wrong_text, wrong_attribute, extra_bytes, above_limit}

-- a class file, or a part of one
abbrev pub class_refusal : ClassError → Option Cause
class_refusal (class_errors.Truncated at) = Some (truncated at)
class_refusal class_errors.Magic = Some wrong_magic
class_refusal (class_errors.Version major) = Some (wrong_version major)
class_refusal (class_errors.Pool index) = Some (wrong_constant index)
class_refusal (class_errors.Utf8 index) = Some (wrong_text index)
class_refusal (class_errors.Attribute at) = Some (wrong_attribute at)
class_refusal (class_errors.Extra at) = Some (extra_bytes at)
class_refusal (class_errors.Limit what n) = Some (above_limit (limited_of what) n)
class_refusal class_errors.NoMemory = None

abbrev pub GivesClass : {X Y : Type 0} → (X → Y) → Result X ClassError → Result Y Cause → Type 0
GivesClass view answer read = Gives class_refusal view answer read

-- the error is a refusal of the bytes, and not want of memory
abbrev pub IsRefusal : ClassError → Type 0
IsRefusal class_errors.NoMemory = ⊥
IsRefusal other = Unit {0}
