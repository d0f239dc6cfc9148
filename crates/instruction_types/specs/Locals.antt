-- What becomes of the local before one that is stored into.
use Rattle.std.specs.Prelude.{ℕ, zero, suc, List, Option, Some, slice_get, slice_set}
use Rattle.type_rules.specs.declared.types.VerificationType.{VerificationType}
use Rattle.type_rules.specs.declared.types.VerificationType.TheVariants.{Top, Long}

-- the locals, without the Long that the one with this number is
abbrev pub without_long : List VerificationType → ℕ → Option VerificationType → List VerificationType
without_long locals number (Some Long) = slice_set locals number Top
without_long locals number other = locals

-- without the Long that stands right before that place
abbrev pub before_cut : ℕ → List VerificationType → List VerificationType
before_cut zero locals = locals
before_cut (suc before) locals = without_long locals before (slice_get locals before)
