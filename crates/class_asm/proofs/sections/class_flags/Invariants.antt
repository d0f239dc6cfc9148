use Rattle.std.proofs.Common.{◌≡◌, drop}
use Rattle.std.specs.Prelude.{slice_get, unwrap_or}
use Rattle.assembler_model.specs.AssembledClass.{all_of, default_flags, flags_of}
use Rattle.asm_parts.specs.Parts.{parts_of}
use Rattle.class_asm.proofs.sections.class_flags.Given as goal

-- the parts that are left tell it
abbrev pub invariant-loop-part : goal.invariant-loop-part
invariant-loop-part l =
    unwrap_or (slice_get (all_of (λ part. flags_of) (parts_of (drop l.part-index l.parts))) 0) default_flags
    ≡ unwrap_or (slice_get (all_of (λ part. flags_of) (parts_of l.parts)) 0) default_flags
