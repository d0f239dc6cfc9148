use Rattle.std.proofs.Common.{ℤ, ◌+◌, ◌%◌, ◌^◌, ◌∙◌, ap}
use Rattle.std.specs.Int.{w32, cast_unsigned}
use Rattle.std.proofs.lemmas.Int.{to_z-of_z}
use Rattle.code_reader.proofs.Offsets.{place_is}
use Rattle.code_reader.proofs.operands.place_at.Goals as goal

pub returns : goal.returns
returns c =
    c.wrapping_add_signed.ensures
    ∙ ap (λ (z : ℤ). (c.args.pc + cast_unsigned w32 z) % 2 ^ 32)
    (to_z-of_z w32 c.args.offset c.ranges.offset)
    ∙ place_is c.args.pc c.args.offset c.requires c.ranges.offset
