use Rattle.std.proofs.Common.{arith}
use Rattle.std.specs.Int.{w16, w32}
use Rattle.std.proofs.lemmas.Int.{to_z-of_z}
use Rattle.arithmetic.proofs.Bits.{low_bits, abs_fits}
use Rattle.arithmetic.proofs.conversion.to_short.Goals as goal

pub returns : goal.returns
returns c =
    let near = abs_fits w32 c.args.n c.ranges.n (omega arith) in
    let e = low_bits w16 w32 c.args.n 65536 (omega arith) (omega arith) in
    grind (arith, to_z-of_z, e)
