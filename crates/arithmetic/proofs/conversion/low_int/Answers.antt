use Rattle.std.proofs.Common.{arith}
use Rattle.std.specs.Int.{w32, w64}
use Rattle.std.proofs.lemmas.Int.{to_z-of_z}
use Rattle.arithmetic.proofs.Bits.{low_bits, abs_fits}
use Rattle.arithmetic.proofs.conversion.low_int.Goals as goal

pub returns : goal.returns
returns c =
    let near = abs_fits w64 c.args.n c.ranges.n (omega arith) in
    let e = low_bits w32 w64 c.args.n 4294967296 (omega arith) (omega arith) in
    grind (arith, to_z-of_z, e)
