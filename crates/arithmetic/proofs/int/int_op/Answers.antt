use Rattle.std.proofs.Common.{arith}
use Rattle.std.specs.Int.{w32}
use Rattle.std.proofs.lemmas.Int.{to_z-of_z}
use Rattle.arithmetic.proofs.Bits.{quotient_wraps}
use Rattle.arithmetic.proofs.int.int_op.Goals as goal

pub returns-in-Divide : goal.returns-in-Divide
returns-in-Divide c =
    let e = quotient_wraps w32 c.args.a c.args.b c.ranges.a (omega arith) in
    rw c.in-Divide.is (grind (arith, to_z-of_z, e, c.wrapping_div.ensures))
