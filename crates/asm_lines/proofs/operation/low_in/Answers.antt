-- So many keys leave no room for a lowest one.
use Rattle.std.proofs.Common.{◌≡◌, ◌≤◌, ◌^◌, sym, arith, ◌<ℤ◌}
use Rattle.std.proofs.lemmas.Int.{ints}
use Rattle.text_model.specs.Numerals.{most_int, least_int}
use Rattle.std.specs.Prelude.{pos, ◌-ℤ◌}
use Rattle.asm_lines.proofs.RangeLemmas.{integer_in-empty}
use Rattle.asm_lines.proofs.operation.low_in.Goals as goal

pub returns-in_default : goal.returns-in_default
returns-in_default c =
    let many : 4294967296 ≤ c.args.more = omega (arith, c.in_default.ensures) in
    sym (integer_in-empty least_int (most_int -ℤ pos c.args.more) c.args.word.now (omega (arith, ints)))
