-- The number is in the range, or in a wider one alone, or in none.
use Rattle.std.proofs.Common.{◌≡◌, ◌≤ℤ◌, ℤ, true, false, sym, ◌∙◌, ap, Ok, rules, arith}
use Rattle.std.specs.Prelude.{◌&&◌, int_le, FitsSigned}
use Rattle.std.specs.Int.{w128}
use Rattle.std.proofs.lemmas.Int.{ints}
use Rattle.asm_lines.proofs.RangeLemmas.{between, narrowed, within_is, integer_in-some, integer_in-beside, integer_in-none}
use Rattle.asm_lines.proofs.numeral.integer_in.Goals as goal

pub returns-in_default-clause-value : goal.returns-in_default-clause-value
returns-in_default-clause-value c =
    sym (integer_in-none c.args.least c.args.most c.args.word.now (omega (arith, ints)) (omega (arith, ints))
    (rw c.as_bytes.ensures.value at c.in_default.ensures))

pub returns-then-not-is_between-clause-value : goal.returns-then-not-is_between-clause-value
returns-then-not-is_between-clause-value c =
    let fits : FitsSigned w128 c.in-Some.value = search rules in
    let beside = within_is c.args.least c.args.most c.in-Some.value false c.ranges.least c.ranges.most fits c.if-not-is_between.ensures in
    sym (integer_in-beside c.args.least c.args.most c.in-Some.value c.args.word.now
    (rw c.as_bytes.ensures.value at c.in-Some.ensures) beside)

pub returns-clause-value : goal.returns-clause-value
returns-clause-value c =
    let fits : FitsSigned w128 c.in-Some.value = search rules in
    let within = within_is c.args.least c.args.most c.in-Some.value true c.ranges.least c.ranges.most fits c.if-not-is_between.ensures in
    ap Ok (narrowed c.args.least c.args.most c.in-Some.value c.ranges.least c.ranges.most fits within)
    ∙ sym (integer_in-some c.args.least c.args.most c.in-Some.value c.args.word.now
    (rw c.as_bytes.ensures.value at c.in-Some.ensures) within)

pub returns-clause-least : goal.returns-clause-least
returns-clause-least c =
    let fits : FitsSigned w128 c.in-Some.value = search rules in
    let within = within_is c.args.least c.args.most c.in-Some.value true c.ranges.least c.ranges.most fits c.if-not-is_between.ensures in
    rw (narrowed c.args.least c.args.most c.in-Some.value c.ranges.least c.ranges.most fits within)
    (between c.args.least c.args.most c.in-Some.value within).0

pub returns-clause-most : goal.returns-clause-most
returns-clause-most c =
    let fits : FitsSigned w128 c.in-Some.value = search rules in
    let within = within_is c.args.least c.args.most c.in-Some.value true c.ranges.least c.ranges.most fits c.if-not-is_between.ensures in
    rw (narrowed c.args.least c.args.most c.in-Some.value c.ranges.least c.ranges.most fits within)
    (between c.args.least c.args.most c.in-Some.value within).1
