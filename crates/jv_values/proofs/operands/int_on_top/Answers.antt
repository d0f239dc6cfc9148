use Rattle.std.proofs.Common.{◌-◌, arith}
use Rattle.std.proofs.lemmas.Int.{to_z-of_z}
use Rattle.jv_values.proofs.WordLemmas.{int_some, int_is, operands_in-top}
use Rattle.jv_values.proofs.operands.int_on_top.Goals as goal

pub overflow_sub-depth : goal.overflow_sub-depth
overflow_sub-depth c = int_some c.args.words.now c.args.depth c.requires.kind

pub bounds : goal.bounds
bounds c = omega (arith, int_some c.args.words.now c.args.depth c.requires.kind)

pub bounds-words-depth : goal.bounds-words-depth
bounds-words-depth c = omega (arith, int_some c.args.words.now c.args.depth c.requires.kind)

pub unreachable-requires : goal.unreachable-requires
unreachable-requires c =
    let some = int_some c.args.words.now c.args.depth c.requires.kind in
    let i = int_is c.args.words.now c.args.depth (c.args.depth - 1) (omega arith) c.requires.inside c.requires.kind in
    c.in_default.not-Int i.0 i.1

pub returns-clause-some : goal.returns-clause-some
returns-clause-some c = int_some c.args.words.now c.args.depth c.requires.kind

pub returns-clause-value : goal.returns-clause-value
returns-clause-value c =
    let some = int_some c.args.words.now c.args.depth c.requires.kind in
    let e = operands_in-top c.args.words.now c.args.depth (c.args.depth - 1) (omega arith) c.requires.inside in
    grind (arith, to_z-of_z, e, c.in-Int.is)
