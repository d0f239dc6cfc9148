use Rattle.std.proofs.Common.{◌-◌, arith}
use Rattle.std.proofs.lemmas.Int.{to_z-of_z}
use Rattle.jv_values.proofs.WordLemmas.{long_some, long_is, operands_in-two}
use Rattle.jv_values.proofs.operands.long_on_top.Goals as goal

pub overflow_sub-depth : goal.overflow_sub-depth
overflow_sub-depth c = long_some c.args.words.now c.args.depth c.requires.inside c.requires.kind

pub bounds : goal.bounds
bounds c = omega (arith, long_some c.args.words.now c.args.depth c.requires.inside c.requires.kind)

pub bounds-words-depth : goal.bounds-words-depth
bounds-words-depth c = omega (arith, long_some c.args.words.now c.args.depth c.requires.inside c.requires.kind)

pub unreachable-requires : goal.unreachable-requires
unreachable-requires c =
    let some = long_some c.args.words.now c.args.depth c.requires.inside c.requires.kind in
    let i = long_is c.args.words.now c.args.depth (c.args.depth - 2) (omega arith) c.requires.inside c.requires.kind in
    c.in_default.not-Long i.1.0 i.1.1

pub returns-clause-some : goal.returns-clause-some
returns-clause-some c = long_some c.args.words.now c.args.depth c.requires.inside c.requires.kind

pub returns-clause-value : goal.returns-clause-value
returns-clause-value c =
    let some = long_some c.args.words.now c.args.depth c.requires.inside c.requires.kind in
    let e = operands_in-two c.args.words.now c.args.depth (c.args.depth - 2) (omega arith) c.requires.inside in
    let i = long_is c.args.words.now c.args.depth (c.args.depth - 2) (omega arith) c.requires.inside c.requires.kind in
    grind (arith, to_z-of_z, e, i.0, c.in-Long.is)
