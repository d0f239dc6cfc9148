use Rattle.std.proofs.Common.{refl, arith}
use Rattle.jv_types.proofs.Rows.{has_top, words_left, front_is, front_ends}
use Rattle.jv_types.proofs.frames.without_last.Goals as goal

pub unwrap-requires : goal.unwrap-requires
unwrap-requires c =
    let top = has_top c.args.rows.now.items c.requires.rows c.args.types c.requires.types c.requires.some in
    rw (top.1) refl

pub overflow_sub-result-2 : goal.overflow_sub-result-2
overflow_sub-result-2 c =
    omega (
      arith,
      c.words_of.ensures,
      words_left c.args.rows.now.items c.requires.rows c.args.types c.requires.types c.unwrap.result c.get-row.result.now
          c.unwrap.ensures c.get-row.ensures,
    )

pub returns-clause-types : goal.returns-clause-types
returns-clause-types c =
    rw (c.words_of.ensures)
    (front_ends c.args.rows.now.items c.requires.rows c.args.types c.requires.types c.unwrap.result c.get-row.result.now
    c.unwrap.ensures c.get-row.ensures)

pub returns-clause-front : goal.returns-clause-front
returns-clause-front c =
    front_is c.args.rows.now.items c.requires.rows c.args.types c.requires.types c.unwrap.result c.get-row.result.now
    c.unwrap.ensures c.get-row.ensures
