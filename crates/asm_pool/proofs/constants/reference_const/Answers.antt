-- The parts are near where the reference is.
use Rattle.asm_lines.specs.Terms.{kind_of, reference_of}
use Rattle.asm_parts.specs.Pools.{entries_in}
use Rattle.asm_pool.proofs.NearLemmas.{member_parts}
use Rattle.asm_pool.proofs.constants.reference_const.Goals as goal

pub near_index-class-requires-clause-near : goal.near_index-class-requires-clause-near
near_index-class-requires-clause-near c =
    (member_parts (entries_in c.args.pool.now) (kind_of c.args.kind) (reference_of c.args.reference) c.requires.near).0

pub near_index-pair-requires-clause-near : goal.near_index-pair-requires-clause-near
near_index-pair-requires-clause-near c =
    (member_parts (entries_in c.args.pool.now) (kind_of c.args.kind) (reference_of c.args.reference) c.requires.near).1
