-- The name and the descriptor are near.
use Rattle.std.proofs.Common.{[], ◌∷◌}
use Rattle.jv_model.specs.Utf16.{units_of_utf8}
use Rattle.assembler_model.specs.PoolEntries.{text_entry}
use Rattle.asm_parts.specs.Pools.{entries_in}
use Rattle.class_asm.proofs.NearLemmas.{first_near}
use Rattle.class_asm.proofs.members.method.Goals as goal

pub near_index-requires-clause-near : goal.near_index-requires-clause-near
near_index-requires-clause-near c =
    let descriptor = text_entry (units_of_utf8 c.args.descriptor.now) in
    (first_near (entries_in c.args.pool.now) (text_entry (units_of_utf8 c.args.name.now)) (descriptor ∷ []) c.requires.near).0

pub near_index-requires-2-clause-near : goal.near_index-requires-2-clause-near
near_index-requires-2-clause-near c =
    let entries = entries_in c.args.pool.now in
    let descriptor = text_entry (units_of_utf8 c.args.descriptor.now) in
    let first = first_near entries (text_entry (units_of_utf8 c.args.name.now)) (descriptor ∷ []) c.requires.near in
    (first_near entries descriptor [] first.1).0
