-- The name, the descriptor and the constant value are near.
use Rattle.std.proofs.Common.{◌∷◌}
use Rattle.jv_model.specs.Utf16.{units_of_utf8}
use Rattle.assembler_model.specs.PoolEntries.{text_entry}
use Rattle.assembler_model.specs.PoolNeeds.{value_entries}
use Rattle.asm_lines.specs.Terms.{value_of}
use Rattle.asm_parts.specs.Pools.{entries_in}
use Rattle.class_asm.proofs.NearLemmas.{first_near}
use Rattle.class_asm.proofs.members.field.Goals as goal

pub value_attributes-requires-clause-near : goal.value_attributes-requires-clause-near
value_attributes-requires-clause-near c =
    let entries = entries_in c.args.pool.now in
    let descriptor = text_entry (units_of_utf8 c.args.descriptor.now) in
    let values = value_entries (value_of c.args.value) in
    let first = first_near entries (text_entry (units_of_utf8 c.args.name.now)) (descriptor ∷ values) c.requires.near in
    (first_near entries descriptor values first.1).1

pub near_index-requires-clause-near : goal.near_index-requires-clause-near
near_index-requires-clause-near c =
    let entries = entries_in c.args.pool.now in
    let descriptor = text_entry (units_of_utf8 c.args.descriptor.now) in
    let values = value_entries (value_of c.args.value) in
    (first_near entries (text_entry (units_of_utf8 c.args.name.now)) (descriptor ∷ values) c.requires.near).0

pub near_index-requires-2-clause-near : goal.near_index-requires-2-clause-near
near_index-requires-2-clause-near c =
    let entries = entries_in c.args.pool.now in
    let descriptor = text_entry (units_of_utf8 c.args.descriptor.now) in
    let values = value_entries (value_of c.args.value) in
    let first = first_near entries (text_entry (units_of_utf8 c.args.name.now)) (descriptor ∷ values) c.requires.near in
    (first_near entries descriptor values first.1).0
