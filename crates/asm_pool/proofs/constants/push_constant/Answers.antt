-- The parts are near where the entry is.
use Rattle.std.proofs.Common.{◌≡◌, false}
use Rattle.assembler_model.specs.AssemblerPool.{is_too_far}
use Rattle.assembler_model.specs.PoolEntries.{class_entry, name_and_type_entry, string_entry}
use Rattle.asm_lines.specs.Terms.{name_of}
use Rattle.asm_parts.specs.Entries.{entry_of}
use Rattle.asm_parts.specs.Pools.{entries_in}
use Rattle.asm_pool.proofs.NearLemmas.{class_text, pair_texts, string_text}
use Rattle.asm_pool.proofs.constants.push_constant.Goals as goal

pub near_index-requires-clause-near : goal.near_index-requires-clause-near
near_index-requires-clause-near c =
    let near = rw c.in-Class.is at c.requires.near in
    class_text (entries_in c.args.pool.now) (name_of c.in-Class.name) near

pub near_index-requires-in-String-clause-near : goal.near_index-requires-in-String-clause-near
near_index-requires-in-String-clause-near c =
    let near = rw c.in-String.is at c.requires.near in
    string_text (entries_in c.args.pool.now) (name_of c.in-String.text) near

pub near_index-name-requires-clause-near : goal.near_index-name-requires-clause-near
near_index-name-requires-clause-near c =
    let near = rw c.in-NameAndType.is at c.requires.near in
    (pair_texts (entries_in c.args.pool.now) (name_of c.in-NameAndType.name) (name_of c.in-NameAndType.descriptor) near).0

pub near_index-descriptor-requires-clause-near : goal.near_index-descriptor-requires-clause-near
near_index-descriptor-requires-clause-near c =
    let near = rw c.in-NameAndType.is at c.requires.near in
    (pair_texts (entries_in c.args.pool.now) (name_of c.in-NameAndType.name) (name_of c.in-NameAndType.descriptor) near).1
