-- The attribute's name and the constant are near.
use Rattle.std.proofs.Common.{rules, ◌≡◌, [], ◌∷◌, ap, sym, ◌∙◌}
use Rattle.std.specs.Prelude.{codes}
use Rattle.assembler_model.specs.AssemblerPool.{index_in, is_too_far}
use Rattle.assembler_model.specs.PoolEntries.{text_entry}
use Rattle.assembler_model.specs.PoolNeeds.{constant_entry}
use Rattle.jv_model.specs.ClassBytes.{u2}
use Rattle.assembler_model.specs.AssembledClass.{value_attributes}
use Rattle.asm_lines.specs.Terms.{constant_of, value_of}
use Rattle.asm_parts.specs.Pools.{entries_in}
use Rattle.asm_pool.proofs.NeedLemmas.{constant_value}
use Rattle.class_asm.proofs.NearLemmas.{first_near}
use Rattle.class_asm.proofs.OkLemmas.{if_ok_weaker}
use Rattle.class_asm.proofs.SaidLemmas.{value_is}
use Rattle.class_asm.proofs.members.value_attributes.Goals as goal

pub near_index-name-requires-clause-near : goal.near_index-name-requires-clause-near
near_index-name-requires-clause-near c =
    let entries = entries_in c.args.pool.now in
    let near = rw c.in-Some.is at c.requires.near in
    let here = first_near entries (text_entry (codes "ConstantValue")) (constant_entry (constant_of c.in-Some.constant) ∷ []) near in
    ap (λ name. is_too_far entries (text_entry name)) constant_value ∙ here.0

pub near_index-index-requires-clause-near : goal.near_index-index-requires-clause-near
near_index-index-requires-clause-near c =
    let entries = entries_in c.args.pool.now in
    let near = rw c.in-Some.is at c.requires.near in
    let here = first_near entries (text_entry (codes "ConstantValue")) (constant_entry (constant_of c.in-Some.constant) ∷ []) near in
    ap (is_too_far entries) c.constant_entry.ensures
    ∙ (first_near entries (constant_entry (constant_of c.in-Some.constant)) [] here.1).0

pub returns : goal.returns
returns c =
    let entries = entries_in c.args.pool.now in
    let constant = constant_of c.in-Some.constant in
    let name : c.near_index-name.result ≡ index_in entries (text_entry (codes "ConstantValue")) =
    c.near_index-name.ensures ∙ ap (λ name. index_in entries (text_entry name)) constant_value in
    let index : c.near_index-index.result ≡ index_in entries (constant_entry constant) =
    c.near_index-index.ensures ∙ ap (index_in entries) c.constant_entry.ensures in
    let bytes : c.in_ok-bytes.bytes.items ≡ u2 c.near_index-index.result = search rules in
    if_ok_weaker c.one_attribute.result
    (λ attributes is. is
    ∙ value_is entries constant c.near_index-name.result c.near_index-index.result c.in_ok-bytes.bytes.items name index bytes
    ∙ ap (λ value. value_attributes entries (value_of value)) (sym c.in-Some.is))
    c.one_attribute.ensures
