-- The attribute that the first line of the block asks for.
use Rattle.std.proofs.Common.{rules, ◌≡◌, Ok, length, ap, ◌∙◌, arith, ◌≤◌, get_or}
use Rattle.assembler_model.specs.AssemblerTerms.{stack_is}
use Rattle.assembler_model.specs.AssembledClass.{code_of}
use Rattle.assembler_model.specs.AssemblerPool.{index_in, is_too_far}
use Rattle.assembler_model.specs.CodeBytes.{code_bytes}
use Rattle.assembler_model.specs.CodeLines.{at_start, code_lines}
use Rattle.assembler_model.specs.PoolEntries.{text_entry}
use Rattle.asm_lines.specs.NumberedLines.{said_of}
use Rattle.asm_parts.specs.Parts.{part_of}
use Rattle.asm_parts.specs.Pools.{entries_in}
use Rattle.asm_pool.proofs.NeedLemmas.{code_name}
use Rattle.class_asm.proofs.BlockLines.{code_is, code_near}
use Rattle.class_asm.proofs.OkLemmas.{if_ok_weaker}
use Rattle.class_asm.proofs.members.code_attributes.Goals as goal

pub near_index-name-requires-clause-near : goal.near_index-name-requires-clause-near
near_index-name-requires-clause-near c =
    let entries = entries_in c.args.pool.now in
    let lines = c.args.part.now.block.items in
    let some : 1 ≤ length lines = omega (arith, ap length c.as_slice.ensures, c.in-len1-up.len_at_least) in
    let first : c.first-item.result ≡ get_or lines 0 c.first-item.result =
    c.first-item.is ∙ ap (λ lines. get_or lines 0 c.first-item.result) c.as_slice.ensures in
    let said : said_of c.first-item.result ≡ Ok (stack_is c.in-Ok-Stack.stack c.in-Ok-Stack.locals) = search rules in
    ap (λ name. is_too_far entries (text_entry name)) code_name
    ∙ code_near entries lines c.first-item.result c.in-Ok-Stack.stack c.in-Ok-Stack.locals some first said c.requires.near

pub returns : goal.returns
returns c =
    let entries = entries_in c.args.pool.now in
    let part = part_of c.args.part.now in
    let lines = c.args.part.now.block.items in
    let stack = c.in-Ok-Stack.stack in
    let locals = c.in-Ok-Stack.locals in
    let some : 1 ≤ length lines = omega (arith, ap length c.as_slice.ensures, c.in-len1-up.len_at_least) in
    let first : c.first-item.result ≡ get_or lines 0 c.first-item.result =
    c.first-item.is ∙ ap (λ lines. get_or lines 0 c.first-item.result) c.as_slice.ensures in
    let said : said_of c.first-item.result ≡ Ok (stack_is stack locals) = search rules in
    let name : c.near_index-name.result ≡ index_in entries (text_entry _) =
    c.near_index-name.ensures ∙ ap (λ name. index_in entries (text_entry name)) code_name in
    let bytes : c.in_ok-bytes.bytes.items ≡ code_bytes entries stack locals (code_of entries part) =
    c.in_ok-bytes.ensures ∙ ap (code_bytes entries stack locals)
    (c.in_ok-code.ensures.lines ∙ ap (code_lines entries at_start) c.behind_first.ensures) in
    if_ok_weaker c.one_attribute.result
    (λ attributes is. is ∙ code_is entries part lines c.first-item.result stack locals c.near_index-name.result c.in_ok-bytes.bytes.items
    some first said name bytes)
    c.one_attribute.ensures
