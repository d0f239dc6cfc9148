-- The first line of a method's block.
use Rattle.std.proofs.Common.{◌≡◌, ℕ, ◌<◌, ◌≤◌, List, [], ◌∷◌, Ok, true, false, length, get_or, refl, ap, sym, ◌∙◌, arith}
use Rattle.std.specs.Prelude.{codes}
use Rattle.std.specs.List.{list_all}
use Rattle.assembler_model.specs.AssemblerTerms.{stack_is}
use Rattle.assembler_model.specs.AssemblerOrder as model
use Rattle.assembler_model.specs.AssembledClass.{begin_faults, code_attribute, code_attributes, code_of}
use Rattle.assembler_model.specs.CodeBytes.{code_bytes}
use Rattle.assembler_model.specs.PoolEntries.{Entry, text_entry}
use Rattle.assembler_model.specs.PoolNeeds.{line_entries, needs_by}
use Rattle.assembler_model.specs.AssemblerPool.{index_in, is_too_far}
use Rattle.jv_model.specs.ClassData.{Attr}
use Rattle.asm_lines.specs.NumberedLines.{numbered_of, said_of}
use Rattle.asm_lines.specs.declared.numbered_line.NumberedLine.{NumberedLine}
use Rattle.asm_pool.specs.Near.{is_near, needs_near}
use Rattle.asm_pool.specs.Needs.{numbered_lines}
use Rattle.class_asm.proofs.NearLemmas.{block_near, first_near}

pub begin_none : (lines : List NumberedLine) → length lines < 1 → begin_faults (numbered_lines lines) ≡ []
begin_none [] none = refl
begin_none (line ∷ lines) none = absurd (omega arith)

-- the name of its code is near
pub code_near : (entries : List Entry) (lines : List NumberedLine) (first : NumberedLine) (stack locals : ℕ) → 1 ≤ length lines
    → first ≡ get_or lines 0 first → said_of first ≡ Ok (stack_is stack locals)
    → needs_near entries (needs_by line_entries (numbered_lines lines)) ≡ true
    → is_too_far entries (text_entry (codes "Code")) ≡ false
code_near entries [] first stack locals some is said near = absurd (omega arith)
code_near entries (line ∷ lines) first stack locals some is said near =
    let here : said_of line ≡ Ok (stack_is stack locals) = ap said_of (sym is) ∙ said in
    let all = block_near entries (numbered_of line) (numbered_lines lines) near in
    (first_near entries (text_entry (codes "Code")) []
    (ap (λ said. list_all (is_near entries) (line_entries said)) (sym here) ∙ all)).0

-- the attribute that it asks for
pub code_is : (entries : List Entry) (part : model.Part) (lines : List NumberedLine) (first : NumberedLine) (stack locals name : ℕ)
    (bytes : List ℕ) → 1 ≤ length lines → first ≡ get_or lines 0 first → said_of first ≡ Ok (stack_is stack locals)
    → name ≡ index_in entries (text_entry (codes "Code")) → bytes ≡ code_bytes entries stack locals (code_of entries part)
    → (record { name = name; bytes = bytes } ∷ []) ≡ code_attributes entries part (numbered_lines lines)
code_is entries part [] first stack locals name bytes some is said is-name is-bytes = absurd (omega arith)
code_is entries part (line ∷ lines) first stack locals name bytes some is said is-name is-bytes =
    let here : said_of line ≡ Ok (stack_is stack locals) = ap said_of (sym is) ∙ said in
    let attribute : Attr = record { name = name; bytes = bytes } in
    let same : attribute ≡ record { name = index_in entries (text_entry (codes "Code")); bytes = code_bytes entries stack locals (code_of entries part) } =
    λ i. record { name = is-name i; bytes = is-bytes i } in
    ap (λ (attribute : Attr). attribute ∷ []) same ∙ ap (code_attribute entries part) (sym here)
