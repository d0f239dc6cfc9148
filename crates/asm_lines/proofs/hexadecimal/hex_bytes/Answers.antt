-- Pair by pair.
use Rattle.std.proofs.Common.{◌≡◌, sym, ◌∙◌}
use Rattle.asm_lines.proofs.HexadecimalLemmas.{hex_bytes-next, hex_bytes-faulty, hex_bytes-half, hex_bytes-none}
use Rattle.asm_lines.proofs.hexadecimal.hex_bytes.Goals as goal

pub returns-in_default-hex_pair : goal.returns-in_default-hex_pair
returns-in_default-hex_pair c =
    sym (hex_bytes-faulty c.loop-left.bytes.items c.loop-left.left.now c.in-len2-up.len_at_least c.in_default-hex_pair.ensures)
    ∙ c.loop-left.invariant

pub loop-left-preserved : goal.loop-left-preserved
loop-left-preserved c =
    rw c.in_ok-push.ensures.ok (sym (hex_bytes-next c.loop-left.bytes.items c.loop-left.left.now c.in-Some.byte c.in-len2-up.len_at_least c.in-Some.ensures)
    ∙ c.loop-left.invariant)

pub returns-then-not-is_empty : goal.returns-then-not-is_empty
returns-then-not-is_empty c =
    sym (hex_bytes-half c.loop-left.bytes.items c.loop-left.left.now c.in_default.len_below c.if-not-is_empty.ensures) ∙ c.loop-left.invariant

pub returns : goal.returns
returns c = sym (hex_bytes-none c.loop-left.bytes.items c.loop-left.left.now c.if-not-is_empty.ensures) ∙ c.loop-left.invariant
