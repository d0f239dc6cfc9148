use Rattle.std.proofs.Common.{◌≡◌, ◌++◌, take}
use Rattle.assembler_model.specs.PoolNeeds.{needs_by}
use Rattle.asm_pool.specs.Needs.{entries_by, needs_of, numbered_lines}
use Rattle.asm_pool.proofs.needs.push_lines.Given as goal

-- what the lines so far need
abbrev pub invariant-loop-line : goal.invariant-loop-line
invariant-loop-line l = needs_of l.needs.items
    ≡ needs_of l.fn.needs.items ++ needs_by (entries_by l.turn) (numbered_lines (take l.line-index l.lines))
