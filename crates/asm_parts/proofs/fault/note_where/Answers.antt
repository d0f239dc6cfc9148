-- The fault is noted, or there is none.
use Rattle.std.proofs.Common.{sym, ◌∙◌}
use Rattle.jv_types.specs.Refusal.{line_kind_of}
use Rattle.asm_parts.specs.Faults.{told_by}
use Rattle.asm_parts.proofs.FaultLemmas.{where-true, where-false}
use Rattle.asm_parts.proofs.fault.note_where.Goals as goal

pub returns-then-test : goal.returns-then-test
returns-then-test c = c.note.ensures ∙ sym (where-true (told_by c.args.first.now) c.args.line (line_kind_of c.args.kind) c.args.test c.if-test.true)

pub returns-else-test : goal.returns-else-test
returns-else-test c = sym (where-false (told_by c.args.first.now) c.args.line (line_kind_of c.args.kind) c.args.test c.if-test.false)
