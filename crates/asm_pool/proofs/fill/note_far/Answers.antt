-- Need by need; and what is noted tells whether all entries are near.
use Rattle.std.proofs.Common.{◌≡◌, [], sym, ◌∙◌}
use Rattle.asm_parts.specs.Faults.{told_by}
use Rattle.asm_parts.specs.Pools.{entries_in}
use Rattle.asm_parts.specs.declared.entry.Entry.TheVariants.{Text}
use Rattle.asm_pool.specs.Needs.{needs_of}
use Rattle.asm_pool.specs.declared.need.Need.{Need}
use Rattle.asm_pool.proofs.FillLemmas.{far_next, far_end}
use Rattle.asm_pool.proofs.NearLemmas.{needed_near, told_near}
use Rattle.asm_pool.proofs.fill.note_far.Goals as goal

abbrev none : Need
none = record { line = 0; entry = Text (record { ref_ptr = (0, 0); now = [] }) }

pub loop-item-preserved : goal.loop-item-preserved
loop-item-preserved c =
    rw (c.note_where.ensures, c.is_too_far-is_far.ensures)
    (sym (far_next (told_by c.loop-item.first) (entries_in c.args.pool.now) c.args.needs.now c.loop-item.item-index none
    c.loop-item-test.true) ∙ c.loop-item.invariant)

pub returns-clause-told : goal.returns-clause-told
returns-clause-told c =
    sym (far_end (told_by c.loop-item.first) (entries_in c.args.pool.now) c.args.needs.now c.loop-item.item-index
    c.loop-item-test.false) ∙ c.loop-item.invariant

pub returns-clause-near : goal.returns-clause-near
returns-clause-near c quiet same =
    told_near (told_by c.loop-item.first) (told_by c.args.first.now) (entries_in c.args.pool.now) (needs_of c.args.needs.now)
    (returns-clause-told c) quiet same

pub returns-clause-needed : goal.returns-clause-needed
returns-clause-needed c quiet =
    needed_near (told_by c.loop-item.first) (told_by c.args.first.now) (entries_in c.args.pool.now) (needs_of c.args.needs.now)
    (returns-clause-told c) quiet
