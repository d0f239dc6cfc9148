-- Three lists of faults, one after another.
use Rattle.std.proofs.Common.{ap, sym, ◌∙◌}
use Rattle.std.specs.Prelude.{flat_map}
use Rattle.std.proofs.lemmas.Result.{on_ok_weaker}
use Rattle.text_model.specs.LineFaults.{first_fault}
use Rattle.assembler_model.specs.AssemblerOrder.{outside_faults}
use Rattle.assembler_model.specs.AssembledClass.{faults_of_part}
use Rattle.assembler_model.specs.AssemblerPool.{pool_faults}
use Rattle.assembler_model.specs.PoolNeeds.{all_needs}
use Rattle.asm_parts.specs.Faults.{either, told_by}
use Rattle.asm_parts.specs.Parts.{parts_of}
use Rattle.asm_parts.specs.Pools.{entries_in}
use Rattle.asm_pool.proofs.NearLemmas.{either_none}
use Rattle.class_asm.proofs.NoteLemmas.{three_lists}
use Rattle.class_asm.proofs.assembler.note_behind.Goals as goal

pub returns-clause-told : goal.returns-clause-told
returns-clause-told c =
    let entries = entries_in c.args.pool.now in
    let parts = parts_of c.args.parts.now in
    let t1 = told_by c.note_order.new.first in
    on_ok_weaker c.note_parts.result
    (λ told this super is. three_lists (told_by c.args.first.now) t1 (told_by c.note_far.new.first) (told_by c.note_parts.new.first)
    (outside_faults 0 parts) (pool_faults entries (all_needs this super parts)) (flat_map (faults_of_part entries c.args.last) parts)
    c.note_order.ensures
    (c.note_far.ensures.told ∙ ap (λ needs. either t1 (first_fault (pool_faults entries needs))) is)
    told)
    c.note_parts.ensures

pub returns-clause-near : goal.returns-clause-near
returns-clause-near c =
    on_ok_weaker c.note_parts.result
    (λ told none. c.note_far.ensures.near (either_none (told_by c.note_far.new.first) _ (sym told ∙ none)).0 c.requires.entries)
    c.note_parts.ensures

pub returns-clause-needed : goal.returns-clause-needed
returns-clause-needed c =
    on_ok_weaker c.note_parts.result
    (λ told none. c.note_far.ensures.needed (either_none (told_by c.note_far.new.first) _ (sym told ∙ none)).0)
    c.note_parts.ensures
