-- Faults of needs, one by one.
use Rattle.std.proofs.Common.{◌≡◌, ℕ, ◌+◌, ◌<◌, ◌≤◌, List, Option, length, get_or, drop, ap, sym, ◌∙◌}
use Rattle.std.proofs.lemmas.List.{drop_more, drop_all}
use Rattle.jv_model.specs.Refusal.{out_of_range}
use Rattle.text_model.specs.LineFaults.{Fault, at_line, first_fault, where_true}
use Rattle.assembler_model.specs.PoolEntries.{Entry}
use Rattle.assembler_model.specs.AssemblerPool.{is_too_far, pool_faults}
use Rattle.asm_parts.specs.Entries.{entry_of}
use Rattle.asm_parts.specs.Faults.{either}
use Rattle.asm_parts.proofs.FaultLemmas.{either-none, first_fault-none, noted}
use Rattle.asm_pool.specs.Needs.{needs_of}
use Rattle.asm_pool.specs.declared.need.Need.{Need}

pub far_next : (told : Option Fault) (entries : List Entry) (needs : List Need) (i : ℕ) (d : Need) → i < length needs
    → either told (first_fault (pool_faults entries (needs_of (drop i needs))))
    ≡ either (either told (first_fault (at_line (get_or needs i d).line
    (where_true (is_too_far entries (entry_of (get_or needs i d).entry)) out_of_range))))
    (first_fault (pool_faults entries (needs_of (drop (i + 1) needs))))
far_next told entries needs i d within =
    ap (λ left. either told (first_fault (pool_faults entries (needs_of left)))) (drop_more needs i d within)
    ∙ noted told (at_line (get_or needs i d).line (where_true (is_too_far entries (entry_of (get_or needs i d).entry)) out_of_range))
    (pool_faults entries (needs_of (drop (i + 1) needs)))

pub far_end : (told : Option Fault) (entries : List Entry) (needs : List Need) (i : ℕ) → length needs ≤ i
    → either told (first_fault (pool_faults entries (needs_of (drop i needs)))) ≡ told
far_end told entries needs i end =
    ap (λ left. either told (first_fault (pool_faults entries (needs_of left)))) (drop_all i needs end)
    ∙ ap (either told) first_fault-none ∙ either-none told
