-- Each entry of the pool is near.
use Rattle.std.proofs.Common.{◌≡◌, ◌<◌, [], true, length, get_or, ap, sym, ◌∙◌, arith, refl}
use Rattle.std.specs.List.{list_all}
use Rattle.asm_parts.specs.Entries.{entries_of}
use Rattle.asm_parts.specs.Pools.{entries_in}
use Rattle.asm_parts.specs.declared.entry.Entry.TheVariants.{Text}
use Rattle.asm_pool.specs.Near.{is_near}
use Rattle.asm_pool.proofs.NearLemmas.{get_at, near_at}
use Rattle.asm_pool.proofs.constants.constants.Goals as goal

pub push_constant-requires-clause-near : goal.push_constant-requires-clause-near
push_constant-requires-clause-near c =
    let keys = c.as_slice-entry-items.result.now in
    let none = Text (record { ref_ptr = (0, 0); now = [] }) in
    let near : list_all (is_near (entries_in c.args.pool.now)) (entries_of keys) ≡ true =
    ap (λ keys. list_all (is_near (entries_in c.args.pool.now)) (entries_of keys)) c.as_slice-entry-items.ensures.keys
    ∙ c.requires.near in
    near_at (entries_in c.args.pool.now) keys c.loop-entry.entry-index (get_or keys c.loop-entry.entry-index none)
    c.loop-entry-test.true (get_at keys c.loop-entry.entry-index none c.loop-entry-test.true) near
