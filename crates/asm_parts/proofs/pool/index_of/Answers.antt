-- The index at the place where the entry is found, or the next one.
use Rattle.std.proofs.Common.{sym, ◌∙◌, ap, get_or}
use Rattle.asm_parts.proofs.PoolLemmas.{index_some, index_none}
use Rattle.asm_parts.proofs.pool.index_of.Goals as goal

pub returns-in-Some : goal.returns-in-Some
returns-in-Some c =
    c.index_at.ensures ∙ ap (λ indices. get_or indices c.in-Some.place 0) c.requires.indices
    ∙ index_some c.args.pool.now.entries.keys c.args.entry c.in-Some.place c.known_texts.ensures c.requires.texts c.in-Some.ensures.index

pub returns-in-None : goal.returns-in-None
returns-in-None c =
    c.requires.next ∙ index_none c.args.pool.now.entries.keys c.args.entry c.known_texts.ensures c.requires.texts c.in-None.ensures.index
