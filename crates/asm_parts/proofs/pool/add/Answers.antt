-- The entry is there, or is added behind all.
use Rattle.std.proofs.Common.{◌≡◌, ◌+◌, ◌∷◌, ◌++◌, [], true, false, length, sym, ◌∙◌, ap, get_or, arith}
use Rattle.std.proofs.lemmas.List.{map-append}
use Rattle.assembler_model.specs.AssemblerPool.{index_in}
use Rattle.asm_parts.specs.Entries.{behind, entries_of, entry_of, starts}
use Rattle.asm_parts.proofs.PoolLemmas.{added, behind-more, index_behind, index_found, keys_grow, keys_stay, starts-more, texts_more}
use Rattle.asm_parts.proofs.pool.add.Goals as goal

pub returns-then-not-is_new-clause-pool : goal.returns-then-not-is_new-clause-pool
returns-then-not-is_new-clause-pool c =
    let keys = c.args.pool.now.entries.keys in
    let e = c.in_ok-place.ensures in
    let same = keys_stay keys c.insert_full.new.self.keys c.args.entry c.in_ok-place.is_new e.keys e.added c.if-not-is_new.true in
    record {
      texts = rw same c.requires.texts;
      indices = rw same (c.reserve.ensures.items ∙ c.requires.indices);
      next = rw same c.requires.next;
    }

pub returns-then-not-is_new-clause-added : goal.returns-then-not-is_new-clause-added
returns-then-not-is_new-clause-added c =
    ap entries_of c.in_ok-place.ensures.keys ∙ added c.args.entry c.args.pool.now.entries.keys c.known_texts.ensures c.requires.texts

pub returns-then-not-is_new-clause-index : goal.returns-then-not-is_new-clause-index
returns-then-not-is_new-clause-index c =
    let keys = c.args.pool.now.entries.keys in
    let e = c.in_ok-place.ensures in
    let same = keys_stay keys c.insert_full.new.self.keys c.args.entry c.in_ok-place.is_new e.keys e.added c.if-not-is_new.true in
    c.index_at.ensures ∙ ap (λ indices. get_or indices c.in_ok-place.place 0) (c.reserve.ensures.items ∙ c.requires.indices)
    ∙ index_found keys c.args.entry c.in_ok-place.place c.known_texts.ensures c.requires.texts e.index (omega (arith, e.within, ap length same))
    ∙ ap (λ keys. index_in (entries_of keys) (entry_of c.args.entry)) (sym same)

pub returns-clause-added : goal.returns-clause-added
returns-clause-added c =
    ap entries_of c.in_ok-place.ensures.keys ∙ added c.args.entry c.args.pool.now.entries.keys c.known_texts.ensures c.requires.texts

pub returns-clause-index : goal.returns-clause-index
returns-clause-index c =
    let keys = c.args.pool.now.entries.keys in
    let e = c.in_ok-place.ensures in
    let more = keys_grow keys c.insert_full.new.self.keys c.args.entry c.in_ok-place.is_new e.keys e.added c.if-not-is_new.false in
    c.requires.next ∙ index_behind keys c.args.entry c.known_texts.ensures c.requires.texts more.1
    ∙ ap (λ keys. index_in (entries_of keys) (entry_of c.args.entry)) (sym more.0)

pub returns-clause-pool : goal.returns-clause-pool
returns-clause-pool c =
    let keys = c.args.pool.now.entries.keys in
    let e = c.in_ok-place.ensures in
    let more = keys_grow keys c.insert_full.new.self.keys c.args.entry c.in_ok-place.is_new e.keys e.added c.if-not-is_new.false in
    let entries : entries_of c.insert_full.new.self.keys ≡ entries_of keys ++ entry_of c.args.entry ∷ [] =
    ap entries_of more.0 ∙ map-append entry_of keys (c.args.entry ∷ []) in
    record {
      texts = rw more.0 (texts_more keys c.args.entry c.known_texts.ensures c.requires.texts);
      indices = rw entries (rw starts-more (c.add.ensures.items
          ∙ ap (λ indices. indices ++ c.args.pool.now.next ∷ []) (c.reserve.ensures.items ∙ c.requires.indices)
          ∙ ap (λ next. starts 1 (entries_of keys) ++ next ∷ []) c.requires.next));
      next = rw entries (rw behind-more (c.in-Some.ensures.1 ∙ ap (λ next. next + c.indices_of.result) c.requires.next
          ∙ ap (λ more. behind 1 (entries_of keys) + more) c.indices_of.ensures));
    }
