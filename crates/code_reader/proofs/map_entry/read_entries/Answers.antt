use Rattle.std.proofs.Common.{◌≡◌, suc, ◌+◌, ◌-◌, ◌∙◌, sym, ap, arith}
use Rattle.std.proofs.lemmas.List.{map_push}
use Rattle.jv_model.specs.Refusal.{wrong_map_frame}
use Rattle.code_model.specs.StackMapEntries.{entry_at, entries_at}
use Rattle.code_reader.specs.Parts.{entry_of, entries_of, table_in_front}
use Rattle.code_reader.proofs.MapTables.{entry_more, entries_more, entries_end, entries_extra}
use Rattle.code_reader.proofs.map_entry.read_entries.Goals as goal

pub returns-in-Err : goal.returns-in-Err
returns-in-Err c =
    let method = c.args.method in
    let index = c.loop-index.index in
    let input = c.loop-index.input in
    let left : c.args.count - index ≡ suc (c.args.count - (index + 1)) =
    omega (arith, c.from-index-end.ensures, c.loop-index-test.true) in
    rw (← c.loop-index.invariant, left, entries_more method index (c.args.count - (index + 1)) (entries_of c.loop-index.entries.items) input)
    (c.end_of.ensures method (entry_at (wrong_map_frame method index) input)
    (entries_at method (index + 1) (c.args.count - (index + 1))) c.in-Err.ensures)

pub loop-index-preserved : goal.loop-index-preserved
loop-index-preserved c =
    let method = c.args.method in
    let index = c.loop-index.index in
    let input = c.loop-index.input in
    let front = entries_of c.loop-index.entries.items in
    let left : c.args.count - index ≡ suc (c.args.count - (index + 1)) =
    omega (arith, c.from-index-end.ensures, c.loop-index-test.true) in
    rw (c.in_ok-push-in-Ok.ensures.ok, map_push entry_of c.loop-index.entries.items c.in-Ok.entry)
    (sym (entry_more method index (c.args.count - (index + 1)) front input _ _ c.in-Ok.ensures)
    ∙ ap (λ n. table_in_front front (entries_at method index n input)) (sym left)
    ∙ c.loop-index.invariant)

pub returns-then-not-is_empty : goal.returns-then-not-is_empty
returns-then-not-is_empty c =
    let method = c.args.method in
    let index = c.loop-index.index in
    let input = c.loop-index.input in
    let front = entries_of c.loop-index.entries.items in
    let left : c.args.count - index ≡ 0 =
    omega (arith, c.from-index-end.ensures, c.loop-index-test.false) in
    rw (c.at.ensures) (sym c.loop-index.invariant
    ∙ ap (λ n. table_in_front front (entries_at method index n input)) left
    ∙ entries_extra method index front input (sym c.is_empty.ensures ∙ c.if-not-is_empty.true))

pub returns : goal.returns
returns c =
    let method = c.args.method in
    let index = c.loop-index.index in
    let input = c.loop-index.input in
    let front = entries_of c.loop-index.entries.items in
    let left : c.args.count - index ≡ 0 =
    omega (arith, c.from-index-end.ensures, c.loop-index-test.false) in
    sym c.loop-index.invariant
    ∙ ap (λ n. table_in_front front (entries_at method index n input)) left
    ∙ entries_end method index front input (sym c.is_empty.ensures ∙ c.if-not-is_empty.false)
