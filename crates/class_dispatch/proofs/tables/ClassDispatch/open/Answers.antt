use Rattle.std.proofs.Common.{◌≡◌, true, List, length, sym, subst}
use Rattle.jv_types.specs.Sequence.{Sequence}
use Rattle.jv_types.specs.declared.number.ClassNo.{ClassNo}
use Rattle.class_dispatch.specs.Tables.{are_inside, AreTables}
use Rattle.class_dispatch.proofs.Named.{have_signatures, chains_inside}
use Rattle.class_dispatch.proofs.Selecting.{selects}
use Rattle.class_dispatch.proofs.tables.ClassDispatch.open.Goals as goal

pub tables_of-requires-clause-inside : goal.tables_of-requires-clause-inside
tables_of-requires-clause-inside c =
    subst (λ (l : List (Sequence ClassNo)). are_inside (length c.in_ok-rows.rows.items) l ≡ true) (sym c.as_slice.ensures)
    (chains_inside c.args.world.now c.in_ok-rows.rows.items c.in_ok-rows.ensures c.in_ok-chains.chains.items c.in_ok-chains.ensures)

pub tables_of-requires-clause-signatures : goal.tables_of-requires-clause-signatures
tables_of-requires-clause-signatures c =
    have_signatures c.args.world.now c.in_ok-rows.rows.items c.in_ok-rows.ensures c.args.signatures.now c.requires.signatures

pub returns : goal.returns
returns c =
    let rows = c.in_ok-rows.rows.items in
    let tables = c.in_ok-tables.tables.items in
    selects c.args.world.now c.args.signatures.now rows c.in_ok-chains.chains.items tables
    c.requires.once c.requires.signatures c.in_ok-rows.ensures c.in_ok-chains.ensures
    (subst (λ (l : List (Sequence ClassNo)). AreTables c.args.signatures.now rows l tables) c.as_slice.ensures c.in_ok-tables.ensures)
