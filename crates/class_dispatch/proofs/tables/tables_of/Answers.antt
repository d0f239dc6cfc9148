use Rattle.std.proofs.Common.{◌++◌, ◌∷◌, [], Option, map, refl, ap, ◌∙◌, arith}
use Rattle.std.proofs.lemmas.List.{map-append}
use Rattle.jv_types.specs.declared.number.MethodNo.{MethodNo}
use Rattle.selection_table.specs.Selection.{selected_in}
use Rattle.class_names.proofs.Growing.{added_next, added_all}
use Rattle.class_dispatch.specs.Tables.{key_of, chain_in}
use Rattle.class_dispatch.proofs.tables.tables_of.Goals as goal

pub loop-chain-preserved : goal.loop-chain-preserved
loop-chain-preserved c = λ signature.
    let front = map (λ t. selected_in t (key_of signature)) c.loop-chain.tables.items in
    added_next (map (λ chain. chain_in c.args.signatures.now c.args.rows.now.items chain.items signature))
    (λ chain. chain_in c.args.signatures.now c.args.rows.now.items chain.items signature) refl (λ x xs. refl)
    c.args.chains.now c.loop-chain.chain-index c.chain-item.result front _ _ (omega arith) c.chain-item.is
    (ap (map (λ t. selected_in t (key_of signature))) c.in_ok-push.ensures.ok
    ∙ map-append (λ t. selected_in t (key_of signature)) c.loop-chain.tables.items (c.in_ok-table_of.field-0 ∷ [])
    ∙ ap (λ (o : Option MethodNo). front ++ o ∷ []) (c.in_ok-table_of.ensures signature
    ∙ ap (λ l. chain_in c.args.signatures.now c.args.rows.now.items l signature) c.as_slice.ensures))
    (c.loop-chain.invariant signature)

pub returns : goal.returns
returns c = λ signature.
    added_all (map (λ chain. chain_in c.args.signatures.now c.args.rows.now.items chain.items signature))
    (λ chain. chain_in c.args.signatures.now c.args.rows.now.items chain.items signature) refl (λ x xs. refl)
    c.args.chains.now c.loop-chain.chain-index _ _ (omega arith) (c.loop-chain.invariant signature)
