use Rattle.std.proofs.Common.{get_or, ap, arith}
use Rattle.std.specs.Option.{option_or}
use Rattle.jv_types.specs.declared.number.ClassNo.{ClassNo}
use Rattle.class_dispatch.specs.Tables.{key_of, chain_in}
use Rattle.class_dispatch.proofs.Steps.{chain_next, chain_all, class_inside, row_signatures, stands_there}
use Rattle.class_dispatch.proofs.tables.table_of.Goals as goal

abbrev none : ClassNo
none = record { 0 = 0 }

pub loop-index-init : goal.loop-index-init
loop-index-init c = λ signature.
    ap (λ o. option_or o (chain_in c.args.signatures.now c.args.rows.now.items c.args.chain.now signature)) (c.new-table.ensures (key_of signature))

pub get-requires : goal.get-requires
get-requires c = class_inside _ c.args.chain.now c.loop-index.index (get_or c.args.chain.now c.loop-index.index none) c.requires.inside (omega arith) (stands_there c.args.chain.now c.loop-index.index none (omega arith))

pub add_own-requires : goal.add_own-requires
add_own-requires c =
    row_signatures c.args.signatures.now c.args.rows.now.items (get_or c.args.chain.now c.loop-index.index none) c.get.result.now c.requires.signatures c.get.ensures

pub loop-index-preserved : goal.loop-index-preserved
loop-index-preserved c = λ signature.
    chain_next c.args.signatures.now c.args.rows.now.items c.args.chain.now c.loop-index.index signature (get_or c.args.chain.now c.loop-index.index none) c.get.result.now _ _ _
    (omega arith) (stands_there c.args.chain.now c.loop-index.index none (omega arith)) c.get.ensures (c.in_ok-add_own.ensures signature) (c.loop-index.invariant signature)

pub returns : goal.returns
returns c = λ signature.
    chain_all c.args.signatures.now c.args.rows.now.items c.args.chain.now c.loop-index.index signature _ _ (omega arith) (c.loop-index.invariant signature)
