use Rattle.std.proofs.Common.{◌≡◌, ◌<◌, ◌+◌, ◌*◌, Some, length, sym, ap, ◌∙◌, arith}
use Rattle.std.specs.List.{slice_index}
use Rattle.byteorder.specs.Endian.{big_number}
use Rattle.jv_types.specs.ClassData.{pool_of}
use Rattle.class_members.proofs.Constants.{index_here, index_later}
use Rattle.class_members.proofs.constant.constant_index.Goals as goal

pub returns-then-is_named : goal.returns-then-is_named
returns-then-is_named c =
    let attribute = c.attribute-item.result in
    let found = index_here (pool_of c.args.pool.now) c.args.attributes.now c.loop-attribute.attribute-index attribute (omega arith)
    c.attribute-item.is (sym c.is_named.ensures ∙ c.if-is_named.true) in
    let bytes = attribute.bytes.items in
    let high : c.from.result ≡ slice_index bytes 0 =
    c.from.ensures ∙ c.byte_at.ensures ∙ ap (λ b. slice_index b 0) c.as_slice-bytes.ensures in
    let low : c.from-then-is_named.result ≡ slice_index bytes 1 =
    c.from-then-is_named.ensures ∙ c.byte_at-then-is_named.ensures ∙ ap (λ b. slice_index b 1) c.as_slice-bytes.ensures in
    let number : c.from.result * 256 + c.from-then-is_named.result ≡ big_number 2 attribute.bytes.items = omega (arith, high, low) in
    ap Some number ∙ sym found ∙ c.loop-attribute.invariant

pub loop-attribute-preserved : goal.loop-attribute-preserved
loop-attribute-preserved c =
    sym (index_later (pool_of c.args.pool.now) c.args.attributes.now c.loop-attribute.attribute-index c.attribute-item.result (omega arith)
    c.attribute-item.is (sym c.is_named.ensures ∙ c.if-is_named.false)) ∙ c.loop-attribute.invariant
