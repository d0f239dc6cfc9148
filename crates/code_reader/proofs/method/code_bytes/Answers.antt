use Rattle.std.proofs.Common.{◌∙◌, sym, ap, option_map, Option, arith}
use Rattle.std.proofs.lemmas.List.{length-map}
use Rattle.std.proofs.lemmas.Option.{slice_get-map}
use Rattle.jv_model.specs.ClassData.{Attr}
use Rattle.jv_model.specs.Profile.{code}
use Rattle.jv_model.specs.ConstantPool.{is_named}
use Rattle.jv_types.specs.ClassData.{attr_of, attrs_of, pool_of}
use Rattle.code_reader.proofs.Clauses.{found_here, found_later, found_nowhere}
use Rattle.code_reader.proofs.method.code_bytes.Goals as goal

pub returns-then-is_named-clause-bytes : goal.returns-then-is_named-clause-bytes
returns-then-is_named-clause-bytes c =
    let attributes = c.args.member.now.attributes.items in
    rw c.as_slice.ensures (ap (λ (found : Option Attr). option_map (λ (a : Attr). a.bytes) found)
    (sym (found_here (λ (a : Attr). is_named (pool_of c.args.class.now.pool.items) code a.name)
    (attrs_of attributes) c.loop-index.index (attr_of c.get-attribute.result.now)
    (slice_get-map attr_of attributes c.loop-index.index ∙ ap (option_map attr_of) c.get-attribute.ensures)
    (sym c.is_named.ensures ∙ c.if-is_named.true))
    ∙ c.loop-index.invariant))

pub loop-index-preserved : goal.loop-index-preserved
loop-index-preserved c =
    let attributes = c.args.member.now.attributes.items in
    sym (found_later (λ (a : Attr). is_named (pool_of c.args.class.now.pool.items) code a.name)
    (attrs_of attributes) c.loop-index.index (attr_of c.get-attribute.result.now)
    (slice_get-map attr_of attributes c.loop-index.index ∙ ap (option_map attr_of) c.get-attribute.ensures)
    (sym c.is_named.ensures ∙ c.if-is_named.false))
    ∙ c.loop-index.invariant

pub returns-clause-bytes : goal.returns-clause-bytes
returns-clause-bytes c =
    let attributes = c.args.member.now.attributes.items in
    ap (λ (found : Option Attr). option_map (λ (a : Attr). a.bytes) found)
    (sym (found_nowhere (λ (a : Attr). is_named (pool_of c.args.class.now.pool.items) code a.name)
    (attrs_of attributes) c.loop-index.index
    (omega (arith, length-map attributes attr_of, c.len-index-end.ensures, c.loop-index-test.false)))
    ∙ c.loop-index.invariant)
