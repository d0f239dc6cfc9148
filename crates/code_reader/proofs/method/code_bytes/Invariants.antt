use Rattle.std.proofs.Common.{◌≡◌, drop, find}
use Rattle.jv_model.specs.ClassData.{Attr}
use Rattle.jv_model.specs.Profile.{code}
use Rattle.jv_model.specs.ConstantPool.{is_named}
use Rattle.jv_types.specs.ClassData.{attrs_of, pool_of}
use Rattle.code_reader.proofs.method.code_bytes.Given as goal

-- none of the attributes so far is the code
abbrev pub invariant-loop-index : goal.invariant-loop-index
invariant-loop-index l =
    find (λ (a : Attr). is_named (pool_of l.class.pool.items) code a.name)
    (drop l.index (attrs_of l.member.attributes.items))
    ≡ find (λ (a : Attr). is_named (pool_of l.class.pool.items) code a.name)
    (attrs_of l.member.attributes.items)
