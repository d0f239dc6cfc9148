use Rattle.std.proofs.Common.{◌≡◌, drop}
use Rattle.jv_types.specs.ClassData.{pool_of, attrs_of}
use Rattle.class_members.specs.Members.{constant_index}
use Rattle.class_members.proofs.constant.constant_index.Given as goal

-- none of those so far is one
abbrev pub invariant-loop-attribute : goal.invariant-loop-attribute
invariant-loop-attribute l =
    constant_index (pool_of l.pool) (attrs_of (drop l.attribute-index l.attributes))
    ≡ constant_index (pool_of l.pool) (attrs_of l.attributes)
