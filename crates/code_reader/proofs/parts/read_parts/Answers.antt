use Rattle.std.proofs.Common.{◌≡◌, ℕ, List, ◌∙◌, ap, refl}
use Rattle.jv_types.specs.ClassData.{pool_of}
use Rattle.jv_model.specs.ClassData.{Const}
use Rattle.code_model.specs.CodeShape.{as_shape, parts_of}
use Rattle.code_reader.specs.Shape.{whole_parts_at}
use Rattle.code_reader.proofs.parts.read_parts.Goals as goal

parts_are : (pool : List Const) (method : ℕ) (bytes : List ℕ)
    → parts_of pool method bytes ≡ as_shape method (whole_parts_at pool method bytes)
unfolding parts_of
parts_are pool method bytes = refl

pub returns-in-Ok-clause-parts : goal.returns-in-Ok-clause-parts
returns-in-Ok-clause-parts c =
    parts_are (pool_of c.args.pool.now.items) c.args.method c.args.bytes.now
    ∙ ap (as_shape c.args.method) c.in-Ok.ensures.parts

pub returns-in-Err-clause-parts : goal.returns-in-Err-clause-parts
returns-in-Err-clause-parts c =
    let pool = pool_of c.args.pool.now.items in
    rw (parts_are pool c.args.method c.args.bytes.now)
    (c.shape_error.ensures.shape c.args.method (whole_parts_at pool c.args.method c.args.bytes.now)
    c.in-Err.ensures.parts)
