use Rattle.std.proofs.Common.{◌≡◌, ◌-◌, None, option_map}
use Rattle.jv_types.specs.ClassData.{pool_of}
use Rattle.code_model.specs.CodeShape.{inners_at}
use Rattle.code_reader.specs.Parts.{table_of}
use Rattle.code_reader.proofs.parts.read_inners.Given as goal

-- the attributes that are still to be read, behind the map so far
abbrev pub invariant-loop : goal.invariant-loop
invariant-loop l =
    inners_at (pool_of l.pool.items) l.method (l.count - l.counter)
    (option_map (table_of l.method) l.map) l.input
    ≡ inners_at (pool_of l.pool.items) l.method l.count None l.fn.input
