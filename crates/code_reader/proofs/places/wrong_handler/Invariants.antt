use Rattle.std.proofs.Common.{◌≡◌, ℕ, drop, map}
use Rattle.jv_types.specs.ClassData.{pool_of}
use Rattle.jv_types.specs.Code.{handler_of}
use Rattle.code_model.specs.CodePlaces.{handler_fault}
use Rattle.code_reader.proofs.places.wrong_handler.Given as goal

-- the rows so far are about parts of the code
abbrev pub invariant-loop-index : goal.invariant-loop-index
invariant-loop-index l = (method : ℕ)
    → handler_fault (pool_of l.pool.items) method l.end l.instructions l.index
    (drop l.index (map handler_of l.rows.items))
    ≡ handler_fault (pool_of l.pool.items) method l.end l.instructions 0
    (map handler_of l.rows.items)
