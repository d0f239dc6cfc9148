use Rattle.std.proofs.Common.{◌≡◌, ◌++◌, drop}
use Rattle.jv_types.specs.Code.{map_types_of}
use Rattle.class_pool.specs.ParameterTypes.{types_from}
use Rattle.class_pool.proofs.locals.push_parameters.Given as goal

-- the types so far, and those that are still to come
abbrev pub invariant-loop-kind : goal.invariant-loop-kind
invariant-loop-kind l = record {
  number : l.number ≡ l.kind-index;
  so_far : map_types_of l.types.items ++ types_from l.number (drop l.kind-index l.kinds)
      ≡ map_types_of l.fn.types.items ++ types_from 0 l.kinds;
}
