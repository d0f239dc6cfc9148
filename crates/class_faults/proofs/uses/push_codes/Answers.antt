use Rattle.std.proofs.Common.{List, ◌++◌, flat_map, refl, sym, ap, ◌∙◌, arith}
use Rattle.jv_model.specs.Partial.{least}
use Rattle.link_model.specs.Uses.{Used}
use Rattle.jv_types.specs.ClassData.{pool_of}
use Rattle.jv_types.specs.Loaded.{code_of}
use Rattle.class_faults.specs.Uses.{uses_in, method_uses}
use Rattle.class_faults.proofs.Appending.{flat_end}
use Rattle.class_faults.proofs.SameLeast.{least_more}
use Rattle.class_faults.proofs.uses.push_codes.Goals as goal

pub loop-code-preserved : goal.loop-code-preserved
loop-code-preserved c =
    least_more (λ code. method_uses (pool_of c.args.pool.now) (code_of code)) c.args.codes.now c.loop-code.code-index c.code-item.result
    _ _ _ (omega arith) c.code-item.is c.in_ok-push_method.ensures c.loop-code.invariant

pub returns : goal.returns
returns c has =
    ap (λ (uses : List Used). least (flat_map has uses))
    (flat_end (λ code. method_uses (pool_of c.args.pool.now) (code_of code)) c.args.codes.now c.loop-code.code-index
    (uses_in c.loop-code.uses.items) _ (omega arith) refl)
    ∙ c.loop-code.invariant has
