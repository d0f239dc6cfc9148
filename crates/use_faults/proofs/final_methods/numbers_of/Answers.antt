use Rattle.std.proofs.Common.{◌≡◌, ◌≤◌, ◌∙◌, List, Some, length, ap, sym, arith}
use Rattle.link_model.specs.WorldOf.{class_of}
use Rattle.jv_types.specs.ClassData.{pool_of}
use Rattle.jv_types.specs.Loaded.{loaded_of}
use Rattle.jv_types.specs.declared.class_data.Member.{Member}
use Rattle.use_faults.proofs.FinalNumbers.{none_so_far, one_so_far, all_so_far}
use Rattle.use_faults.proofs.final_methods.numbers_of.Goals as goal

pub loop-method-init : goal.loop-method-init
loop-method-init c = none_so_far c.args.loaded.now c.args.signatures.now.keys c.new-numbers.result.items c.new-numbers.ensures

pub loop-method-preserved : goal.loop-method-preserved
loop-method-preserved c =
    let told = c.in_ok-push_final.ensures in
    let class = class_of (loaded_of c.args.loaded.now) in
    let both : Some told.0 ≡ Some class = sym told.1 ∙ c.requires in
    let same : told.0 ≡ class = cc in
    one_so_far c.args.loaded.now c.args.signatures.now.keys c.loop-method.method-index c.loop-method.signatures.keys
    c.loop-method.numbers.items c.loop-method.invariant told.0 (pool_of c.as_slice-pool.result.now) c.method-item.result
    c.as_slice-method-items.result.now c.push_final.new.signatures.keys c.push_final.new.numbers.items same
    (ap pool_of c.as_slice-pool.ensures) c.as_slice-method-items.ensures c.loop-method-test.true c.method-item.is told.2

pub returns-clause-grows : goal.returns-clause-grows
returns-clause-grows c = c.loop-method.invariant.grows

pub returns-clause-numbers : goal.returns-clause-numbers
returns-clause-numbers c =
    let all : length c.args.loaded.now.file.methods.items ≤ c.loop-method.method-index =
    omega (arith, c.loop-method-test.false, ap (λ (l : List Member). length l) c.as_slice-method-items.ensures) in
    all_so_far c.args.loaded.now c.args.signatures.now.keys c.loop-method.method-index c.loop-method.signatures.keys
    c.loop-method.numbers.items c.loop-method.invariant all
