use Rattle.std.proofs.Common.{◌≡◌, ◌∙◌, sym, subst, ℕ, length, arith}
use Rattle.link_model.specs.WorldOf.{class_of}
use Rattle.link_model.specs.ClassFaults.{is_wrong_method}
use Rattle.jv_types.specs.Loaded.{loaded_of}
use Rattle.class_faults.proofs.WrongMethods.{NoneBefore, one_more, position_here, position_none, method_read, method_count}
use Rattle.class_faults.proofs.methods.wrong_method.Goals as goal

pub returns-then-is_wrong_method : goal.returns-then-is_wrong_method
returns-then-is_wrong_method c =
    position_here (is_wrong_method (class_of (loaded_of c.args.class.now))) (class_of (loaded_of c.args.class.now)).methods
    c.loop-method.method _ (method_read c.args.class.now c.loop-method.method c.get.result.now _ c.get.ensures c.code_at.ensures)
    (sym c.is_wrong_method.ensures ∙ c.if-is_wrong_method.true) c.loop-method.invariant

pub loop-method-preserved : goal.loop-method-preserved
loop-method-preserved c =
    one_more (is_wrong_method (class_of (loaded_of c.args.class.now))) (class_of (loaded_of c.args.class.now)).methods
    c.loop-method.method _ (method_read c.args.class.now c.loop-method.method c.get.result.now _ c.get.ensures c.code_at.ensures)
    (sym c.is_wrong_method.ensures ∙ c.if-is_wrong_method.false) c.loop-method.invariant

pub returns : goal.returns
returns c =
    let all : c.loop-method.method ≡ length (class_of (loaded_of c.args.class.now)).methods =
    omega (arith, method_count c.args.class.now) in
    position_none (is_wrong_method (class_of (loaded_of c.args.class.now))) (class_of (loaded_of c.args.class.now)).methods
    (subst (λ (n : ℕ). NoneBefore (is_wrong_method (class_of (loaded_of c.args.class.now))) n (class_of (loaded_of c.args.class.now)).methods) all c.loop-method.invariant)
