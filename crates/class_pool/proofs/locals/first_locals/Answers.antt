use Rattle.std.proofs.Common.{◌≡◌, ◌∙◌, ◌++◌, sym, ap, List, ℕ}
use Rattle.jv_model.specs.ConstantPool.{units_at}
use Rattle.jv_types.specs.ClassData.{class_data_of, member_of, pool_of}
use Rattle.jv_types.specs.declared.class_data.Const.{Const}
use Rattle.code_model.specs.FirstLocals.{receiver_types, locals_of_type}
use Rattle.code_model.specs.TypeReading.{method_type_of}
use Rattle.class_pool.specs.ParameterTypes.{types_from}
use Rattle.class_pool.proofs.ParameterTypes.{locals_are}
use Rattle.class_pool.proofs.locals.first_locals.Goals as goal

pub returns : goal.returns
returns c =
    let file = class_data_of c.args.class.now in
    let member = member_of c.args.member.now in
    let found = rw c.in-Some.is at c.in_ok-kinds.ensures.kinds in
    rw (c.in_ok-push_parameters.ensures, c.as_slice-2.ensures, c.in_ok-push_receiver.ensures, c.new-types.ensures)
    (locals_are file member (method_type_of c.text_at-descriptor.result.now) c.in-Some.kinds.items found
    ∙ ap (λ (units : List ℕ). locals_of_type file member (method_type_of units))
    (c.text_at-descriptor.ensures ∙ ap (λ (p : List Const). units_at (pool_of p) c.args.member.now.descriptor) c.as_slice.ensures))
