use Rattle.std.proofs.Common.{refl, option_map, ap, ◌∙◌}
use Rattle.code_model.specs.Names.{operand_at}
use Rattle.machine_model.specs.Start.{first_value}
use Rattle.link_model.specs.WorldOf.{field_of}
use Rattle.jv_types.specs.ClassData.{pool_of, member_of, attrs_of}
use Rattle.class_members.specs.Members.{cell_of, constant_index}
use Rattle.class_members.proofs.Fields.{kept-read}
use Rattle.class_members.proofs.field.read_field.Goals as goal

pub returns : goal.returns
returns c =
    let pool = pool_of c.args.pool.now in
    let field = field_of pool (member_of c.args.field.now) in
    let cell = c.cell_of-cell.ensures ∙ ap cell_of c.text_at.ensures in
    let first = c.first_value.ensures field cell
    ∙ ap (λ o. first_value field (option_map (operand_at pool) o)) c.constant_index-constant.ensures
    ∙ ap (λ a. first_value field (option_map (operand_at pool) (constant_index pool (attrs_of a)))) c.as_slice.ensures in
    kept-read pool c.args.field.now _ c.cell_of-cell.result c.first_value.result refl cell first
