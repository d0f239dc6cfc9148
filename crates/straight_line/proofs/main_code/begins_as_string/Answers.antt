use Rattle.std.proofs.Common.{sym, ◌∙◌}
use Rattle.jv_types.specs.ClassData.{pool_of}
use Rattle.straight_line.proofs.MainLemmas.{constant_is_there}
use Rattle.straight_line.proofs.main_code.begins_as_string.Goals as goal

pub returns-then-is_text : goal.returns-then-is_text
returns-then-is_text c =
    let static = sym c.is_static.ensures ∙ c.if-not-is_static.false in
    let text = rw (c.text_at.ensures, c.as_slice.ensures) at (sym c.is_text.ensures ∙ c.if-is_text.true) in
    rw (static, text)
    (rw c.as_slice-then-is_text.ensures at c.has_constant.ensures
    ∙ constant_is_there (pool_of c.args.pool.now.items) c.args.field.now.attributes.items)
