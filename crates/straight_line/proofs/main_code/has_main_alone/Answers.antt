use Rattle.std.proofs.Common.{refl, sym, ◌∙◌}
use Rattle.straight_line.proofs.MainLemmas.{all_methods, any_field}
use Rattle.straight_line.proofs.main_code.has_main_alone.Goals as goal

pub returns-then-are_main_or_constructors : goal.returns-then-are_main_or_constructors
returns-then-are_main_or_constructors c =
    let class = c.args.class.now in
    let methods =
    all_methods class ∙ sym (rw c.as_slice.ensures at c.are_main_or_constructors.ensures)
    ∙ c.if-are_main_or_constructors.true in
    let fields =
    any_field class
    ∙ sym (rw c.as_slice-then-are_main_or_constructors.ensures at c.one_begins_as_string.ensures) in
    rw (methods, fields) refl

pub returns-else-are_main_or_constructors : goal.returns-else-are_main_or_constructors
returns-else-are_main_or_constructors c =
    let class = c.args.class.now in
    let methods =
    all_methods class ∙ sym (rw c.as_slice.ensures at c.are_main_or_constructors.ensures)
    ∙ c.if-are_main_or_constructors.false in
    rw methods c.if-are_main_or_constructors.false
