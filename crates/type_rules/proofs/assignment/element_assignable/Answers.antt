use Rattle.std.proofs.Common.{◌≡◌, ◌==◌, false, ◌∙◌, rules}
use Rattle.type_rules.proofs.Components.{is_class, same_letters}
use Rattle.type_rules.proofs.assignment.element_assignable.Goals as goal

pub returns-in_default : goal.returns-in_default
returns-in_default g c =
    let no_class : is_class c.args.from ≡ false = search rules in
    (λ i. c.letter.ensures i == c.letter-in_default.ensures i) ∙ same_letters c.args.world.now c.args.from c.args.to no_class
