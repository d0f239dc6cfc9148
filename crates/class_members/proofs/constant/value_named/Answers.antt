use Rattle.std.proofs.Common.{◌∙◌, sym, arith}
use Rattle.std.proofs.lemmas.Int.{to_z-of_z}
use Rattle.class_members.proofs.Constants.{no_number}
use Rattle.class_members.proofs.constant.value_named.Goals as goal

pub returns-in-Integer : goal.returns-in-Integer
returns-in-Integer c = λ field pool same. rw c.in-Integer.is (grind (arith, to_z-of_z))

pub returns-in-Long : goal.returns-in-Long
returns-in-Long c = λ field pool same. rw c.in-Long.is (grind (arith, to_z-of_z))

pub returns-in_default : goal.returns-in_default
returns-in_default c = λ field pool same.
    c.zero_value.ensures field.descriptor same
    ∙ no_number field pool c.args.constant.now (λ n e. c.in_default.not-Integer n e) (λ n e. c.in_default.not-Long n e)
