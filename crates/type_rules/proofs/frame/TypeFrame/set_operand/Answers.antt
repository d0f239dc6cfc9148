use Rattle.std.proofs.Common.{◌-◌, ◌<◌, ℕ, List, length, reverse, slice_set, ap, ◌∙◌, arith}
use Rattle.std.proofs.lemmas.List.{length-reverse}
use Rattle.type_rules.specs.declared.types.VerificationType.{VerificationType}
use Rattle.type_rules.specs.Frames.{Types}
use Rattle.type_rules.proofs.Replaced.{reverse-set}
use Rattle.type_rules.proofs.frame.TypeFrame.set_operand.Goals as goal

pub returns : goal.returns
returns c =
    let xs = c.self.inside.stack.items in
    let was = ap (λ (t : Types). t.stack) c.self.view_is in
    let few : c.args.number < length xs = omega (arith, ap length was, length-reverse xs) in
    let set = ap reverse c.set.ensures.items
    ∙ ap (λ (n : ℕ). reverse (slice_set xs (n - 1 - c.args.number) c.args.operand)) c.len.ensures
    ∙ reverse-set xs c.args.number c.args.operand few
    ∙ ap (λ (l : List VerificationType). slice_set l c.args.number c.args.operand) was in
    let locals = ap (λ (t : Types). t.locals) c.self.view_is in
    λ i. record { locals = locals i; stack = set i }
