use Rattle.std.proofs.Common.{◌-◌, ◌≤◌, ℕ, length, reverse, take, drop, ap, ◌∙◌, arith}
use Rattle.std.proofs.lemmas.List.{length-reverse}
use Rattle.type_rules.specs.Frames.{Types}
use Rattle.type_rules.proofs.Frames.{reverse-take}
use Rattle.type_rules.proofs.frame.TypeFrame.drop_operands.Goals as goal

pub returns : goal.returns
returns c =
    let xs = c.self.inside.stack.items in
    let was = ap (λ (t : Types). t.stack) c.self.view_is in
    let few : c.args.count ≤ length xs = omega (arith, ap length was, length-reverse xs) in
    let cut = ap reverse c.cut.ensures.items ∙ ap (λ (n : ℕ). reverse (take (n - c.args.count) xs)) c.len.ensures
    ∙ reverse-take xs c.args.count few ∙ ap (drop c.args.count) was in
    let locals = ap (λ (t : Types). t.locals) c.self.view_is in
    λ i. record { locals = locals i; stack = cut i }
