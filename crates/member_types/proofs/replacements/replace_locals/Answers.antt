use Rattle.std.proofs.Common.{◌<◌, length, slice_set, sym, ap, ◌∙◌, arith}
use Rattle.std.proofs.lemmas.Option.{get_or_from_slice_get}
use Rattle.std.proofs.lemmas.List.Edits.{map_over_more}
use Rattle.type_rules.specs.declared.types.VerificationType.{VerificationType}
use Rattle.type_rules.specs.Frames.{Types}
use Rattle.member_types.specs.Replacements.{replaced}
use Rattle.member_types.proofs.replacements.replace_locals.Goals as goal

pub loop-number-preserved : goal.loop-number-preserved
loop-number-preserved c =
    let xs = c.args.frame.now.locals in
    let ys = c.loop-number.frame.locals in
    let n = c.loop-number.number in
    let x = c.unwrap-there.result in
    let inside : n < length xs = omega (arith, c.loop-number-test.true, c.local_count-number-end.ensures) in
    let at = sym c.local.ensures ∙ c.unwrap-there.ensures in
    let step = map_over_more (replaced c.args.old c.args.fresh) xs ys n x inside
    (ap (λ (t : Types). t.locals) c.loop-number.invariant) (sym (get_or_from_slice_get ys n x x at)) in
    let changed = ap (λ (v : VerificationType). slice_set ys n v) c.replaced.ensures ∙ step in
    c.set_local.ensures ∙ (λ i. record { locals = changed i; stack = ap (λ (t : Types). t.stack) c.loop-number.invariant i })
