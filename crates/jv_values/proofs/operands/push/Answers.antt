use Rattle.std.proofs.Common.{◌+◌, ◌≤◌, ◌∷◌, ◌∙◌, sym, ap, subst, arith, length}
use Rattle.machine_model.specs.Value.{half, onto}
use Rattle.jv_values.specs.Values.{value_of, operands_in, places_of}
use Rattle.jv_values.proofs.WordLemmas.{operands_in-set, operands_in-long, one_place, onto_one}
use Rattle.jv_values.proofs.operands.push.Goals as goal

pub returns-in-Long-clause-operands : goal.returns-in-Long-clause-operands
returns-in-Long-clause-operands c =
    let two : c.args.depth + 2 ≤ length c.args.words.now = subst (λ v. c.args.depth + places_of v ≤ length c.args.words.now) c.in-Long.is c.requires in
    operands_in-long c.args.words.now c.args.depth (c.args.depth + 1) (c.args.depth + 2) c.args.value (omega arith) (omega arith) (omega arith)
    ∙ ap (λ v. half ∷ value_of v ∷ operands_in c.args.words.now c.args.depth) c.in-Long.is
    ∙ ap (λ v. onto (value_of v) (operands_in c.args.words.now c.args.depth)) (sym c.in-Long.is)

pub returns-in_default : goal.returns-in_default
returns-in_default c =
    let one = one_place c.args.value c.in_default.not-Long in
    let room = c.requires in
    record {
      depth = omega arith;
      operands =
          operands_in-set c.args.words.now c.args.depth (c.args.depth + 1) c.args.value (omega arith) (omega arith)
          ∙ sym (onto_one c.args.value (operands_in c.args.words.now c.args.depth) c.in_default.not-Long);
    }
