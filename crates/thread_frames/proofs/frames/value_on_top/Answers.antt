use Rattle.std.proofs.Common.{◌≡◌, ◌-◌, ◌≤◌, List, ◌∷◌, length, sym, ap, ◌∙◌, subst, arith}
use Rattle.std.specs.Prelude.{IsSome, reverse}
use Rattle.std.proofs.lemmas.List.{length-map, length-reverse}
use Rattle.jv_values.specs.declared.value.Value.{Value}
use Rattle.machine_model.specs.Value as model
use Rattle.jv_values.specs.Values.{value_of, values_of, operands_in}
use Rattle.thread_frames.specs.Machine.{value_on_top}
use Rattle.thread_frames.proofs.TopLemmas.{few_places, all_operands, below_half, alone, some_below}
use Rattle.thread_frames.proofs.frames.value_on_top.Goals as goal

pub two_words-requires-clause-some : goal.two_words-requires-clause-some
two_words-requires-clause-some c =
    let operands = c.args.operands.now in
    let rest = operands_in operands (length operands - 1) in
    let top = sym (all_operands operands) ∙ c.word_on_top.ensures in
    let half = top ∙ ap (λ (word : Value). value_of word ∷ rest) c.in-Half.is in
    let some = subst (λ (os : List model.Value). IsSome (value_on_top os)) half c.requires in
    let count : length (values_of (reverse operands)) ≡ length operands = length-map (reverse operands) value_of ∙ length-reverse operands in
    let deep : 2 ≤ length operands = omega (arith, some_below rest some, ap length half, count) in
    deep

pub returns-in-Half-clause-value : goal.returns-in-Half-clause-value
returns-in-Half-clause-value c =
    let operands = c.args.operands.now in
    let rest = operands_in operands (length operands - 1) in
    let top = sym (all_operands operands) ∙ c.word_on_top.ensures in
    let half = top ∙ ap (λ (word : Value). value_of word ∷ rest) c.in-Half.is in
    let some = subst (λ (os : List model.Value). IsSome (value_on_top os)) half c.requires in
    let count : length (values_of (reverse operands)) ≡ length operands = length-map (reverse operands) value_of ∙ length-reverse operands in
    let deep : 2 ≤ length operands = omega (arith, some_below rest some, ap length half, count) in
    let upper = c.two_words.result.1 in
    let lower = c.two_words.result.0 in
    let others = operands_in operands (length operands - 2) in
    let two : values_of (reverse operands) ≡ value_of upper ∷ value_of lower ∷ others = sym (all_operands operands) ∙ c.two_words.ensures in
    let both : model.half ∷ rest ≡ value_of upper ∷ value_of lower ∷ others = sym half ∙ two in
    let is : value_of upper ≡ model.half = cc in
    let parted : values_of (reverse operands) ≡ model.half ∷ value_of lower ∷ others = two ∙ ap (λ x. x ∷ value_of lower ∷ others) is in
    ap value_on_top parted ∙ below_half lower others (subst (λ (os : List model.Value). IsSome (value_on_top os)) parted c.requires)

pub returns-in-Half-clause-places : goal.returns-in-Half-clause-places
returns-in-Half-clause-places c =
    let operands = c.args.operands.now in
    let rest = operands_in operands (length operands - 1) in
    let top = sym (all_operands operands) ∙ c.word_on_top.ensures in
    let half = top ∙ ap (λ (word : Value). value_of word ∷ rest) c.in-Half.is in
    let some = subst (λ (os : List model.Value). IsSome (value_on_top os)) half c.requires in
    let count : length (values_of (reverse operands)) ≡ length operands = length-map (reverse operands) value_of ∙ length-reverse operands in
    let deep : 2 ≤ length operands = omega (arith, some_below rest some, ap length half, count) in
    omega (arith, few_places c.two_words.result.0, deep)

pub returns-in_default : goal.returns-in_default
returns-in_default c =
    let operands = c.args.operands.now in
    let rest = operands_in operands (length operands - 1) in
    let top = sym (all_operands operands) ∙ c.word_on_top.ensures in
    let word = c.word_on_top.result in
    let count : length (values_of (reverse operands)) ≡ length operands = length-map (reverse operands) value_of ∙ length-reverse operands in
    let is = alone word rest c.in_default.not-Half (subst (λ (os : List model.Value). IsSome (value_on_top os)) top c.requires) in
    record {
      value = ap value_on_top top ∙ is.there;
      places = omega (arith, is.place, count, ap length top);
    }
