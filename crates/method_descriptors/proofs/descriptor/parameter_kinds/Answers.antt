use Rattle.std.proofs.Common.{◌≡◌, ◌∙◌, ◌<◌, ◌≤◌, sym, ap, Some, None, true, false, ◌&&◌, leb, cond, map, sum, arith, List, ℕ, Bool, refl}
use Rattle.std.specs.Prelude.{is_some}
use Rattle.std.proofs.lemmas.Bool.{le-leb, lt-leb}
use Rattle.code_model.specs.TypeReading.{result_of, parameters_within}
use Rattle.method_descriptors.specs.declared.descriptor.ParameterKind.{ParameterKind}
use Rattle.method_descriptors.specs.Parameters.{words_of_kind, kinds_front}
use Rattle.method_descriptors.proofs.Descriptors.{rest_is}
use Rattle.method_descriptors.proofs.Parameters.{method_kinds}
use Rattle.method_descriptors.proofs.descriptor.parameter_kinds.Goals.{else-is_result-via-then-is_result+else-words_of-from, else-is_result-via-else-is_result}
use Rattle.method_descriptors.proofs.descriptor.parameter_kinds.Goals as goal

-- where both tests hold, and where one doesn't
where_both : (a b : Bool) (kinds : List ParameterKind) → a ≡ true → b ≡ true
    → Some kinds ≡ cond (a && b) (Some kinds) None
where_both a b kinds first second = rw (first, second) refl

first_fails : (a b : Bool) (kinds : List ParameterKind) → a ≡ false
    → None ≡ cond (a && b) (Some kinds) None
first_fails a b kinds first = rw first refl

second_fails : (a b : Bool) (kinds : List ParameterKind) → a ≡ true → b ≡ false
    → None ≡ cond (a && b) (Some kinds) None
second_fails a b kinds first second = rw (first, second) refl

pub returns-then-words_of-from-clause-kinds : goal.returns-then-words_of-from-clause-kinds
returns-then-words_of-from-clause-kinds c =
    let units = c.args.units.now in
    let kinds = c.read_parameters.new.kinds.items in
    let rest = c.in-Some.result.now in
    let words : sum (map words_of_kind kinds) ≤ 255 =
    omega (arith, c.words_of.ensures, ap (λ (ks : List ParameterKind). sum (map words_of_kind ks)) c.as_slice.ensures) in
    let found = rw c.in-Some.is at c.in_ok-result.ensures.kinds in
    where_both (is_some (result_of rest)) (leb (sum (map words_of_kind kinds)) 255) kinds
    (sym c.is_result.ensures ∙ c.if-is_result.true) (le-leb _ _ words)
    ∙ method_kinds units kinds rest (sym c.is_there.ensures ∙ c.if-not-is_there.false)
    (found ∙ ap (λ (left : List ℕ). kinds_front (parameters_within 255 left)) (rest_is units 1))

pub returns-else-is_result-clause-kinds : goal.returns-else-is_result-clause-kinds
returns-else-is_result-clause-kinds c =
    let units = c.args.units.now in
    let kinds = c.read_parameters.new.kinds.items in
    let rest = c.in-Some.result.now in
    let found = rw c.in-Some.is at c.in_ok-result.ensures.kinds in
    let whole =
    method_kinds units kinds rest (sym c.is_there.ensures ∙ c.if-not-is_there.false)
    (found ∙ ap (λ (left : List ℕ). kinds_front (parameters_within 255 left)) (rest_is units 1)) in
    elim c.else-is_result.branch [
      | else-is_result-via-then-is_result+else-words_of-from w ↦
          let words : 255 < sum (map words_of_kind kinds) =
          omega (arith, w.words_of.ensures, ap (λ (ks : List ParameterKind). sum (map words_of_kind ks)) w.as_slice.ensures, w.if-words_of-from.false, w.from.ensures) in
          second_fails (is_some (result_of rest)) (leb (sum (map words_of_kind kinds)) 255) kinds
          (sym c.is_result.ensures ∙ w.if-is_result.true) (lt-leb _ _ words) ∙ whole
      | else-is_result-via-else-is_result w ↦
          first_fails (is_some (result_of rest)) (leb (sum (map words_of_kind kinds)) 255) kinds
          (sym c.is_result.ensures ∙ w.if-is_result.false) ∙ whole
    ]
