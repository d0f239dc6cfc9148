use Rattle.std.proofs.Common.{◌≡◌, ◌-◌, ◌+◌, ◌∙◌, sym, ap, suc, length, arith, ℕ, length-append, Some, ◌++◌, ◌∷◌, [], List}
use Rattle.code_model.specs.TypeReading.{parameters_within}
use Rattle.descriptor_types.specs.Types.{field_types_of, field_type_of}
use Rattle.descriptor_types.proofs.Reading.{rest_is}
use Rattle.descriptor_types.proofs.Methods.{types_in_front, one_more, no_more, closed, too_many, one_type_more}
use Rattle.descriptor_types.proofs.method.read_parameters.Goals.{then-loop-rest-test+else-not-is_there, else-loop-rest-test}
use Rattle.descriptor_types.proofs.method.read_parameters.Goals as goal

pub returns-in_default-clause-types : goal.returns-in_default-clause-types
returns-in_default-clause-types c =
    let parameters = c.loop-rest.parameters.items in
    let rest = c.loop-rest.rest.now in
    let left : 255 - length parameters ≡ suc (255 - (length parameters + 1)) = omega arith in
    sym (no_more (255 - (length parameters + 1)) rest (field_types_of parameters)
    (sym c.is_there.ensures ∙ c.if-not-is_there.true) c.in_default.ensures)
    ∙ ap (λ n. types_in_front (field_types_of parameters) (parameters_within n rest)) (sym left)
    ∙ c.loop-rest.invariant.so_far

pub loop-rest-preserved : goal.loop-rest-preserved
loop-rest-preserved c =
    let parameters = c.loop-rest.parameters.items in
    let rest = c.loop-rest.rest.now in
    let more : length (parameters ++ c.in-Some.parameter ∷ []) ≡ length parameters + 1 =
    length-append parameters (c.in-Some.parameter ∷ []) in
    let left : 255 - length parameters ≡ suc (255 - (length parameters + 1)) = omega arith in
    record {
      few = rw (c.in_ok-push.ensures.ok, more) (omega arith);
      so_far = rw (c.in_ok-push.ensures.ok, more, one_type_more parameters c.in-Some.parameter)
          (sym (one_more (255 - (length parameters + 1)) rest (field_types_of parameters)
          (field_type_of c.in-Some.parameter) c.in-Some.behind.now
          (sym c.is_there.ensures ∙ c.if-not-is_there.true) c.in-Some.ensures)
          ∙ ap (λ n. types_in_front (field_types_of parameters) (parameters_within n rest)) (sym left)
          ∙ c.loop-rest.invariant.so_far);
    }

pub returns-then-is_there-clause-types : goal.returns-then-is_there-clause-types
returns-then-is_there-clause-types c =
    let parameters = c.loop-rest.parameters.items in
    let rest = c.loop-rest.rest.now in
    ap (λ (left : List ℕ). Some (field_types_of parameters, left)) (rest_is rest 1)
    ∙ sym (closed (255 - length parameters) rest (field_types_of parameters)
    (sym c.is_there-2.ensures ∙ c.if-is_there.true))
    ∙ c.loop-rest.invariant.so_far

pub returns-else-is_there-clause-types : goal.returns-else-is_there-clause-types
returns-else-is_there-clause-types c =
    let parameters = c.loop-rest.parameters.items in
    let rest = c.loop-rest.rest.now in
    elim c.loop-rest-test.branch [
      | then-loop-rest-test+else-not-is_there w ↦
          absurd (let here = w.is_there.ensures in let there = w.if-not-is_there.false in
          let none = c.is_there-2.ensures in let not = c.if-is_there.false in cc)
      | else-loop-rest-test w ↦
          let left : 255 - length parameters ≡ 0 = omega (arith, w.loop-rest-test.false) in
          sym (too_many rest (field_types_of parameters) (sym c.is_there-2.ensures ∙ c.if-is_there.false))
          ∙ ap (λ n. types_in_front (field_types_of parameters) (parameters_within n rest)) (sym left)
          ∙ c.loop-rest.invariant.so_far
    ]
