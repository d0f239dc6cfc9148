use Rattle.std.proofs.Common.{◌≡◌, ◌-◌, ◌+◌, ◌∙◌, sym, ap, suc, length, arith, ℕ, length-append, Some, ◌++◌, ◌∷◌, [], List}
use Rattle.code_model.specs.TypeReading.{parameters_within}
use Rattle.method_descriptors.specs.Parameters.{kinds_front}
use Rattle.method_descriptors.proofs.Descriptors.{rest_is}
use Rattle.method_descriptors.proofs.Parameters.{kinds_in_front, one_more, no_more, closed, too_many}
use Rattle.method_descriptors.proofs.descriptor.read_parameters.Goals.{then-loop-rest-test+else-not-is_there, else-loop-rest-test}
use Rattle.method_descriptors.proofs.descriptor.read_parameters.Goals as goal

pub returns-in_default-clause-kinds : goal.returns-in_default-clause-kinds
returns-in_default-clause-kinds c =
    let kinds = c.loop-rest.kinds.items in
    let rest = c.loop-rest.rest.now in
    let left : 255 - length kinds ≡ suc (255 - (length kinds + 1)) = omega arith in
    sym (no_more (255 - (length kinds + 1)) rest kinds
    (sym c.is_there.ensures ∙ c.if-not-is_there.true) c.in_default.ensures)
    ∙ ap (λ n. kinds_in_front kinds (kinds_front (parameters_within n rest))) (sym left)
    ∙ c.loop-rest.invariant.so_far

pub loop-rest-preserved : goal.loop-rest-preserved
loop-rest-preserved c =
    let kinds = c.loop-rest.kinds.items in
    let rest = c.loop-rest.rest.now in
    let more : length (kinds ++ c.in-Some.kind ∷ []) ≡ length kinds + 1 =
    length-append kinds (c.in-Some.kind ∷ []) in
    let left : 255 - length kinds ≡ suc (255 - (length kinds + 1)) = omega arith in
    record {
      few = rw (c.in_ok-push.ensures.ok, more) (omega arith);
      so_far = rw (c.in_ok-push.ensures.ok, more)
          (sym (one_more (255 - (length kinds + 1)) rest kinds c.in-Some.kind c.in-Some.behind.now
          (sym c.is_there.ensures ∙ c.if-not-is_there.true) c.in-Some.ensures)
          ∙ ap (λ n. kinds_in_front kinds (kinds_front (parameters_within n rest))) (sym left)
          ∙ c.loop-rest.invariant.so_far);
    }

pub returns-then-is_there-clause-kinds : goal.returns-then-is_there-clause-kinds
returns-then-is_there-clause-kinds c =
    let kinds = c.loop-rest.kinds.items in
    let rest = c.loop-rest.rest.now in
    ap (λ (left : List ℕ). Some (kinds, left)) (rest_is rest 1)
    ∙ sym (closed (255 - length kinds) rest kinds (sym c.is_there-2.ensures ∙ c.if-is_there.true))
    ∙ c.loop-rest.invariant.so_far

pub returns-else-is_there-clause-kinds : goal.returns-else-is_there-clause-kinds
returns-else-is_there-clause-kinds c =
    let kinds = c.loop-rest.kinds.items in
    let rest = c.loop-rest.rest.now in
    elim c.loop-rest-test.branch [
      | then-loop-rest-test+else-not-is_there w ↦
          absurd (let here = w.is_there.ensures in let there = w.if-not-is_there.false in
          let none = c.is_there-2.ensures in let not = c.if-is_there.false in cc)
      | else-loop-rest-test w ↦
          let left : 255 - length kinds ≡ 0 = omega (arith, w.loop-rest-test.false) in
          sym (too_many rest kinds (sym c.is_there-2.ensures ∙ c.if-is_there.false))
          ∙ ap (λ n. kinds_in_front kinds (kinds_front (parameters_within n rest))) (sym left)
          ∙ c.loop-rest.invariant.so_far
    ]
