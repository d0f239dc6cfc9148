use Rattle.std.proofs.Common.{◌≡◌, ◌-◌, ◌+◌, ◌∙◌, sym, ap, suc, length, arith, ℕ, length-append, Some, ◌++◌, ◌∷◌, [], List}
use Rattle.code_model.specs.TypeReading.{parameters_within}
use Rattle.numbered_types.proofs.Descriptors.{rest_is}
use Rattle.numbered_types.specs.Numbered.{all_numbered}
use Rattle.numbered_types.proofs.Parameters.{in_front, one_more, no_more, closed, too_many}
use Rattle.numbered_types.proofs.method_types.read_parameters.Goals.{then-loop-rest-test+else-not-is_there, else-loop-rest-test}
use Rattle.numbered_types.proofs.method_types.read_parameters.Goals as goal

pub returns-in_default : goal.returns-in_default
returns-in_default c =
    let w = c.args.world.now in
    let types = c.loop-rest.types.items in
    let rest = c.loop-rest.rest.now in
    let left : 255 - length types ≡ suc (255 - (length types + 1)) = omega arith in
    sym (no_more w (255 - (length types + 1)) rest types
    (sym c.is_there.ensures ∙ c.if-not-is_there.true) c.in_default.ensures)
    ∙ ap (λ n. in_front types (all_numbered w (parameters_within n rest))) (sym left)
    ∙ c.loop-rest.invariant.so_far

pub loop-rest-preserved : goal.loop-rest-preserved
loop-rest-preserved c =
    let w = c.args.world.now in
    let types = c.loop-rest.types.items in
    let rest = c.loop-rest.rest.now in
    let more : length (types ++ c.in-Some.parameter ∷ []) ≡ length types + 1 =
    length-append types (c.in-Some.parameter ∷ []) in
    let left : 255 - length types ≡ suc (255 - (length types + 1)) = omega arith in
    record {
      few = rw (c.in_ok-push.ensures.ok, more) (omega arith);
      so_far = rw (c.in_ok-push.ensures.ok, more)
          (sym (one_more w (255 - (length types + 1)) rest types c.in-Some.parameter c.in-Some.behind.now
          (sym c.is_there.ensures ∙ c.if-not-is_there.true) c.in-Some.ensures)
          ∙ ap (λ n. in_front types (all_numbered w (parameters_within n rest))) (sym left)
          ∙ c.loop-rest.invariant.so_far);
    }

pub returns-then-is_there : goal.returns-then-is_there
returns-then-is_there c =
    let w = c.args.world.now in
    let types = c.loop-rest.types.items in
    let rest = c.loop-rest.rest.now in
    ap (λ (left : List ℕ). Some (types, left)) (rest_is rest 1)
    ∙ sym (closed w (255 - length types) rest types (sym c.is_there-2.ensures ∙ c.if-is_there.true))
    ∙ c.loop-rest.invariant.so_far

pub returns-else-is_there : goal.returns-else-is_there
returns-else-is_there c =
    let w = c.args.world.now in
    let types = c.loop-rest.types.items in
    let rest = c.loop-rest.rest.now in
    elim c.loop-rest-test.branch [
      | then-loop-rest-test+else-not-is_there w' ↦
          absurd (let here = w'.is_there.ensures in let there = w'.if-not-is_there.false in
          let none = c.is_there-2.ensures in let not = c.if-is_there.false in cc)
      | else-loop-rest-test w' ↦
          let left : 255 - length types ≡ 0 = omega (arith, w'.loop-rest-test.false) in
          sym (too_many w rest types (sym c.is_there-2.ensures ∙ c.if-is_there.false))
          ∙ ap (λ n. in_front types (all_numbered w (parameters_within n rest))) (sym left)
          ∙ c.loop-rest.invariant.so_far
    ]
