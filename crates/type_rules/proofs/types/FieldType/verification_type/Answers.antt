use Rattle.std.proofs.Common.{◌≡◌, ◌-◌, ℕ, zero, suc, ap, refl, arith}
use Rattle.jv_model.specs.Descriptors.{FieldType}
use Rattle.typing_model.specs.VerificationType as model
use Rattle.typing_model.specs.VerificationType.{type_of}
use Rattle.type_rules.specs.Types.{element_of, in_arrays}
use Rattle.type_rules.proofs.types.FieldType.verification_type.Goals as goal

-- the components of an array have one dimension less
array-in_arrays : (n : ℕ) (element : FieldType) → (n ≡ 0 → ⊥) → model.array (in_arrays (n - 1) element) ≡ type_of (in_arrays n element)
unfolding type_of
array-in_arrays zero element some = absurd (some refl)
array-in_arrays (suc n) element some =
    let less : suc n - 1 ≡ n = omega arith in ap (λ (m : ℕ). model.array (in_arrays m element)) less

pub returns-clause-same : goal.returns-clause-same
returns-clause-same c = λ world. array-in_arrays c.args.self.dimensions (element_of world c.args.self.element) c.if-self-eq0.false
