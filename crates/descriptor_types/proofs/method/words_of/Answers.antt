use Rattle.std.proofs.Common.{◌≡◌, ◌∙◌, ℕ, ap, sym, arith}
use Rattle.code_model.specs.TypeReading.{words_of_type}
use Rattle.descriptor_types.specs.Types.{element_of, nested}
use Rattle.descriptor_types.proofs.Methods.{array_words, other_words}
use Rattle.descriptor_types.proofs.method.words_of.Goals as goal

pub returns-then-parameter-gt0-clause-words : goal.returns-then-parameter-gt0-clause-words
returns-then-parameter-gt0-clause-words c =
    sym (array_words c.args.parameter.dimensions (element_of c.args.parameter.element) c.if-parameter-gt0.true)

pub returns-in_default : goal.returns-in_default
returns-in_default c =
    let none : c.args.parameter.dimensions ≡ 0 = omega arith in
    record {
      words = sym (ap (λ (d : ℕ). words_of_type (nested d (element_of c.args.parameter.element))) none
          ∙ other_words c.args.parameter.element c.in_default.not-Long c.in_default.not-Double);
      few = omega arith;
    }
