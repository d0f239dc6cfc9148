-- The words of a method's parameters, by their kinds.
use Rattle.std.proofs.Common.{◌≡◌, ℕ, List, map, sum, Option, Some, None, option_map, refl, sym, ap, ◌∙◌}
use Rattle.jv_model.specs.Descriptors.{MethodType}
use Rattle.code_model.specs.TypeReading.{parameter_words}
use Rattle.method_descriptors.specs.declared.descriptor.ParameterKind.{ParameterKind}
use Rattle.method_descriptors.specs.Parameters.{kinds_of, words_of_kind}
use Rattle.method_descriptors.proofs.Parameters.{all_words}

pub words_some : (type : Option MethodType) (kinds : List ParameterKind)
    → Some kinds ≡ option_map (λ (t : MethodType). kinds_of t.parameters) type
    → Some (sum (map words_of_kind kinds)) ≡ option_map parameter_words type
words_some None kinds is = absurd cc
words_some (Some type) kinds is =
    let same : kinds ≡ kinds_of type.parameters = cc in
    ap Some (ap (λ (ks : List ParameterKind). sum (map words_of_kind ks)) same ∙ sym (all_words type.parameters))

abbrev no_words : Option ℕ
no_words = None

pub words_none : (type : Option MethodType)
    → None ≡ option_map (λ (t : MethodType). kinds_of t.parameters) type → no_words ≡ option_map parameter_words type
words_none None is = refl
words_none (Some type) is = absurd cc
