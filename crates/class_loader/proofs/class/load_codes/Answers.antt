use Rattle.std.proofs.Common.{sym, ap, subst, ◌∙◌}
use Rattle.jv_model.specs.Profile.{IsInProfile}
use Rattle.code_model.specs.CodeReading.{load_of}
use Rattle.class_loader.proofs.class.load_codes.Goals as goal

pub returns-in-Ok-clause-read : goal.returns-in-Ok-clause-read
returns-in-Ok-clause-read c = λ profile. record {
  in_profile = subst IsInProfile (sym c.in-Ok.ensures.file) profile;
  code_read = ap load_of c.in-Ok.ensures.file ∙ c.in-Ok.ensures.refusal;
}
