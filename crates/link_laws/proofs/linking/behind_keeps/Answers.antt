use Rattle.link_laws.proofs.Behind.{behind_keeps_is_sub, behind_keeps_fields, behind_keeps_methods}
use Rattle.link_laws.proofs.linking.behind_keeps.Goals as goal

pub returns : goal.returns
returns c = λ world longer loaded class sound linked there. record {
  subtypes = λ above. behind_keeps_is_sub world longer loaded class above sound linked there;
  fields = λ name descriptor. behind_keeps_fields world longer loaded class name descriptor sound linked there;
  methods = λ name descriptor. behind_keeps_methods world longer loaded class name descriptor sound linked there;
}
