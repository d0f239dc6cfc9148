use Rattle.link_laws.proofs.Theorems.{linked_program}
use Rattle.link_laws.proofs.linking.what_links_is_linked.Goals as goal

pub returns : goal.returns
returns c = linked_program
