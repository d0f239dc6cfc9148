use Rattle.use_faults.proofs.NoClasses.{no_infos, no_cycle}
use Rattle.use_faults.proofs.tests.a_world_of_no_classes_has_no_main.Goals as goal

pub of-requires-clause-infos : goal.of-requires-clause-infos
of-requires-clause-infos g c = no_infos c.new-2.result.items c.new-2.ensures

pub of-requires-clause-acyclic : goal.of-requires-clause-acyclic
of-requires-clause-acyclic g c = no_cycle c.new-2.result.items c.new-2.ensures
