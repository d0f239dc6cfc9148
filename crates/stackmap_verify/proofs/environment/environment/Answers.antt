use Rattle.std.proofs.Common.{refl, ◌∙◌}
use Rattle.instruction_types.proofs.Found.{found-name, found-known}
use Rattle.stackmap_verify.proofs.environment.environment.Goals as goal

pub returns-clause-describes : goal.returns-clause-describes
returns-clause-describes c = record {
  stack_is = refl;
  class_name = found-name c.args.world.now c.as_slice.result.now c.class_there.result c.class_there.ensures ∙ c.as_slice.ensures;
  superclass_is = refl;
  constructor_is = c.is_text.ensures;
  result_is = c.returned_type.ensures.same c.args.world.now;
}

pub returns-clause-ready : goal.returns-clause-ready
returns-clause-ready c = record {
  class_there = found-known c.args.world.now c.as_slice.result.now c.class_there.result c.class_there.ensures;
  superclass_there = c.requires.superclass;
  result_there = c.returned_type.ensures.known c.args.world.now c.requires.returned;
  object = c.class_there-2.ensures;
  string = c.class_there-3.ensures;
  throwable = c.class_there-4.ensures;
}
