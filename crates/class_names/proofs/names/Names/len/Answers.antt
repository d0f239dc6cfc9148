use Rattle.std.proofs.Common.{bytes_eq, subst}
use Rattle.std.specs.List.{IsDistinct}
use Rattle.class_names.proofs.Lists.{IsDistinct-map}
use Rattle.class_names.proofs.names.Names.len.Goals as goal

pub returns-clause-distinct : goal.returns-clause-distinct
returns-clause-distinct c = subst (IsDistinct bytes_eq) c.self.view_is (IsDistinct-map bytes_eq _ _ c.self.invariant.0)
