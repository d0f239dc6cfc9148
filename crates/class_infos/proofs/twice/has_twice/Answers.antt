use Rattle.std.proofs.Common.{bytes_eq, sym, subst}
use Rattle.std.specs.List.{IsDistinct}
use Rattle.class_infos.proofs.twice.has_twice.Goals as goal

pub member_signatures-requires : goal.member_signatures-requires
unfolding IsDistinct
member_signatures-requires c = subst (IsDistinct bytes_eq) (sym c.new-texts.ensures) tt
