use Rattle.jv_values.proofs.WordLemmas.{with_local_one, with_local_long}
use Rattle.jv_values.proofs.locals.set_local.Goals as goal

pub returns-in-Long : goal.returns-in-Long
returns-in-Long c =
    let some = rw c.in-Long.is at c.requires in
    rw c.in-Long.is (with_local_long c.args.local _ c.args.locals.now some)

pub returns-in_default : goal.returns-in_default
returns-in_default c = with_local_one c.args.local c.args.value c.args.locals.now c.in_default.not-Long c.requires
