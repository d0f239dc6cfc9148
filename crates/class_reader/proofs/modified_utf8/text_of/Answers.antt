use Rattle.std.proofs.Common.{◌≡◌, eqb, length, true, false}
use Rattle.class_reader.proofs.Loops.Units.{goes_on, fails, is_done, shorter}
use Rattle.class_reader.proofs.modified_utf8.text_of.Goals as goal

pub loop-rest-preserved : goal.loop-rest-preserved
loop-rest-preserved c =
    let some : eqb (length c.loop-rest.rest.now) 0 ≡ false = cc in
    rw c.in_ok-push.ensures.ok (goes_on _ _ _ _ _ some c.in-Some.ensures c.loop-rest.invariant)

pub loop-rest-smaller : goal.loop-rest-smaller
loop-rest-smaller c = shorter _ _ c.in-Some.ensures

pub returns-in_default : goal.returns-in_default
returns-in_default c =
    let some : eqb (length c.loop-rest.rest.now) 0 ≡ false = cc in
    fails _ _ _ some c.in_default.ensures c.loop-rest.invariant

pub returns : goal.returns
returns c =
    let none : eqb (length c.loop-rest.rest.now) 0 ≡ true = cc in
    is_done _ _ _ none c.loop-rest.invariant
