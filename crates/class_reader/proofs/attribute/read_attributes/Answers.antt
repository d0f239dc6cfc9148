use Rattle.std.proofs.lemmas.Result.{err_from_is_err_and}
use Rattle.std.proofs.lemmas.List.{map_push}
use Rattle.jv_types.specs.ClassData.{attr_of}
use Rattle.class_reader.proofs.Loops.Counted.{goes_on, is_refused, is_done, is_faulty}
use Rattle.class_reader.proofs.Loops.Lists.{attributes_kind, attributes}
use Rattle.class_reader.proofs.attribute.read_attributes.Goals as goal

pub returns-in_err-attribute : goal.returns-in_err-attribute
returns-in_err-attribute c =
    let pool = c.args.pool.now in
    let error = err_from_is_err_and c.from_residual.result c.from_residual.ensures.1 in
    rw (error.1, error.2) (is_refused (attributes_kind pool)
    (attributes pool) _ _ _ _ _ _ c.loop.invariant _ c.loop-test.true
    c.in_err-attribute.ensures)

pub loop-preserved : goal.loop-preserved
loop-preserved c =
    let pool = c.args.pool.now in
    rw (
      c.in_ok-push.ensures.ok,
      map_push attr_of c.loop.attributes.items
          c.in_ok-attribute.attribute,
      c.owner_behind-owner.ensures,
    )
    (goes_on (attributes_kind pool)
    (attributes pool) _ _ _ _ _ _ c.loop.invariant _ _ c.loop-test.true
    c.in_ok-attribute.ensures)

pub returns-in-None : goal.returns-in-None
returns-in-None c = let pool = c.args.pool.now in
    is_done (attributes_kind pool)
    (attributes pool) _ _ _ _ _ _ c.loop.invariant c.loop-test.false c.in-None.ensures

pub returns-in-Some : goal.returns-in-Some
returns-in-Some c = let pool = c.args.pool.now in
    is_faulty (attributes_kind pool)
    (attributes pool) _ _ _ _ _ _ c.loop.invariant _ c.loop-test.false c.in-Some.ensures
