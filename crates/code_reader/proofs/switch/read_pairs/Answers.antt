use Rattle.std.proofs.Common.{refl}
use Rattle.std.proofs.lemmas.Result.{err_from_is_err_and}
use Rattle.std.proofs.lemmas.List.{map_push}
use Rattle.jv_types.specs.Instruction.{pair_of}
use Rattle.class_reader.proofs.Loops.Counted.{goes_on, is_refused, is_done}
use Rattle.code_reader.specs.Gives.{site_of}
use Rattle.code_reader.proofs.Counts.{pairs_kind, pairs, behind_both}
use Rattle.code_reader.proofs.switch.read_pairs.Goals as goal

pub returns-in_err-pair-clause-pairs : goal.returns-in_err-pair-clause-pairs
returns-in_err-pair-clause-pairs c =
    let site = site_of c.args.site in
    let error = err_from_is_err_and c.from_residual.result c.from_residual.ensures.1 in
    rw (error.1, error.2) (is_refused (pairs_kind site) (pairs site) _ _ _ _ _ _
    c.loop.invariant.so_far _ c.loop-test.true c.in_err-pair.ensures.pair)

pub loop-preserved : goal.loop-preserved
loop-preserved c =
    let site = site_of c.args.site in
    record {
      so_far = rw (c.in_ok-push.ensures.ok, map_push pair_of c.loop.pairs.items c.in_ok-pair.pair)
          (goes_on (pairs_kind site) (pairs site) _ _ _ _ _ _
          c.loop.invariant.so_far _ _ c.loop-test.true c.in_ok-pair.ensures.pair);
      on = behind_both _ _ _ c.loop.invariant.on c.in_ok-pair.ensures.on;
    }

pub returns-clause-pairs : goal.returns-clause-pairs
returns-clause-pairs c =
    let site = site_of c.args.site in
    is_done (pairs_kind site) (pairs site) _ _ _ _ _ _ c.loop.invariant.so_far
    c.loop-test.false refl
