use Rattle.std.proofs.Common.{◌≡◌, ◌+◌, length, arith}
use Rattle.std.proofs.lemmas.Result.{err_from_is_err_and}
use Rattle.jv_types.specs.ClassData.{const_of}
use Rattle.class_reader.specs.Entries.{with_gap}
use Rattle.class_reader.proofs.Loops.InFront.{is_refused, is_done}
use Rattle.class_reader.proofs.Loops.Entries.{entries_go_on, entries_at-refused, entries_at-none, with_gap-takes, with_gap-length}
use Rattle.class_reader.proofs.constant_pool.read_entries.Goals as goal

pub returns-in_err-constant : goal.returns-in_err-constant
returns-in_err-constant c =
    let residual = c.from_residual-in_err-constant in
    let error = err_from_is_err_and residual.result residual.ensures.1 in
    rw (error.1, error.2) (is_refused _ _ _ _
    (entries_at-refused _ _ _ _ c.loop-index-test.true c.in_err-constant.ensures.constant)
    c.loop-index.invariant.so_far)

pub loop-index-smaller : goal.loop-index-smaller
loop-index-smaller c =
    let entry = const_of c.in_ok-constant.constant in
    let next = with_gap-length c.loop-index.entries.items c.push_entry.new.entries.items entry
    c.in_ok-push_entry.ensures in
    omega (arith, next, with_gap-takes entry)

pub loop-index-preserved : goal.loop-index-preserved
loop-index-preserved c =
    let entry = const_of c.in_ok-constant.constant in
    let length_is = with_gap-length c.loop-index.entries.items c.push_entry.new.entries.items entry
    c.in_ok-push_entry.ensures in
    let next : c.len-index.result ≡ c.loop-index.index + length (with_gap entry) =
    omega (arith, length_is) in
    record {
      index = c.len-index.ensures;
      so_far = rw c.in_ok-push_entry.ensures
          (entries_go_on _ _ _ _ _ _ _ _ c.loop-index-test.true c.in_ok-constant.ensures.constant
          c.in_ok-constant.ensures.narrow next c.loop-index.invariant.so_far);
    }

pub returns : goal.returns
returns c = is_done _ _ _ _ (entries_at-none _ _ _ c.loop-index-test.false)
    c.loop-index.invariant.so_far
