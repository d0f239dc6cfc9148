use Rattle.std.proofs.Common.{◌-◌, length, arith}
use Rattle.std.proofs.lemmas.Option.{slice_get_within}
use Rattle.thread_frames.proofs.FrameLemmas.{end_is}
use Rattle.thread_frames.proofs.frames.end_of.Goals as goal

pub overflow_add-result : goal.overflow_add-result
overflow_add-result c =
    let rows = c.args.rows.now.items in
    let row = c.newest_row-row.result in
    let e = c.newest_row-row.ensures in
    let some = slice_get_within rows (length rows - 1) row e in
    let end = end_is 0 rows (length rows - 1) row c.requires.laid (omega (arith, some)) e in
    omega (arith, end, c.requires.room)

pub overflow_add-result-else-is_empty : goal.overflow_add-result-else-is_empty
overflow_add-result-else-is_empty c =
    let rows = c.args.rows.now.items in
    let row = c.newest_row-row.result in
    let e = c.newest_row-row.ensures in
    let some = slice_get_within rows (length rows - 1) row e in
    let end = end_is 0 rows (length rows - 1) row c.requires.laid (omega (arith, some)) e in
    omega (arith, end, c.requires.room)

pub returns-else-is_empty : goal.returns-else-is_empty
returns-else-is_empty c =
    let rows = c.args.rows.now.items in
    let row = c.newest_row-row.result in
    let e = c.newest_row-row.ensures in
    let some = slice_get_within rows (length rows - 1) row e in
    let end = end_is 0 rows (length rows - 1) row c.requires.laid (omega (arith, some)) e in
    omega (arith, end)
