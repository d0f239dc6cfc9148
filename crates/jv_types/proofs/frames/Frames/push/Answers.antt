use Rattle.std.proofs.Common.{◌≡◌, take, None, refl}
use Rattle.jv_types.specs.MapFrame.{map_types_of}
use Rattle.jv_types.specs.Frames.{types_in, AddTypes}
use Rattle.jv_types.proofs.Rows.{types_begin}
use Rattle.jv_types.proofs.FrameRows.{frames_are, frames_stand}
use Rattle.jv_types.proofs.frames.Frames.push.Goals as goal

pub add_types-stack-requires-clause-types : goal.add_types-stack-requires-clause-types
add_types-stack-requires-clause-types c = types_begin c.add_types-locals.new.rows.items

pub invariant_of-self-2 : goal.invariant_of-self-2
invariant_of-self-2 c =
    let rows = c.self.inside.rows.items in
    let frames = c.self.inside.frames.items in
    let first = c.first_types-first.result in
    let same : c.reserve_types.new.rows.items ≡ rows = c.in_ok-reserve_types.ensures.items in
    let starts : types_in rows first.top ≡ take c.args.kept (types_in rows c.self.inside.locals.top) =
    rw same at c.first_types-first.ensures.first in
    let adds : AddTypes rows first (map_types_of c.args.locals.now.items) c.add_types-locals.new.rows.items c.add_types-locals.result =
    rw (same, c.as_slice.ensures) at c.add_types-locals.ensures.added in
    let stacks : AddTypes c.add_types-locals.new.rows.items (record { top = None; count = 0; words = 0 })
    (map_types_of c.args.stack.now.items) c.add_types-stack.new.rows.items c.add_types-stack.result =
    rw (c.as_slice-2.ensures) at c.add_types-stack.ensures.added in
    rw (c.add.ensures.items, c.in_ok-reserve.ensures.items)
    (frames_stand rows c.add_types-locals.new.rows.items c.add_types-stack.new.rows.items frames c.self.inside.locals first
    c.add_types-locals.result (record { top = None; count = 0; words = 0 }) c.add_types-stack.result c.args.pc c.args.kept
    (map_types_of c.args.locals.now.items) (map_types_of c.args.stack.now.items) c.self.invariant starts adds refl stacks)

pub returns-clause-ok : goal.returns-clause-ok
returns-clause-ok c =
    let rows = c.self.inside.rows.items in
    let frames = c.self.inside.frames.items in
    let first = c.first_types-first.result in
    let same : c.reserve_types.new.rows.items ≡ rows = c.in_ok-reserve_types.ensures.items in
    let starts : types_in rows first.top ≡ take c.args.kept (types_in rows c.self.inside.locals.top) =
    rw same at c.first_types-first.ensures.first in
    let adds : AddTypes rows first (map_types_of c.args.locals.now.items) c.add_types-locals.new.rows.items c.add_types-locals.result =
    rw (same, c.as_slice.ensures) at c.add_types-locals.ensures.added in
    let stacks : AddTypes c.add_types-locals.new.rows.items (record { top = None; count = 0; words = 0 })
    (map_types_of c.args.stack.now.items) c.add_types-stack.new.rows.items c.add_types-stack.result =
    rw (c.as_slice-2.ensures) at c.add_types-stack.ensures.added in
    rw (c.add.ensures.items, c.in_ok-reserve.ensures.items, ← c.self.view_is)
    (frames_are rows c.add_types-locals.new.rows.items c.add_types-stack.new.rows.items frames c.self.inside.locals first
    c.add_types-locals.result (record { top = None; count = 0; words = 0 }) c.add_types-stack.result c.args.pc c.args.kept
    (map_types_of c.args.locals.now.items) (map_types_of c.args.stack.now.items) c.self.invariant starts adds refl stacks)
