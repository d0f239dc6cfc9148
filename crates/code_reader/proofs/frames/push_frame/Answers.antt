use Rattle.std.proofs.Common.{◌≡◌, Bool, Some, None, if◌then◌else◌, refl, ap, sym, ◌∙◌}
use Rattle.code_model.specs.StackMaps.{frame_at, fits}
use Rattle.jv_types.specs.Code.{map_types_of}
use Rattle.jv_types.specs.Frames.{locals_behind}
use Rattle.code_reader.specs.Frames.{bounds_of, types_after}
use Rattle.code_reader.specs.Parts.{entry_of}
use Rattle.code_reader.proofs.FrameLists.{no_types, fitting, last_fits}
use Rattle.code_reader.proofs.frames.push_frame.Goals as goal

pub returns-in_default-clause-added : goal.returns-in_default-clause-added
returns-in_default-clause-added c =
    let before = locals_behind (map_types_of c.args.first.now.items) c.args.frames.now in
    let none = rw c.in_default.is at (c.in_ok-change.ensures before (sym c.count_before-before.ensures)) in
    no_types (bounds_of c.args.bounds) c.args.place before (entry_of c.args.entry.now) none

pub returns-then-fits-clause-added : goal.returns-then-fits-clause-added
returns-then-fits-clause-added c =
    let bounds = bounds_of c.args.bounds in
    let before = locals_behind (map_types_of c.args.first.now.items) c.args.frames.now in
    let types = types_after before c.in-Some.change in
    let some = rw c.in-Some.is at (c.in_ok-change.ensures before (sym c.count_before-before.ensures)) in
    let pc = c.place_behind-pc.result in
    let does = last_fits bounds c.args.frames.now _ types pc c.fits.result c.fits.ensures.fits c.in_ok-push_change.ensures in
    let is = fitting bounds c.args.place before (entry_of c.args.entry.now) types pc c.fits.result some c.place_behind-pc.ensures does in
    (frame_at pc types, rw c.if-fits.true at is, c.in_ok-push_change.ensures, refl)

pub returns-clause-added : goal.returns-clause-added
returns-clause-added c =
    let bounds = bounds_of c.args.bounds in
    let before = locals_behind (map_types_of c.args.first.now.items) c.args.frames.now in
    let types = types_after before c.in-Some.change in
    let some = rw c.in-Some.is at (c.in_ok-change.ensures before (sym c.count_before-before.ensures)) in
    let pc = c.place_behind-pc.result in
    let does = last_fits bounds c.args.frames.now _ types pc c.fits.result c.fits.ensures.fits c.in_ok-push_change.ensures in
    let is = fitting bounds c.args.place before (entry_of c.args.entry.now) types pc c.fits.result some c.place_behind-pc.ensures does in
    rw c.if-fits.false at is
