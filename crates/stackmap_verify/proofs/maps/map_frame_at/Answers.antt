use Rattle.std.proofs.Common.{Some, ap, sym, ◌∙◌}
use Rattle.jv_types.specs.ClassData.{pool_of}
use Rattle.jv_types.specs.Code.{frame_of}
use Rattle.map_frames.specs.Linked.{HasLinkedEntries}
use Rattle.stackmap_verify.proofs.Sound.{all_there}
use Rattle.stackmap_verify.proofs.MapPlaces.{no_frame_at, frame_there, number_inside}
use Rattle.stackmap_verify.proofs.maps.map_frame_at.Goals as goal

pub returns-in_default-clause-same : goal.returns-in_default-clause-same
returns-in_default-clause-same c = λ e is. sym (no_frame_at c.args.method.now e is c.args.pc c.requires c.in_default.ensures)

pub frame-requires : goal.frame-requires
frame-requires c = number_inside c.args.method.now c.args.pc c.in-Some.number c.requires c.in-Some.ensures

pub map_frame-requires-clause-linked : goal.map_frame-requires-clause-linked
map_frame-requires-clause-linked c =
    let code = c.args.method.now.code.now in
    all_there (HasLinkedEntries c.args.method.now.world.now (pool_of code.pool.now)) code.body.now.frames c.in-Some.number
    (frame_of c.in_ok-frame.frame) c.in_ok-frame.ensures c.requires.frames

pub returns-clause-same : goal.returns-clause-same
returns-clause-same c = λ e is.
    ap Some (sym (c.in_ok-map_frame.ensures.same e is.code))
    ∙ sym (frame_there c.args.method.now e is c.args.pc c.in-Some.number c.in_ok-frame.frame c.requires c.in-Some.ensures c.in_ok-frame.ensures)
