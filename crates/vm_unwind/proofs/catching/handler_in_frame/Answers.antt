use Rattle.std.proofs.Common.{◌≡◌, ◌<◌, Some, length, option_map}
use Rattle.jv_types.specs.declared.number.Pc.{Pc}
use Rattle.class_world.specs.World.{name_at}
use Rattle.thread_frames.specs.Frames.{Shown, shown, frame_at}
use Rattle.vm_unwind.specs.Catching.{frames_of}
use Rattle.vm_unwind.proofs.Searching.{of_thread, method_known, found_there, steps_there}
use Rattle.vm_unwind.proofs.catching.handler_in_frame.Goals as goal

pub find_handler-requires-clause-method : goal.find_handler-requires-clause-method
find_handler-requires-clause-method g c =
    let r = c.frame-frame.result in
    let view : Shown = record { code = r.code; method = r.method; pc = r.pc.0; held = r.held; locals = r.locals.now; stack = r.stack.now } in
    let all = c.args.stacks.now in
    let t = c.args.t.0 in
    let there = of_thread (λ frames. option_map shown (frame_at frames c.args.depth) ≡ Some view) all t c.frame-frame.ensures in
    let inside = of_thread (λ frames. c.args.depth < length frames) all t c.requires.depth in
    method_known c.args.world.now (frames_of all t) c.args.depth view there inside c.requires.methods

pub returns-clause-found : goal.returns-clause-found
returns-clause-found g c =
    let r = c.frame-frame.result in
    let view : Shown = record { code = r.code; method = r.method; pc = r.pc.0; held = r.held; locals = r.locals.now; stack = r.stack.now } in
    let all = c.args.stacks.now in
    let t = c.args.t.0 in
    let there = of_thread (λ frames. option_map shown (frame_at frames c.args.depth) ≡ Some view) all t c.frame-frame.ensures in
    let inside = of_thread (λ frames. c.args.depth < length frames) all t c.requires.depth in
    let known = method_known c.args.world.now (frames_of all t) c.args.depth view there inside c.requires.methods in
    found_there c.args.world.now (name_at c.args.world.now c.args.class) (frames_of all t) c.args.depth view
    (option_map (λ (target : Pc). target.0) c.find_handler.result) there known c.find_handler.ensures.found

pub returns-clause-steps : goal.returns-clause-steps
returns-clause-steps g c =
    let r = c.frame-frame.result in
    let view : Shown = record { code = r.code; method = r.method; pc = r.pc.0; held = r.held; locals = r.locals.now; stack = r.stack.now } in
    let all = c.args.stacks.now in
    let t = c.args.t.0 in
    let there = of_thread (λ frames. option_map shown (frame_at frames c.args.depth) ≡ Some view) all t c.frame-frame.ensures in
    let inside = of_thread (λ frames. c.args.depth < length frames) all t c.requires.depth in
    let known = method_known c.args.world.now (frames_of all t) c.args.depth view there inside c.requires.methods in
    steps_there c.args.world.now (name_at c.args.world.now c.args.class) (frames_of all t) c.args.depth view
    c.args.steps.now c.find_handler.new.steps there known c.find_handler.ensures.steps
