use Rattle.std.proofs.Common.{◌≡◌, ◌-◌, ◌++◌, ℕ, nat_le, Bool, Some, None, if◌then◌else◌, drop, length, sym, ap, ◌∙◌, arith}
use Rattle.typing_model.specs.VerificationType as model
use Rattle.type_rules.specs.Frames.{Types, types_of, frame_of}
use Rattle.instruction_types.proofs.Stacks.{pushed-by}
use Rattle.instruction_types.proofs.operands.push_all.Goals as goal

pub returns-then-not-has_room-clause-typed : goal.returns-then-not-has_room-clause-typed
returns-then-not-has_room-clause-typed c = λ w e is.
    let types = c.args.types.now in
    let old = c.args.frame.now in
    let room = c.has_room.ensures w ∙ ap (nat_le (model.words_of (types_of w types ++ types_of w old.stack))) (sym is.max_stack) in
    pushed-by w e types old c.has_room.result room
    ∙ ap (λ (b : Bool). if b then Some (frame_of w (record { locals = old.locals; stack = types ++ old.stack })) else None) c.if-not-has_room.true

pub returns-clause-typed : goal.returns-clause-typed
returns-clause-typed c = λ w e is.
    let types = c.args.types.now in
    let old = c.args.frame.now in
    let room = c.has_room.ensures w ∙ ap (nat_le (model.words_of (types_of w types ++ types_of w old.stack))) (sym is.max_stack) in
    let all_put : 0 ≡ length types - c.loop-number.number = omega arith in
    pushed-by w e types old c.has_room.result room
    ∙ ap (λ (b : Bool). if b then Some (frame_of w (record { locals = old.locals; stack = types ++ old.stack })) else None) c.if-not-has_room.false
    ∙ ap (λ (k : ℕ). Some (frame_of w (record { locals = old.locals; stack = drop k types ++ old.stack }))) all_put
    ∙ ap (λ (t : Types). Some (frame_of w t)) (sym c.loop-number.invariant)
