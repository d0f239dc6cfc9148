use Rattle.std.proofs.Common.{◌≡◌, ◌++◌, ◌∷◌, [], List, ℕ, take, ap, sym, subst, ◌∙◌}
use Rattle.std.specs.Prelude.{OnOk}
use Rattle.jv_model.specs.Code.{MapType}
use Rattle.jv_types.specs.Code.{map_types_of}
use Rattle.jv_types.specs.Frames.{locals_behind, last_locals}
use Rattle.code_reader.proofs.FrameLists.{behind_none, behind_last}
use Rattle.code_reader.proofs.frames.push_change.Goals as goal

pub returns-then-is_empty : goal.returns-then-is_empty
returns-then-is_empty c =
    let change = c.args.change.now in
    let frames = c.args.frames.now in
    let first = map_types_of c.args.first.now.items in
    let more = map_types_of change.locals.items in
    let locals : map_types_of c.in_ok-locals.locals.items ≡ take change.kept (locals_behind first frames) ++ more =
    c.in_ok-locals.ensures
    ∙ ap (λ (before : List (MapType ℕ)). take change.kept before ++ more)
    (sym (behind_none first frames (sym c.is_empty.ensures ∙ c.if-is_empty.true))) in
    subst (λ (types : List (MapType ℕ)). OnOk c.push.result (c.push.new.self ≡ frames ++ record {
      pc = c.args.pc;
      locals = types;
      stack = map_types_of change.stack.items;
    } ∷ [])) locals c.push.ensures.ok

pub returns : goal.returns
returns c =
    let change = c.args.change.now in
    let frames = c.args.frames.now in
    subst (λ (before : List (MapType ℕ)). OnOk c.push-2.result (c.push-2.new.self ≡ frames ++ record {
      pc = c.args.pc;
      locals = take change.kept before ++ map_types_of change.locals.items;
      stack = map_types_of change.stack.items;
    } ∷ []))
    (sym (behind_last (map_types_of c.args.first.now.items) frames (sym c.is_empty.ensures ∙ c.if-is_empty.false)))
    c.push-2.ensures.ok
