use Rattle.std.proofs.Common.{◌≡◌, Some, List, map, reverse, sym, subst, ap, ◌∙◌}
use Rattle.std.proofs.lemmas.List.{reverse-reverse}
use Rattle.code_model.specs.Names.{named_type}
use Rattle.typing_model.specs.VerificationType as model
use Rattle.typing_model.specs.DescriptorFrame.{map_type, as_locals, filled}
use Rattle.jv_types.specs.ClassData.{pool_of}
use Rattle.jv_types.specs.Code.{map_types_of}
use Rattle.jv_types.specs.declared.code.MapType.{MapType}
use Rattle.type_rules.specs.Types.{type_of, IsKnownType}
use Rattle.type_rules.specs.Frames.{types_of, AreKnown}
use Rattle.type_rules.proofs.Assigned.{All-reverse}
use Rattle.map_frames.proofs.Places.{max-locals, filled-types, filled-known, map-reverse}
use Rattle.map_frames.proofs.frames.map_frame.Goals as goal

pub returns-clause-same : goal.returns-clause-same
returns-clause-same c = λ e has.
    let w = c.args.world.now in
    let named = named_type (pool_of c.args.code.now.pool.now) (Some e.type) in
    let locals = as_locals (map (map_type e) (map named (map_types_of c.args.frame.now.locals.items))) in
    let operands = map (map_type e) (map named (map_types_of c.args.frame.now.stack.items)) in
    let locals_are : types_of w c.in_ok-locals.locals.items ≡ locals =
    c.in_ok-locals.ensures.same e has.has_parameters
    ∙ ap (λ (ts : List MapType). as_locals (map (map_type e) (map named (map_types_of ts)))) c.as_slice.ensures in
    let operands_are : types_of w c.in_ok-operands.operands.items ≡ operands =
    c.in_ok-operands.ensures.same e has.has_parameters
    ∙ ap (λ (ts : List MapType). map (map_type e) (map named (map_types_of ts))) c.as_slice-2.ensures in
    let filled_is : filled e locals ≡ types_of w c.new.result.locals =
    filled-types w c.in_ok-locals.locals.items c.args.code.now.body.now.max_locals e locals c.new.result.locals
    (max-locals e _ _ _ has.body) locals_are (c.new.ensures.locals ∙ c.in_ok-fill.ensures) in
    let stack_is : reverse operands ≡ types_of w c.new.result.stack =
    ap (λ (ts : List model.VerificationType). reverse ts) (sym operands_are)
    ∙ sym (ap (types_of w) c.new.ensures.stack ∙ map-reverse (type_of w) c.in_ok-operands.operands.items) in
    λ i. record { locals = filled_is i; stack = stack_is i }

pub returns-clause-known : goal.returns-clause-known
returns-clause-known c =
    let w = c.args.world.now in
    record {
      locals = filled-known w c.in_ok-locals.locals.items c.args.code.now.body.now.max_locals c.new.result.locals
          c.in_ok-locals.ensures.known (c.new.ensures.locals ∙ c.in_ok-fill.ensures);
      stack = subst (AreKnown w) (sym c.new.ensures.stack)
          (All-reverse (IsKnownType w) (reverse c.in_ok-operands.operands.items) c.in_ok-operands.operands.items
          (reverse-reverse c.in_ok-operands.operands.items) c.in_ok-operands.ensures.known);
    }
