use Rattle.std.proofs.Common.{List, Option, reverse, ◌++◌, ℕ, sym, ap, ◌∙◌, arith}
use Rattle.jv_types.specs.MapFrame.{map_types_of}
use Rattle.jv_types.specs.declared.code.MapType.{MapType}
use Rattle.jv_types.specs.Frames.{types_in, rows_up_to}
use Rattle.jv_types.proofs.Rows.{walk_more, walk_ends}
use Rattle.jv_types.proofs.frames.list_types.Goals as goal

pub loop-left-preserved : goal.loop-left-preserved
loop-left-preserved c =
    let rows = c.args.rows.now.items in
    record {
      left = ap (λ (types : List MapType). types_in rows c.get-row.result.now.below ++ map_types_of (reverse types)) c.in_ok-push.ensures.ok
          ∙ walk_more rows c.requires.rows (types_in rows c.args.top) c.loop-left.types.items c.in-Some.row c.get-row.result.now
          c.get-row.ensures
          (ap (λ (left : Option ℕ). types_in rows left ++ map_types_of (reverse c.loop-left.types.items)) (sym c.in-Some.is)
          ∙ c.loop-left.invariant.left);
      inside = omega (
        arith,
        c.requires.rows.earlier c.in-Some.row c.get-row.result.now c.get-row.ensures,
        c.loop-left.invariant.inside,
        ap rows_up_to c.in-Some.is,
      );
    }

pub returns : goal.returns
returns c =
    let rows = c.args.rows.now.items in
    ap map_types_of c.reverse.ensures.items
    ∙ walk_ends rows c.requires.rows (types_in rows c.args.top) c.loop-left.types.items
    (ap (λ (left : Option ℕ). types_in rows left ++ map_types_of (reverse c.loop-left.types.items)) (sym c.in_default.is)
    ∙ c.loop-left.invariant.left)
