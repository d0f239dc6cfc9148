use Rattle.std.proofs.Common.{◌+◌, ap, ◌∙◌, refl, arith}
use Rattle.std.proofs.lemmas.List.{take_all}
use Rattle.code_marks.specs.Marks.{methods_in, code_count}
use Rattle.code_marks.proofs.Codes.{marks_begin, next_mark, inside, all_marks}
use Rattle.code_marks.proofs.marks.marks_of.Goals as goal

pub loop-index-init : goal.loop-index-init
loop-index-init c = record {
  inside = omega arith;
  so_far = marks_begin (methods_in c.args.origin.now) c.args.base c.args.version _ _ c.new-row.ensures refl;
}

pub loop-index-preserved : goal.loop-index-preserved
loop-index-preserved c =
    let coded = c.has_code-is_coded.ensures in
    record {
      inside = omega (arith, inside (methods_in c.args.origin.now) c.loop-index.index coded.0 coded.1 c.has_code-is_coded.result coded.2);
      so_far = next_mark (methods_in c.args.origin.now) c.args.base c.args.version c.loop-index.index c.loop-index.row.items _ c.loop-index.body _
          c.loop-index.invariant.so_far coded.0 c.has_code-is_coded.result coded.1 coded.2 c.mark_of.result c.mark_of.ensures c.in_ok-push.ensures.ok c.in_ok-body.ensures;
    }

pub returns-clause-row : goal.returns-clause-row
returns-clause-row c =
    all_marks (methods_in c.args.origin.now) c.args.base c.args.version c.loop-index.index c.loop-index.row.items c.loop-index.body
    (omega (arith, c.loop-index.invariant.inside, c.method_count-index-end.ensures)) c.loop-index.invariant.so_far

pub returns-clause-next : goal.returns-clause-next
returns-clause-next c =
    let methods = methods_in c.args.origin.now in
    c.loop-index.invariant.so_far.body_is
    ∙ ap (λ l. c.args.base + code_count l) (take_all c.loop-index.index methods (omega (arith, c.method_count-index-end.ensures)))
