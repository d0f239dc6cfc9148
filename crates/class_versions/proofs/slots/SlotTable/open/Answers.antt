use Rattle.std.proofs.Common.{◌≡◌, ◌≤◌, ◌++◌, ◌∷◌, [], ℕ, List, length, map, ap, sym, subst, ◌∙◌, arith}
use Rattle.std.proofs.lemmas.List.{length-map, take_all}
use Rattle.jv_types.specs.declared.number.MethodNo.{MethodNo}
use Rattle.class_versions.specs.Slots.{HaveSlots, methods_to, methods_of, row_of, signatures_of}
use Rattle.class_versions.proofs.Counting.{counts_more, even, have_slots, one_more}
use Rattle.class_versions.proofs.slots.SlotTable.open.Goals as goal

pub loop-class-preserved : goal.loop-class-preserved
loop-class-preserved c =
    let rows = c.args.signatures.now in
    let class = c.loop-class.class in
    record {
      counts = c.in_ok-push.ensures.ok ∙ (λ i. c.loop-class.invariant.counts i ++ c.in_ok-count.ensures.count i ∷ [])
          ∙ counts_more rows class (omega (arith, c.classes-class-end.ensures));
      methods = c.in_ok-count.ensures.methods
          ∙ ap (λ (l : List MethodNo). l ++ methods_to (record { 0 = class }) (length (row_of rows class))) c.loop-class.invariant.methods
          ∙ ap (methods_of rows) (sym (one_more class));
      rows = c.in_ok-count.ensures.numbers ∙ ap (λ (l : List ℕ). l ++ row_of rows class) c.loop-class.invariant.rows
          ∙ ap (signatures_of rows) (sym (one_more class));
    }

pub invariant_of-result : goal.invariant_of-result
invariant_of-result c =
    ap (λ (l : List ℕ). length l) c.loop-class.invariant.rows
    ∙ even c.args.signatures.now c.loop-class.class (omega (arith, c.classes-class-end.ensures))
    ∙ sym (ap (λ (l : List MethodNo). length l) c.loop-class.invariant.methods)

pub returns : goal.returns
returns c =
    let rows = c.args.signatures.now in
    let last : c.loop-class.class ≡ length rows = omega (arith, c.classes-class-end.ensures) in
    let past : length (map length rows) ≤ c.loop-class.class = omega (arith, last, length-map rows length) in
    let counts = c.loop-class.invariant.counts ∙ take_all c.loop-class.class (map length rows) past in
    let methods = c.loop-class.invariant.methods ∙ ap (methods_of rows) last in
    let signatures = c.loop-class.invariant.rows ∙ ap (signatures_of rows) last in
    let is : record { counts = c.loop-class.numbers; methods = c.loop-class.methods.items; signatures = c.loop-class.rows.items }
    ≡ record { counts = map length rows; methods = methods_of rows (length rows); signatures = signatures_of rows (length rows) } =
    λ i. record { counts = counts i; methods = methods i; signatures = signatures i } in
    subst (HaveSlots rows) (sym is) (have_slots rows)
