use Rattle.std.proofs.Common.{◌≡◌, ◌∙◌, length, sym}
use Rattle.std.specs.List.{list_any}
use Rattle.std.proofs.lemmas.Bool.Decides.{Decides-eqb}
use Rattle.jv_types.specs.ClassData.{pool_of}
use Rattle.use_faults.specs.Finals.{has_mark}
use Rattle.use_faults.proofs.Marks.{none_overrides, marked_overrides}
use Rattle.use_faults.proofs.overrides.one_overrides_final.Goals as goal

pub returns-then-is_empty : goal.returns-then-is_empty
returns-then-is_empty c =
    let classes = c.in_ok-classes.classes.items in
    let none : length classes ≡ 0 = (Decides-eqb (length classes) 0).0 (sym c.is_empty.ensures ∙ c.if-is_empty.true) in
    none_overrides c.args.world.now c.args.finals.now c.args.superclass classes (pool_of c.args.pool.now) c.args.methods.now
    c.in_ok-classes.ensures none

pub returns : goal.returns
returns c =
    let finals = c.args.finals.now in
    let classes = c.in_ok-classes.classes.items in
    let marks = c.in_ok-marks.marks.items in
    c.declares_marked.ensures
    ∙ (λ i. list_any (has_mark finals.declared.items (c.deref.ensures.value i)) (c.as_slice.ensures i))
    ∙ marked_overrides c.args.world.now finals c.args.superclass classes (pool_of c.args.pool.now) c.args.methods.now
    c.in_ok-classes.ensures marks c.in_ok-marks.ensures
