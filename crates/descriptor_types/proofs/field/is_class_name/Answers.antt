use Rattle.std.proofs.Common.{◌∙◌, sym}
use Rattle.descriptor_types.proofs.Reading.{slash_first, slash_on, no_part, part_on, parts_end}
use Rattle.descriptor_types.proofs.field.is_class_name.Goals.{then-unit-eq-SLASH+else-not-begun, else-unit-eq-SLASH+else-not-is_part_unit}
use Rattle.descriptor_types.proofs.field.is_class_name.Goals as goal

pub returns-then-not-begun : goal.returns-then-not-begun
returns-then-not-begun c =
    sym (slash_first c.args.name.now c.loop-unit.unit-index c.loop-unit.begun
    c.loop-unit-test.true c.if-unit-eq-SLASH.true c.if-not-begun.true)
    ∙ c.loop-unit.invariant

pub returns-then-not-is_part_unit : goal.returns-then-not-is_part_unit
returns-then-not-is_part_unit c =
    sym (no_part c.args.name.now c.loop-unit.unit-index c.loop-unit.begun c.loop-unit-test.true
    c.if-unit-eq-SLASH.false (sym c.is_part_unit.ensures ∙ c.if-not-is_part_unit.true))
    ∙ c.loop-unit.invariant

pub loop-unit-preserved : goal.loop-unit-preserved
loop-unit-preserved c =
    elim c.if-unit-eq-SLASH.branch [
      | then-unit-eq-SLASH+else-not-begun w ↦
          rw w.begun-is (sym (slash_on c.args.name.now c.loop-unit.unit-index c.loop-unit.begun
          c.loop-unit-test.true w.if-unit-eq-SLASH.true w.if-not-begun.false)
          ∙ c.loop-unit.invariant)
      | else-unit-eq-SLASH+else-not-is_part_unit w ↦
          rw w.begun-is (sym (part_on c.args.name.now c.loop-unit.unit-index c.loop-unit.begun
          c.loop-unit-test.true w.if-unit-eq-SLASH.false
          (sym w.is_part_unit.ensures ∙ w.if-not-is_part_unit.false))
          ∙ c.loop-unit.invariant)
    ]

pub returns : goal.returns
returns c = sym (parts_end c.args.name.now c.loop-unit.unit-index c.loop-unit.begun c.loop-unit-test.false)
    ∙ c.loop-unit.invariant
