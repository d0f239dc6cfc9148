use Rattle.std.proofs.Common.{◌≡◌, option_map, ap, sym, ◌∙◌, arith}
use Rattle.jv_types.specs.Refusal.{cause_of}
use Rattle.class_world.specs.World.{world_of_infos}
use Rattle.class_infos.specs.Numbered.{fault_at}
use Rattle.class_infos.proofs.NoneCyclic.{none_cyclic_yet, none_cyclic_here, cyclic_here, none_cyclic_left, class_count}
use Rattle.class_infos.proofs.cycles.first_cycle.Goals as goal

pub loop-number-init : goal.loop-number-init
loop-number-init c = none_cyclic_yet (world_of_infos c.args.classes.now)

pub returns-in-Some : goal.returns-in-Some
returns-in-Some c =
    let is_number : c.in-Ok.number ≡ c.loop-number.number = omega (arith, c.in-Ok.ensures) in
    cyclic_here (world_of_infos c.args.classes.now) c.loop-number.number (cause_of c.in-Some.fault) (omega (arith, class_count c.args.classes.now))
    (sym (ap (option_map cause_of) c.in-Some.is) ∙ c.in_ok-fault.ensures ∙ ap (fault_at (world_of_infos c.args.classes.now)) is_number)
    c.loop-number.invariant

pub loop-number-preserved : goal.loop-number-preserved
loop-number-preserved c =
    let is_number : c.in-Ok.number ≡ c.loop-number.number = omega (arith, c.in-Ok.ensures) in
    none_cyclic_here (world_of_infos c.args.classes.now) c.loop-number.number (omega (arith, class_count c.args.classes.now))
    (sym (ap (option_map cause_of) c.in_default-2.is) ∙ c.in_ok-fault.ensures ∙ ap (fault_at (world_of_infos c.args.classes.now)) is_number)
    c.loop-number.invariant

pub returns : goal.returns
returns c =
    none_cyclic_left (world_of_infos c.args.classes.now) c.loop-number.number
    (omega (arith, class_count c.args.classes.now)) c.loop-number.invariant
