use Rattle.std.proofs.Common.{◌∙◌, sym, ap, map, List, refl, option_map}
use Rattle.jv_model.specs.Partial.{first_of}
use Rattle.link_model.specs.WorldOf.{class_of}
use Rattle.link_model.specs.ClassFaults.{method_fault}
use Rattle.jv_types.specs.Loaded.{loaded_of}
use Rattle.jv_types.specs.Refusal.{cause_of}
use Rattle.jv_types.specs.declared.loaded.Loaded.{Loaded}
use Rattle.class_faults.proofs.Firsts.{IsFirst, first_here, first_later}
use Rattle.class_faults.proofs.methods.first_wrong_method.Goals as goal

of_all : IsFirst (λ (l : Loaded). method_fault (class_of (loaded_of l))) (λ (ls : List Loaded). first_of method_fault (map class_of (map loaded_of ls)))
of_all = record { none = refl; more = λ l ls. refl }

pub returns-in-Some : goal.returns-in-Some
returns-in-Some c =
    first_here _ _ of_all c.args.classes.now c.loop-class.class-index c.class-item.result _ _ c.loop-class-test.true
    c.class-item.is (ap (option_map cause_of) (sym c.in-Some.is) ∙ c.in_ok-fault.ensures) c.loop-class.invariant

pub loop-class-preserved : goal.loop-class-preserved
loop-class-preserved c =
    first_later _ _ of_all c.args.classes.now c.loop-class.class-index c.class-item.result _ c.loop-class-test.true
    c.class-item.is (ap (option_map cause_of) (sym c.in_default.is) ∙ c.in_ok-fault.ensures) c.loop-class.invariant
