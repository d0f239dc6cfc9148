use Rattle.std.proofs.Common.{◌<◌, ◌∙◌, sym, ap, length, option_map, arith}
use Rattle.std.proofs.lemmas.Option.{get_or_from_slice_get}
use Rattle.link_model.specs.UseFaults.{use_fault}
use Rattle.jv_types.specs.Refusal.{cause_of}
use Rattle.class_faults.proofs.Firsts.{first_here, first_later}
use Rattle.use_faults.proofs.Programs.{first_of_loaded}
use Rattle.use_faults.proofs.uses.first_unresolved.Goals as goal

pub returns-in-Some : goal.returns-in-Some
returns-in-Some c =
    let classes = c.args.world.now.classes in
    let told = c.in_ok-fault.ensures in
    let inside : c.loop-class.class < length classes = omega arith in
    first_here _ _ (first_of_loaded (use_fault c.args.world.now)) classes c.loop-class.class told.0 _ _ inside
    (sym (get_or_from_slice_get classes c.loop-class.class told.0 told.0 told.1))
    (ap (option_map cause_of) (sym c.in-Some.is) ∙ told.2) c.loop-class.invariant

pub loop-class-preserved : goal.loop-class-preserved
loop-class-preserved c =
    let classes = c.args.world.now.classes in
    let told = c.in_ok-fault.ensures in
    let inside : c.loop-class.class < length classes = omega arith in
    first_later _ _ (first_of_loaded (use_fault c.args.world.now)) classes c.loop-class.class told.0 _ inside
    (sym (get_or_from_slice_get classes c.loop-class.class told.0 told.0 told.1))
    (ap (option_map cause_of) (sym c.in_default.is) ∙ told.2) c.loop-class.invariant
