use Rattle.link_model.specs.WorldOf.{class_of}
use Rattle.link_model.specs.ClassFaults.{is_wrong_method}
use Rattle.jv_types.specs.Loaded.{loaded_of}
use Rattle.class_faults.proofs.WrongMethods.{NoneBefore}
use Rattle.class_faults.proofs.methods.wrong_method.Given as goal

-- none so far is wrong
abbrev pub invariant-loop-method : goal.invariant-loop-method
invariant-loop-method l =
    NoneBefore (is_wrong_method (class_of (loaded_of l.class))) l.method (class_of (loaded_of l.class)).methods
