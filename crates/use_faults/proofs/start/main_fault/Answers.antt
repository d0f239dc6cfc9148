use Rattle.std.proofs.Common.{◌∙◌, Bool, not, sym, ap}
use Rattle.jv_model.specs.Partial.{fault_if}
use Rattle.jv_model.specs.Refusal.{no_main}
use Rattle.use_faults.proofs.Starting.{main_told, no_main_class}
use Rattle.use_faults.proofs.start.main_fault.Goals.{in_default-own_method_flags-via-in-Some-own_method_flags+else-has_flag, in_default-own_method_flags-via-in_default-own_method_flags}
use Rattle.use_faults.proofs.start.main_fault.Goals as goal

pub returns-in_default : goal.returns-in_default
returns-in_default c =
    ap (λ (b : Bool). fault_if (not b) no_main) (no_main_class c.args.world.now c.args.main.now.items c.in_default.ensures)

pub returns-in-Some-own_method_flags : goal.returns-in-Some-own_method_flags
returns-in-Some-own_method_flags c =
    let told = c.in-Some-own_method_flags.ensures in
    ap (λ (b : Bool). fault_if (not b) no_main)
    (sym c.if-has_flag.true ∙ c.has_flag.ensures
    ∙ main_told c.args.world.now c.args.main.now.items c.in-Some.class told.0 _ c.in-Some.ensures told.1 told.2)

pub returns-in_default-own_method_flags : goal.returns-in_default-own_method_flags
returns-in_default-own_method_flags c =
    elim c.in_default-own_method_flags.branch [
      | in_default-own_method_flags-via-in-Some-own_method_flags+else-has_flag w ↦
          let told = w.in-Some-own_method_flags.ensures in
          ap (λ (b : Bool). fault_if (not b) no_main)
          (sym w.if-has_flag.false ∙ w.has_flag.ensures
          ∙ main_told c.args.world.now c.args.main.now.items c.in-Some.class told.0 _ c.in-Some.ensures told.1 told.2)
      | in_default-own_method_flags-via-in_default-own_method_flags w ↦
          let told = w.in_default-own_method_flags.ensures in
          ap (λ (b : Bool). fault_if (not b) no_main)
          (main_told c.args.world.now c.args.main.now.items c.in-Some.class told.0 _ c.in-Some.ensures told.1 told.2)
    ]
