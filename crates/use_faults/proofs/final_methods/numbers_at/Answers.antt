use Rattle.std.proofs.Common.{◌∙◌, Some, ap, sym, subst}
use Rattle.std.proofs.lemmas.Result.{IfOk-weaker}
use Rattle.world_model.specs.World.{Class}
use Rattle.class_world.specs.World.{names_of, class_of_origin}
use Rattle.class_world.specs.declared.class_info.Origin.TheVariants.{Boot}
use Rattle.use_faults.specs.Finals.{AreFinals}
use Rattle.use_faults.proofs.FinalNumbers.{boot_finals, grows_self}
use Rattle.use_faults.proofs.final_methods.numbers_at.Goals as goal

pub numbers_of-requires : goal.numbers_of-requires
numbers_of-requires c =
    let told = c.class.ensures in
    told.1 ∙ ap Some (sym told.2.origin ∙ ap (class_of_origin (names_of c.args.world.now)) c.in-Program.is)

pub returns-in-Boot : goal.returns-in-Boot
returns-in-Boot c =
    let told = c.class.ensures in
    let entries = c.args.signatures.now.keys in
    let is_boot = sym (ap (class_of_origin (names_of c.args.world.now)) c.in-Boot.is) ∙ told.2.origin in
    record {
      grows = grows_self entries;
      numbers = (
        told.0,
        told.1,
        subst (λ (class : Class). AreFinals entries class c.new.result.items) is_boot
            (subst (AreFinals entries (class_of_origin (names_of c.args.world.now) (Boot c.in-Boot.field-0))) (sym c.new.ensures)
            (boot_finals (names_of c.args.world.now) c.in-Boot.field-0 entries)),
      );
    }

pub returns-in-Program : goal.returns-in-Program
returns-in-Program c =
    let told = c.class.ensures in
    let at = told.1 ∙ ap Some (sym told.2.origin ∙ ap (class_of_origin (names_of c.args.world.now)) c.in-Program.is) in
    record {
      grows = c.numbers_of.ensures.grows;
      numbers = IfOk-weaker c.numbers_of.result _ _ (λ numbers are. (_, at, are)) c.numbers_of.ensures.numbers;
    }
