use Rattle.std.proofs.Common.{ap, sym, ◌∙◌}
use Rattle.link_model.specs.WorldOf.{class_of}
use Rattle.jv_types.specs.Loaded.{loaded_of}
use Rattle.class_world.specs.World.{names_of, class_of_origin}
use Rattle.stackmap_verify.proofs.Members.{boot_passes, class_read, class_held}
use Rattle.stackmap_verify.proofs.methods.verify_class.Goals as goal

pub returns-in-Boot : goal.returns-in-Boot
returns-in-Boot g c =
    let w = c.args.world.now in
    let told = c.class-class.ensures in (
      told.0,
      told.1,
      boot_passes w (names_of w) c.in-Boot.field-0 told.0
          (ap (class_of_origin (names_of w)) (sym c.in-Boot.is) ∙ told.2.origin),
    )

pub verify_members-requires-clause-class : goal.verify_members-requires-clause-class
verify_members-requires-clause-class g c =
    class_held c.args.world.now c.in-Program.loaded c.class-class.result.now c.args.class.0 c.class-class.ensures c.in-Program.is

pub returns-in-Program : goal.returns-in-Program
returns-in-Program g c = (
  class_of (loaded_of c.in-Program.loaded),
  class_read c.args.world.now c.in-Program.loaded c.class-class.result.now c.args.class.0 c.class-class.ensures c.in-Program.is,
  c.verify_members.ensures,
)
