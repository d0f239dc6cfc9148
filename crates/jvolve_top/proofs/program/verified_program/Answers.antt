use Rattle.class_loader.specs.Items.{classes_in}
use Rattle.jvolve_top.proofs.ProgramLemmas.{has_updates, program_is}
use Rattle.jvolve_top.proofs.program.verified_program.Goals as goal

pub returns-clause-program : goal.returns-clause-program
returns-clause-program c =
    rw (
      has_updates c.args.manifest.now.items.items c.has_update.result
          (rw c.as_slice.ensures at c.has_update.ensures),
      ← c.in_ok-main.ensures,
    )
    (program_is c.in_ok-main.main.items (classes_in c.args.classes) c.in_ok-_world._world
    c.has_update.result c.in_ok-_world.ensures.placed c.in_ok-_world.ensures.own)
