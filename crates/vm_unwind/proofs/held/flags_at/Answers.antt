use Rattle.std.proofs.Common.{◌≡◌, Some, map, slice_get, sym, subst, ◌∙◌}
use Rattle.jv_types.specs.Boot.{boot_method_of}
use Rattle.jv_types.specs.Loaded.{code_of}
use Rattle.jv_types.specs.ClassData.{pool_of}
use Rattle.class_world.specs.World.{class_of_origin}
use Rattle.class_world.specs.declared.class_info.Origin.{Origin}
use Rattle.vm_unwind.proofs.Flags.{read_flags}
use Rattle.vm_unwind.proofs.held.flags_at.Goals as goal

pub returns-in-Boot : goal.returns-in-Boot
returns-in-Boot c names m at =
    let read = subst (λ (o : Origin). slice_get (class_of_origin names o).methods c.args.index ≡ Some m) c.in-Boot.is at in
    c.boot_flags_at.ensures m (subst (λ l. slice_get (map boot_method_of l) c.args.index ≡ Some m) (sym c.as_slice.ensures) read)

pub returns-in-Program : goal.returns-in-Program
returns-in-Program c names m at =
    let loaded = c.in-Program.loaded in
    let read = subst (λ (o : Origin). slice_get (class_of_origin names o).methods c.args.index ≡ Some m) c.in-Program.is at in
    let there = read_flags (pool_of loaded.file.pool.items) loaded.file.methods.items (map code_of loaded.codes.items) c.args.index m read in
    c.read_flags_at.ensures there.0 (subst (λ l. slice_get l c.args.index ≡ Some there.0) (sym c.as_slice-in-Program.ensures) there.1)
    ∙ there.2
