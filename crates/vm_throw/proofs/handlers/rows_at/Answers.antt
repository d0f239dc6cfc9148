use Rattle.std.proofs.Common.{◌≡◌, Some, map, slice_get, sym, ap, subst, ◌∙◌}
use Rattle.jv_types.specs.ClassData.{pool_of, members_of}
use Rattle.class_world.specs.World.{class_of_origin}
use Rattle.class_world.specs.declared.class_info.Origin.{Origin}
use Rattle.vm_throw.specs.Handlers.{named_row}
use Rattle.vm_throw.proofs.Tables.{boot_rows, program_rows, table_of}
use Rattle.vm_throw.proofs.handlers.rows_at.Goals as goal

pub returns-in-Boot : goal.returns-in-Boot
returns-in-Boot c names m at =
    let read = subst (λ (o : Origin). slice_get (class_of_origin names o).methods c.args.index ≡ Some m) c.in-Boot.is at in
    boot_rows c.in-Boot.field-0.methods.items c.args.index m read
    ∙ sym (ap (map (named_row (pool_of c.no_rows.result.pool.now))) c.no_rows.ensures)

pub returns-in-Some : goal.returns-in-Some
returns-in-Some c names m at =
    let loaded = c.in-Program.loaded in
    let code = c.in-Some.code.now in
    let read = subst (λ (o : Origin). slice_get (class_of_origin names o).methods c.args.index ≡ Some m) c.in-Program.is at in
    program_rows (pool_of loaded.file.pool.items) (members_of loaded.file.methods.items) loaded.codes.items c.args.index m read
    ∙ sym (ap (table_of (pool_of loaded.file.pool.items)) c.in-Some.ensures)
    ∙ ap (λ pool. map (named_row (pool_of pool)) code.handlers.items) (sym c.as_slice.ensures)
    ∙ ap (map (named_row (pool_of c.as_slice.result.now))) (sym c.as_slice-in-Some.ensures)

pub returns-in-None : goal.returns-in-None
returns-in-None c names m at =
    let loaded = c.in-Program.loaded in
    let read = subst (λ (o : Origin). slice_get (class_of_origin names o).methods c.args.index ≡ Some m) c.in-Program.is at in
    program_rows (pool_of loaded.file.pool.items) (members_of loaded.file.methods.items) loaded.codes.items c.args.index m read
    ∙ sym (ap (table_of (pool_of loaded.file.pool.items)) c.in-None.ensures)
    ∙ sym (ap (map (named_row (pool_of c.no_rows-in-None.result.pool.now))) c.no_rows-in-None.ensures)
