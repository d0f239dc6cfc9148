use Rattle.std.proofs.Common.{◌∙◌, sym, ap, option_map}
use Rattle.use_faults.proofs.Flags.{some_read, none_read, program_field}
use Rattle.use_faults.proofs.members.field_flags.Goals as goal

pub returns-in-Some-get : goal.returns-in-Some-get
returns-in-Some-get c names =
    let found = c.in-Some-get.ensures.lookup in
    sym (program_field names c.args.class.now.origin c.in-Program.loaded c.in-Program.is c.args.field
    ∙ ap (option_map _) (some_read c.in-Program.loaded.file.fields.items _ c.args.field c.in-Some-get.field.now
    c.as_slice-in-Program.ensures found.1 found.3.0))

pub returns-in-None-get : goal.returns-in-None-get
returns-in-None-get c names =
    sym (program_field names c.args.class.now.origin c.in-Program.loaded c.in-Program.is c.args.field
    ∙ ap (option_map _) (none_read c.in-Program.loaded.file.fields.items _ c.args.field
    c.as_slice-in-Program.ensures c.in-None-get.ensures.lookup.3))
