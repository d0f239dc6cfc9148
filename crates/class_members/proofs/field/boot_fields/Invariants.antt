use Rattle.std.proofs.Common.{◌≡◌, ◌++◌, map, drop}
use Rattle.jv_types.specs.Boot.{boot_field_of}
use Rattle.class_members.specs.Members.{kept_of, field_kept}
use Rattle.class_members.proofs.field.boot_fields.Given as goal

-- the rows so far, and those of the fields that are left
abbrev pub invariant-loop-field : goal.invariant-loop-field
invariant-loop-field l =
    map kept_of l.rows.items ++ map field_kept (map boot_field_of (drop l.field-index l.field-items))
    ≡ map field_kept (map boot_field_of l.field-items)
