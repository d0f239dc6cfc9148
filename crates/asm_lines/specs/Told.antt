-- What an answer about a line says of the definitions.
use Rattle.std.specs.Prelude.{◌≡◌, Result, Ok, Err}
use Rattle.jv_model.specs.Refusal as model
use Rattle.jv_types.specs.declared.refusal.LineKind.{LineKind}
use Rattle.jv_types.specs.Refusal.{line_kind_of}
use Rattle.asm_lines.specs.declared.error.ReadError.{ReadError}
use Rattle.asm_lines.specs.declared.error.ReadError.TheVariants.{Line, NoMemory}

-- what was read, seen by view, or the kind of the least fault
abbrev pub told : {X Y : Type 0} → (X → Y) → Result X LineKind → Result Y model.LineKind
told view (Ok x) = Ok (view x)
told view (Err kind) = Err (line_kind_of kind)

-- The same where memory may run out, which says nothing of the line.
abbrev pub Tells : {X Y : Type 0} → (X → Y) → Result X ReadError → Result Y model.LineKind → Type 0
Tells view (Ok x) read = read ≡ Ok (view x)
Tells view (Err (Line kind)) read = read ≡ Err (line_kind_of kind)
Tells view (Err NoMemory) read = Unit {0}
