-- The kind of a fault, handed on as an error.
use Rattle.std.proofs.Common.{◌≡◌, Result, Ok, Err}
use Rattle.std.specs.Prelude.{IsErr, IsErrAnd}
use Rattle.jv_model.specs.Refusal as model
use Rattle.jv_types.specs.declared.refusal.LineKind.{LineKind}
use Rattle.jv_types.specs.Refusal.{line_kind_of}
use Rattle.asm_lines.specs.declared.error.ReadError.{ReadError}
use Rattle.asm_lines.specs.declared.error.ReadError.TheVariants.{Line, NoMemory}
use Rattle.asm_lines.specs.Told.{Tells}

tells_kind : {X Y : Type 0} (view : X → Y) (error : ReadError) (kind : LineKind) (read : Result Y model.LineKind)
    → error ≡ Line kind → read ≡ Err (line_kind_of kind) → Tells view (Err error) read
tells_kind view (Line other) kind read is told =
    let same : other ≡ kind = cc in rw same told
tells_kind view NoMemory kind read is told = absurd cc

pub tells_fault : {X Y : Type 0} (view : X → Y) (result : Result X ReadError) (kind : LineKind) (read : Result Y model.LineKind)
    → IsErr result × IsErrAnd result (λ error. error ≡ Line kind) → read ≡ Err (line_kind_of kind) → Tells view result read
tells_fault view (Ok x) kind read is told = absurd cc
tells_fault view (Err error) kind read is told = tells_kind view error kind read is.1 told
