-- Which code of the definitions a `CodeBody` is.
use Rattle.std.specs.Prelude.{ℕ, map}
use Rattle.jv_types.specs.declared.code.Handler.{Handler}
use Rattle.jv_types.specs.declared.code.CodeBody.{CodeBody}
use Rattle.jv_model.specs.Code as model
pub use Rattle.jv_types.specs.MapFrame.{map_type_of, map_types_of, frame_of}

abbrev pub handler_of : Handler → model.Handler ℕ
handler_of row = record { from = row.from; to = row.to; target = row.target; catch = row.catch }

abbrev pub body_of : CodeBody → model.Body ℕ
body_of body = record {
  max_stack = body.max_stack;
  max_locals = body.max_locals;
  instructions = body.instructions;
  handlers = map handler_of body.handlers.items;
  frames = body.frames;
}
