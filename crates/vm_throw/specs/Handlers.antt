-- Rows of exception tables by the indices of their constant pool, and the handlers of a method by its number.
use Rattle.std.specs.Prelude.{ℕ, List, [], Bool, ◌&&◌, nat_le, nat_lt, Option, option_map, option_and_then, unwrap_or, length}
use Rattle.jv_model.specs.ClassData.{Const}
use Rattle.jv_model.specs.Operand.{Operand}
use Rattle.jv_model.specs.Code.{Body}
use Rattle.jv_model.specs.Code as model
use Rattle.code_model.specs.Names.{named_handler}
use Rattle.world_model.specs.World.{World, Method}
use Rattle.world_model.specs.LookUp.{Found}
use Rattle.machine_model.specs.Throwing.{catches, handler_in}
use Rattle.jv_types.specs.Code.{handler_of}
use Rattle.jv_types.specs.declared.code.Handler.{Handler}

-- a row with names in the place of indices
abbrev pub named_row : List Const → Handler → model.Handler Operand
named_row pool row = named_handler pool (handler_of row)

-- it covers the pc, and catches the class
abbrev pub takes : World → ℕ → List ℕ → model.Handler Operand → Bool
takes world pc class row = nat_le row.from pc && nat_lt pc row.to && catches world class row.catch

-- the rows of a method, where it has code
abbrev pub rows_of : Method → List (model.Handler Operand)
rows_of method = unwrap_or (option_map (λ (body : Body Operand). body.handlers) method.code) []

-- the handler in a method's code, where it has code
abbrev pub handler_found : World → Method → ℕ → List ℕ → Option ℕ
handler_found world method pc class = option_and_then (λ body. handler_in world body pc class) method.code
