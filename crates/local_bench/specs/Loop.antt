-- The code that is timed: local 2 is counted up to local 0, and each count is added to local 1.
use Rattle.std.specs.Prelude.{◌≡◌, ℕ, List, [], ◌∷◌, pos}
use Rattle.jv_model.specs.Instruction.{of_int, load, store, increment, int_arithmetic, if_ints, return_void, Instruction}
use Rattle.jv_model.specs.Instruction as model
use Rattle.jv_model.specs.Code.{Placed}
use Rattle.jv_types.specs.declared.code.CodeBody.{CodeBody}

abbrev pub placed : ℕ → ℕ → Instruction ℕ → Placed ℕ
placed pc next instruction = record { pc = pc; next = next; instruction = instruction }

abbrev pub loop : List (Placed ℕ)
loop =
    placed 0 3 (increment 2 (pos 1)) ∷ placed 3 4 (load of_int 1) ∷ placed 4 5 (load of_int 2)
    ∷ placed 5 6 (int_arithmetic model.add) ∷ placed 6 7 (store of_int 1)
    ∷ placed 7 8 (load of_int 2) ∷ placed 8 9 (load of_int 0) ∷ placed 9 12 (if_ints model.less 0)
    ∷ placed 12 13 return_void ∷ []

pub record IsLoop (body : CodeBody) : Type 0 where
  pub room : body.max_stack ≡ 2
  pub code : body.instructions ≡ loop
