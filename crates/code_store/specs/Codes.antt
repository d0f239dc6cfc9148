-- Which code of a table stored code is.
use Rattle.std.specs.Prelude.{◌≡◌, ℕ, List, [], ◌∷◌, Option, Some, None, slice_get}
use Rattle.jv_model.specs.Operand.{Operand}
use Rattle.jv_model.specs.Code.{Body}
use Rattle.code_model.specs.Names.{named}
use Rattle.jv_types.specs.Code.{body_of}
use Rattle.jv_types.specs.ClassData.{pool_of}
use Rattle.jv_types.specs.Sequence.{Sequence}
use Rattle.jv_types.specs.declared.code.CodeBody.{CodeBody}
use Rattle.jv_types.specs.declared.class_data.Const.{Const}
use Rattle.code_store.specs.Order.{CanRun}
use Rattle.code_store.specs.declared.store.StoredCode.{StoredCode}

-- It's the code of a method, whose descriptor isn't told, in a class with this constant pool; and it
-- can run.
pub record Shows (pool : List Const) (body : CodeBody) (code : Body Operand) : Type 0 where
  pub descriptor : List ℕ
  pub same : code ≡ named (pool_of pool) descriptor (body_of body)
  pub runs : CanRun (body_of body)

-- the same of stored code, whose pool is one of these
pub record IsStored (pools : List (Sequence Const)) (stored : StoredCode) (code : Body Operand)
    : Type 0 where
  pub pool : Sequence Const
  pub there : slice_get pools stored.pool ≡ Some pool
  pub shows : Shows pool.items stored.body code

abbrev pub AreStored : List (Sequence Const) → List StoredCode → List (Body Operand) → Type 0
AreStored pools [] [] = Unit {0}
AreStored pools (stored ∷ others) (code ∷ codes) =
    IsStored pools stored code × AreStored pools others codes
AreStored pools other codes = ⊥

-- The code that a table has at a number, if it has one, is of this body and pool.
abbrev pub ShowsCode : Option (Body Operand) → List Const → CodeBody → Type 0
ShowsCode None pool body = ⊥
ShowsCode (Some code) pool body = Shows pool body code
