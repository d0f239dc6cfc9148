-- Where the branches of code and the rows of its exception table lead (JVMS 4.7.3, 4.9.1).
use Rattle.std.specs.Prelude.{ℕ, ◌+◌, List, [], ◌∷◌, Bool, true, ◌&&◌, ◌||◌, if◌then◌else◌, ◌==◌, nat_lt, Option, Some, None, find}
use Rattle.std.specs.List.{list_any, list_all}
use Rattle.jv_model.specs.Refusal.{Cause, wrong_target, wrong_handler}
use Rattle.jv_model.specs.ClassData.{Const}
use Rattle.jv_model.specs.Flow.{targets_of}
use Rattle.jv_model.specs.Code.{Placed, Handler}
use Rattle.jv_model.specs.ConstantPool.{names, class_tag}

-- the instruction that stands at the place
abbrev pub placed_at : {A : Type 0} → List (Placed A) → ℕ → Option (Placed A)
placed_at instructions place = find (λ placed. placed.pc == place) instructions

-- an instruction stands at the place
abbrev pub is_start : List (Placed ℕ) → ℕ → Bool
is_start instructions place = list_any (λ (p : Placed ℕ). p.pc == place) instructions

-- the instruction branches to instructions
abbrev pub is_led : List (Placed ℕ) → Placed ℕ → Bool
is_led instructions placed = list_all (is_start instructions) (targets_of placed.instruction)

-- the first of these instructions that branches elsewhere
unfoldable pub target_fault : ℕ → List (Placed ℕ) → List (Placed ℕ) → Option Cause
target_fault method instructions [] = None
target_fault method instructions (placed ∷ others) =
    if is_led instructions placed then target_fault method instructions others
    else Some (wrong_target method placed.pc)

-- the type that a row catches is a class
abbrev pub is_caught : List Const → Option ℕ → Bool
is_caught pool None = true
is_caught pool (Some index) = names pool class_tag index

-- a row of the exception table is about a part of the code, which has that length
abbrev pub is_handler : List Const → ℕ → List (Placed ℕ) → Handler ℕ → Bool
is_handler pool end instructions row =
    nat_lt row.from row.to && is_start instructions row.from
    && (is_start instructions row.to || (row.to == end)) && is_start instructions row.target
    && is_caught pool row.catch

-- the first row, from that number on, that isn't
unfoldable pub handler_fault :
    List Const → ℕ → ℕ → List (Placed ℕ) → ℕ → List (Handler ℕ) → Option Cause
handler_fault pool method end instructions index [] = None
handler_fault pool method end instructions index (row ∷ rows) =
    if is_handler pool end instructions row
    then handler_fault pool method end instructions (index + 1) rows
    else Some (wrong_handler method index)
