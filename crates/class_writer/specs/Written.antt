-- What is written of class data, and what a failure says of them.
use Rattle.std.specs.Prelude.{◌≡◌, ℕ, List, ◌++◌, Option, Some, None, length, Result, Ok, Err}
use Rattle.jv_types.specs.Refusal.{limited_of}
use Rattle.jv_model.specs.Refusal.{Limited}
use Rattle.jv_model.specs.ClassData.{ClassData}
use Rattle.jv_model.specs.ClassBytes.{class_bytes}
use Rattle.jv_model.specs.Partial.{or_else, first_of}
use Rattle.jv_model.specs.ClassLimits.{over, first_limit}
use Rattle.class_writer.specs.declared.error.WriteClassError.{WriteClassError}
use Rattle.class_writer.specs.declared.error.WriteClassError.TheVariants.{Limit, NoMemory}

-- No list is too long for its count, and the bytes are the one spelling of the data.
abbrev pub IsWritten : ClassData → List ℕ → Type 0
IsWritten file bytes = (first_limit file ≡ None) × (bytes ≡ class_bytes file)

-- the limit that an error tells, which is none where memory was wanted
abbrev pub limit_told : WriteClassError → Option (Limited × ℕ)
limit_told (Limit what n) = Some (limited_of what, n)
limit_told NoMemory = None

-- The list that a failure names is the first that is too long. Want of memory says nothing.
abbrev pub WriteFails : WriteClassError → Option (Limited × ℕ) → Type 0
WriteFails (Limit what n) found = found ≡ Some (limited_of what, n)
WriteFails NoMemory found = Unit {0}

-- Behind the bytes from before stands a spelling in which no list is too long, or the first that is
-- too long was told.
abbrev pub Appends : Result (Unit {0}) WriteClassError → List ℕ → List ℕ → List ℕ
    → Option (Limited × ℕ) → Type 0
Appends (Ok done) before after spelling limit = (limit ≡ None) × (after ≡ before ++ spelling)
Appends (Err error) before after spelling limit = WriteFails error limit

-- the first limit that is passed in a list behind its count
abbrev pub table_limit : {A : Type 0} → Limited → (A → Option (Limited × ℕ)) → List A
    → Option (Limited × ℕ)
table_limit what item_limit items = or_else (over what (length items)) (first_of item_limit items)

-- A count is answered where it fits, and else the limit is told, and never want of memory.
abbrev pub IsCount : Result ℕ WriteClassError → Limited → ℕ → Type 0
IsCount (Ok count) what n = (over what n ≡ None) × (count ≡ n)
IsCount (Err error) what n = (over what n ≡ limit_told error) × (limit_told error ≡ Some (what, n))

-- of items that have no list in them
abbrev pub unlimited : {A : Type 0} → A → Option (Limited × ℕ)
unlimited item = None
