-- Code that is spelled, read or loaded can run: its instructions follow each other from place 0 on,
-- and its frame has no more words than a frame may have.
use Rattle.std.specs.Prelude.{◌≡◌, ℕ, List, Option, Some, None, Ok}
use Rattle.std.specs.List.{AllByRecursion, AllZip}
use Rattle.jv_model.specs.ClassData.{gap, Member, ClassData}
use Rattle.jv_model.specs.ConstantPool.{const_at}
use Rattle.jv_model.specs.Code.{Body}
use Rattle.code_model.specs.CodeReading.{code_of}
use Rattle.code_model.specs.SpellsCode.{SpellsCode, HasCode}
use Rattle.code_model.specs.Laws.{AreBytes}
use Rattle.code_store.specs.Order.{CanRun}

abbrev pub SpelledCodeRuns : Type 0
SpelledCodeRuns =
    (file : ClassData) (method : Member) (bytes : List ℕ) (body : Body ℕ)
    → SpellsCode file method bytes body → CanRun body

-- The pool begins with a gap, as each does, and what attributes have is bytes.
abbrev pub ReadCodeRuns : Type 0
ReadCodeRuns =
    (file : ClassData) (index : ℕ) (body : Body ℕ)
    → (const_at file.pool 0 ≡ gap) → AllByRecursion AreBytes file.methods
    → (code_of file index ≡ Ok body) → CanRun body

-- a method without code aside
abbrev pub RunsWhereThere : Option (Body ℕ) → Type 0
RunsWhereThere None = Unit {0}
RunsWhereThere (Some body) = CanRun body

abbrev pub LoadedCodesRun : Type 0
LoadedCodesRun =
    (file : ClassData) (methods : List Member) (codes : List (Option (Body ℕ)))
    → AllZip (HasCode file) methods codes → AllByRecursion RunsWhereThere codes
