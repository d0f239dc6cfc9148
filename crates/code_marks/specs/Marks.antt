-- Marks of the code of methods.
use Rattle.std.specs.Prelude.{◌≡◌, ℕ, ◌+◌, ◌<◌, List, [], ◌∷◌, ◌++◌, Bool, Option, Some, None, if◌then◌else◌, is_some, length, filter, filter_map, flat_map, take, slice_get, option_and_then}
use Rattle.jv_model.specs.Operand.{Operand}
use Rattle.jv_model.specs.Code.{Body}
use Rattle.world_model.specs.World.{World, Class, Method}
use Rattle.world_model.specs.LookUp.{Found}
use Rattle.jv_types.specs.declared.number.MethodNo.{MethodNo}
use Rattle.class_world.specs.World.{class_of_origin, method_at}
use Rattle.class_world.specs.declared.class_info.Origin.{Origin}
use Rattle.code_store.specs.declared.mark.CodeMark.{CodeMark}

-- the methods of a class, which name no class by number
abbrev pub methods_in : Origin → List Method
methods_in origin = (class_of_origin [] origin).methods

abbrev pub is_coded : Method → Bool
is_coded method = is_some method.code

-- how many of these methods have code
abbrev pub code_count : List Method → ℕ
code_count methods = length (filter is_coded methods)

abbrev pub count_of : Bool → ℕ
count_of has_code = if has_code then 1 else 0

-- the mark that shows the code of that number, where a method has code
abbrev pub mark_if : Bool → ℕ → ℕ → Option CodeMark
mark_if has_code body version = if has_code then Some (record { body = body; version = version }) else None

-- the mark of the method at an index, where it has code
abbrev pub mark_for : List Method → ℕ → ℕ → ℕ → Option CodeMark
mark_for methods base version index =
    option_and_then (λ (m : Method). mark_if (is_coded m) (base + code_count (take index methods)) version) (slice_get methods index)

-- There is a place for each method.
pub record AreMarks (methods : List Method) (base version : ℕ) (row : List (Option CodeMark)) : Type 0 where
  pub count : length row ≡ length methods
  pub each : (index : ℕ) → index < length methods → slice_get row index ≡ Some (mark_for methods base version index)

abbrev pub Rows : Type 0
Rows = List (List (Option CodeMark))

-- The marks of one class more.
pub record AddsMarks (methods : List Method) (base version : ℕ) (old new : Rows) : Type 0 where
  pub row : List (Option CodeMark)
  pub added : new ≡ old ++ row ∷ []
  pub marks : AreMarks methods base version row

abbrev pub mark_at : Rows → MethodNo → Option CodeMark
mark_at rows method =
    option_and_then (λ (o : Option CodeMark). o)
    (option_and_then (λ (row : List (Option CodeMark)). slice_get row method.index) (slice_get rows method.class.0))

-- ---- the marks of a world

-- the codes of the methods of classes, class by class
abbrev pub class_codes : Class → List (Body Operand)
class_codes class = filter_map (λ (m : Method). m.code) class.methods

abbrev pub codes_of : List Class → List (Body Operand)
codes_of classes = flat_map class_codes classes

-- how many codes the classes before that number have
abbrev pub codes_before : World → ℕ → ℕ
codes_before world class = length (codes_of (take class world.classes))

-- There are the marks of each class, whose first code is the next one after those of the classes before it; all are of
-- version 0.
pub record AreWorldMarks (world : World) (rows : Rows) : Type 0 where
  pub count : length rows ≡ length world.classes
  pub each : (class : ℕ) (c : Class) (row : List (Option CodeMark)) → slice_get world.classes class ≡ Some c
      → slice_get rows class ≡ Some row → AreMarks c.methods (codes_before world class) 0 row

-- what a mark shows of these codes
abbrev pub shown : List (Body Operand) → Option CodeMark → Option (Body Operand)
shown codes mark = option_and_then (λ (m : CodeMark). slice_get codes m.body) mark

-- The mark of each method shows the method's code, and a method without code has none.
abbrev pub ShowCodes : World → Rows → Type 0
ShowCodes world rows = (method : MethodNo) (found : Found Method) → method_at world method ≡ Some found
    → shown (codes_of world.classes) (mark_at rows method) ≡ found.member.code
