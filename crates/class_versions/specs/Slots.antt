-- A number for each method of some classes.
use Rattle.std.specs.Prelude.{◌≡◌, ℕ, zero, suc, List, [], ◌∷◌, ◌++◌, Option, Some, None, if◌then◌else◌, nat_lt, slice_get, get_or, length, map, option_and_then}
use Rattle.jv_types.specs.declared.number.ClassNo.{ClassNo}
use Rattle.jv_types.specs.declared.number.MethodNo.{MethodNo}
use Rattle.member_numbers.specs.Numbers.{number_of}
use Rattle.class_methods.specs.Signatures.{Numbers, signature_at}

-- What contracts see of a `SlotTable`. A slot stands for a method's class, name and descriptor: no class has two methods of
-- the same name and descriptor, so each method has a slot of its own.
pub record Slots : Type 0 where
  -- how many methods each class has
  pub counts : List ℕ
  -- the method of each slot
  pub methods : List MethodNo
  -- the number of its name and descriptor, which methods of other classes may share
  pub signatures : List ℕ

abbrev pub slot_in : List ℕ → MethodNo → Option ℕ
slot_in counts method =
    option_and_then (λ count. if nat_lt method.index count then Some (number_of counts method.class.0 method.index) else None)
    (slice_get counts method.class.0)

-- the slot of a method, where it's there
abbrev pub slot_of : Slots → MethodNo → Option ℕ
slot_of slots method = slot_in slots.counts method

-- the method of a slot, where it's there
abbrev pub method_of : Slots → ℕ → Option MethodNo
method_of slots slot = slice_get slots.methods slot

-- The slot of a method has that method, and no other slot has it.
pub record AreSlots (slots : Slots) : Type 0 where
  pub each_method : (method : MethodNo) (slot : ℕ) → slot_of slots method ≡ Some slot → method_of slots slot ≡ Some method
  pub each_slot : (slot : ℕ) (method : MethodNo) → method_of slots slot ≡ Some method → slot_of slots method ≡ Some slot

-- The slots of methods with these signatures.
pub record HaveSlots (rows : Numbers) (slots : Slots) : Type 0 where
  pub counts : slots.counts ≡ map length rows
  pub are : AreSlots slots
  pub signatures : (slot : ℕ) (method : MethodNo) → method_of slots slot ≡ Some method
      → slice_get slots.signatures slot ≡ signature_at rows method

-- ---- the methods in the order of classes

-- the first so many methods of a class
abbrev pub methods_to : ClassNo → ℕ → List MethodNo
methods_to class zero = []
methods_to class (suc n) = methods_to class n ++ record { class = class; index = n } ∷ []

abbrev pub row_of : Numbers → ℕ → List ℕ
row_of rows class = get_or rows class []

-- those of the first so many classes,
abbrev pub methods_of : Numbers → ℕ → List MethodNo
methods_of rows zero = []
methods_of rows (suc n) = methods_of rows n ++ methods_to (record { 0 = n }) (length (row_of rows n))

-- and their signatures
abbrev pub signatures_of : Numbers → ℕ → List ℕ
signatures_of rows zero = []
signatures_of rows (suc n) = signatures_of rows n ++ row_of rows n
