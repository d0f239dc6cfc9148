-- Final methods by number: each name and descriptor of a final method of some class has one.
use Rattle.std.specs.Prelude.{◌≡◌, ℕ, List, [], ◌++◌, Bool, false, ◌&&◌, ◌||◌, not, Option, Some, map, length, slice_get, get_or, nat_lt, bytes_eq, IsTrue}
use Rattle.std.specs.List.{list_all, list_any}
use Rattle.jv_model.specs.Partial.{passes}
use Rattle.jv_model.specs.ClassData.{Const, Member}
use Rattle.jv_model.specs.ConstantPool.{units_at}
use Rattle.world_model.specs.World.{World, Class, has_flag, acc_static, acc_private, acc_final}
use Rattle.world_model.specs.BootNames.{is_constructor_name}
use Rattle.jv_types.specs.Sequence.{Sequence}
use Rattle.jv_types.specs.declared.number.ClassNo.{ClassNo}
use Rattle.use_faults.specs.Wrong.{declares_final, is_final_at, upwards}
use Rattle.use_faults.specs.declared.final_methods.NameAndType.{NameAndType}
use Rattle.use_faults.specs.declared.final_methods.FinalMethods.{FinalMethods}

-- the list, and more behind it
abbrev pub Grows : {A : Type 0} → List A → List A → Type 0
Grows {A} old new = (rest : List A) × (new ≡ old ++ rest)

-- ---- numbers

-- an entry is that of a name and a descriptor
abbrev pub is_named : List ℕ → List ℕ → NameAndType → Bool
is_named name descriptor entry = bytes_eq name entry.name.now && bytes_eq descriptor entry.descriptor.now

abbrev pub same_named : NameAndType → NameAndType → Bool
same_named a b = is_named a.name.now a.descriptor.now b

-- a number is that of a name and a descriptor, and one of some numbers is
abbrev pub has_number : List NameAndType → List ℕ → List ℕ → ℕ → Bool
has_number entries name descriptor number = passes (is_named name descriptor) (slice_get entries number)

abbrev pub have_number : List NameAndType → List ℕ → List ℕ → List ℕ → Bool
have_number entries name descriptor numbers = list_any (has_number entries name descriptor) numbers

-- a number is that of an entry's name and descriptor, and of no other
abbrev pub IsNumberOf : List NameAndType → NameAndType → ℕ → Type 0
IsNumberOf entries entry number =
    (name descriptor : List ℕ) → has_number entries name descriptor number ≡ is_named name descriptor entry

abbrev pub are_inside : List NameAndType → List ℕ → Bool
are_inside entries numbers = list_all (λ n. nat_lt n (length entries)) numbers

-- ---- what a class declares

-- a class declares a method of its file as a final one, with that name and descriptor
abbrev pub names_final : Class → List Const → Member → List ℕ → List ℕ → Bool
names_final class pool member name descriptor =
    has_flag acc_final member.flags
    && declares_final (units_at pool member.name) (units_at pool member.descriptor) class
    && (bytes_eq name (units_at pool member.name) && bytes_eq descriptor (units_at pool member.descriptor))

-- The numbers of the final methods that a class itself declares.
pub record AreFinals (entries : List NameAndType) (class : Class) (numbers : List ℕ) : Type 0 where
  pub inside : IsTrue (are_inside entries numbers)
  pub each_method : (name descriptor : List ℕ) → declares_final name descriptor class ≡ have_number entries name descriptor numbers

-- The number of a method of a class's file is added, where the class declares it as a final one.
pub record AddsFinal (class : Class) (pool : List Const) (member : Member) (entries : List NameAndType) (numbers : List ℕ)
    (more : List NameAndType) (added : List ℕ) : Type 0 where
  pub grows : Grows entries more
  pub inside : IsTrue (are_inside entries numbers) → IsTrue (are_inside more added)
  pub each_method : (name descriptor : List ℕ) → have_number more name descriptor added
      ≡ (have_number more name descriptor numbers || names_final class pool member name descriptor)

abbrev pub numbers_at : List (Sequence ℕ) → ℕ → List ℕ
numbers_at rows class = get_or (map (λ (row : Sequence ℕ). row.items) rows) class []

-- A row for each class of a world.
pub record AreFinalMethods (world : World) (methods : FinalMethods) : Type 0 where
  pub count : length methods.declared.items ≡ length world.classes
  pub each_class : (k : ℕ) (class : Class) → slice_get world.classes k ≡ Some class
      → AreFinals methods.signatures.keys class (numbers_at methods.declared.items k)

-- ---- upwards

-- a class declares a final method with that name and descriptor, by its number
abbrev pub is_final_by : FinalMethods → List ℕ → List ℕ → ClassNo → Bool
is_final_by methods name descriptor class =
    have_number methods.signatures.keys name descriptor (numbers_at methods.declared.items class.0)

-- some classes declare what others and one more do
abbrev pub DeclareWith : FinalMethods → List ClassNo → ClassNo → List ClassNo → Type 0
DeclareWith methods classes class more = (name descriptor : List ℕ) → list_any (is_final_by methods name descriptor) more
    ≡ (list_any (is_final_by methods name descriptor) classes || is_final_by methods name descriptor class)

-- some classes declare what the class of a number and all above it do
abbrev pub DeclareUpwards : World → FinalMethods → Option ClassNo → List ClassNo → Type 0
DeclareUpwards world methods number classes = (name descriptor : List ℕ) → list_any (is_final_by methods name descriptor) classes
    ≡ list_any (is_final_at world name descriptor) (upwards (length world.classes) world number)

-- ---- methods that override

-- a method of a class file that can override has the number
abbrev pub can_override_at : List NameAndType → List Const → ℕ → Member → Bool
can_override_at entries pool number member =
    not (has_flag acc_static member.flags) && not (has_flag acc_private member.flags)
    && not (is_constructor_name (units_at pool member.name))
    && has_number entries (units_at pool member.name) (units_at pool member.descriptor) number

abbrev pub is_marked : List Bool → ℕ → Bool
is_marked marks number = get_or marks number false

-- one of the numbers of a class is marked
abbrev pub has_mark : List (Sequence ℕ) → List Bool → ClassNo → Bool
has_mark rows marks class = list_any (is_marked marks) (numbers_at rows class.0)
