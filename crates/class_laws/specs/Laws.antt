-- What the laws of class files say.
use Rattle.std.specs.Prelude.{◌≡◌, ◌≤◌, ℕ, List, Ok, Err, length}
use Rattle.std.specs.List.{AllByRecursion}
use Rattle.jv_model.specs.Limits.{most_file_bytes}
use Rattle.jv_model.specs.Refusal.{Cause}
use Rattle.jv_model.specs.ModifiedUtf8.{text_bytes}
use Rattle.jv_model.specs.ClassData.{Const, utf8, Member, ClassData}
use Rattle.jv_model.specs.Profile.{IsU1, IsU2, IsCounted, SpellsClass}
use Rattle.jv_model.specs.ClassReading.{class_of}

-- one holds exactly where the other does
abbrev pub Exactly : Type 0 → Type 0 → Type 0
Exactly A B = (A → B) × (B → A)

-- ---- counts

-- the bytes of a text have a length of two bytes
abbrev pub IsShortText : Const → Type 0
IsShortText (utf8 units) = IsU2 (length (text_bytes units))
IsShortText other = Unit {0}

abbrev pub HasShortTexts : List Const → Type 0
HasShortTexts pool = AllByRecursion IsShortText pool

abbrev pub HaveFewAttributes : List Member → Type 0
HaveFewAttributes members = AllByRecursion (λ member. IsU2 (length member.attributes)) members

-- each count of a class file has two bytes
pub record FitsCounts (file : ClassData) : Type 0 where
  pub pool : IsU2 (length file.pool)
  pub texts : HasShortTexts file.pool
  pub interfaces : IsU2 (length file.interfaces)
  pub fields : IsU2 (length file.fields)
  pub field_attributes : HaveFewAttributes file.fields
  pub methods : IsU2 (length file.methods)
  pub method_attributes : HaveFewAttributes file.methods
  pub attributes : IsU2 (length file.attributes)

-- No limit is met exactly where each count has two bytes.
abbrev pub CountsFit : Type 0
CountsFit = (file : ClassData) → Exactly (IsCounted file) (FitsCounts file)

-- ---- class files

-- Bytes spell the data of one class file at the most.
abbrev pub OneSpelling : Type 0
OneSpelling = (bytes : List ℕ) (one other : ClassData) → SpellsClass bytes one
    → SpellsClass bytes other → one ≡ other

-- The data that are read of bytes are those that the bytes spell, where they aren't too many.
abbrev pub ClassIsRead : Type 0
ClassIsRead = (bytes : List ℕ) → AllByRecursion IsU1 bytes → (file : ClassData)
    → Exactly (class_of bytes ≡ Ok file) (SpellsClass bytes file × (length bytes ≤ most_file_bytes))

-- What is refused is spelled by no data, where it isn't too long.
abbrev pub RefusedIsUnspelled : Type 0
RefusedIsUnspelled = (bytes : List ℕ) (cause : Cause) → class_of bytes ≡ Err cause
    → length bytes ≤ most_file_bytes
    → (file : ClassData) → SpellsClass bytes file → ⊥
