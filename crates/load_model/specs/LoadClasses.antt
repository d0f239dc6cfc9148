-- The class that an item of a manifest brings, in its file or as lines of an assembler text.
use Rattle.std.specs.Prelude.{ℕ, ◌+◌, List, if◌then◌else◌, nat_lt, Result, Ok, Err, bytes_eq, length}
use Rattle.jv_model.specs.Refusal.{Cause, above_limit, all_files, assembler_line, manifest_line, wrong_name}
use Rattle.jv_model.specs.Limits.{most_file_bytes, most_all_files_bytes}
use Rattle.jv_model.specs.Outside.{Folder}
use Rattle.jv_model.specs.ClassData.{ClassData}
use Rattle.jv_model.specs.ClassReading.{class_of}
use Rattle.jv_model.specs.LoadedClass.{LoadedClass}
use Rattle.code_model.specs.CodeReading.{load_of}
use Rattle.code_model.specs.Names.{class_name_at}
use Rattle.text_model.specs.LineFaults.{Fault}
use Rattle.assembler_model.specs.AssembledClass.{assembled}
use Rattle.manifest_model.specs.Items.{ItemForm, in_file, in_lines, ClassItem}
use Rattle.load_model.specs.Loading.{Answer, loads, refuses, Loading, ◌>>=◌, answers, yields, placed, file_at}

-- Something that was read, and the bytes of all class files up to there.
abbrev pub Counted : Type 0 → Type 0
Counted A = A × ℕ

-- the class of an assembler text
abbrev pub or_line : Result ClassData Fault → Result ClassData Cause
or_line (Ok file) = Ok file
or_line (Err fault) = Err (assembler_line fault.0 fault.1)

-- the bytes of all class files up to there, where there may be so many
abbrev pub total_within : ℕ → Result ℕ Cause
total_within total = if nat_lt most_all_files_bytes total then Err (above_limit all_files total) else Ok total

-- what the bytes of an item's class file say, behind class files of so many bytes
abbrev pub class_in_bytes : ℕ → ℕ → List ℕ → Loading (Counted ClassData)
class_in_bytes number before bytes = do
  total ← placed number 0 (total_within (before + length bytes))
  file ← placed number 0 (class_of bytes)
  yields (file, total)

-- what the lines of an item's block say; they count as no class file
abbrev pub class_in_lines : ℕ → ℕ → List ℕ → Loading (Counted ClassData)
class_in_lines number before text = do
  file ← placed number 0 (or_line (assembled text))
  yields (file, before)

abbrev pub class_data : Folder → ℕ → ℕ → ItemForm → Loading (Counted ClassData)
class_data folder number before (in_file name) = do
  bytes ← file_at folder name most_file_bytes number 0
  class_in_bytes number before bytes
class_data folder number before (in_lines text) = class_in_lines number before text

-- the name of a class (JVMS 4.1)
abbrev pub name_of : LoadedClass → List ℕ
name_of class = class_name_at class.file.pool class.file.this_class

-- A class of another name than its line says is told at the line, which is one of the manifest.
abbrev pub where_named : ClassItem → LoadedClass → Answer LoadedClass
where_named asked class =
    if bytes_eq (name_of class) asked.class then loads class
    else refuses 0 0 (manifest_line asked.line wrong_name)

-- what was read, with its code, under the name that the item's line says
abbrev pub with_code : ℕ → ClassItem → ClassData → Loading LoadedClass
with_code number asked file = do
  codes ← placed number 0 (load_of file)
  answers (where_named asked (record { file = file; codes = codes }))

abbrev pub class_of_item : ℕ → ClassItem → Counted ClassData → Loading (Counted LoadedClass)
class_of_item number asked read = do
  class ← with_code number asked read.0
  yields (class, read.1)

-- the class of the item with that number, behind class files of so many bytes
unfoldable pub load_class : Folder → ℕ → ℕ → ClassItem → Loading (Counted LoadedClass)
load_class folder number before asked = class_data folder number before asked.form >>= class_of_item number asked
