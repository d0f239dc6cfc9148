-- What contracts see of files and a sink in memory.
use Rattle.std.specs.Prelude.{◌≡◌, ℕ, ◌<◌, List, [], ◌∷◌, Option, Some, None, if◌then◌else◌, bytes_eq, Contains, length, ◌⊎◌}
use Rattle.jv_types.specs.Sequence.{Sequence}
use Rattle.jv_model.specs.Utf16.{units_of_utf8}
use Rattle.jv_model.specs.Outside.{Folder}

-- A file's name in units of UTF-16, and its bytes.
pub record MemoryFile : Type 0 where
  pub name : List ℕ
  pub bytes : List ℕ

abbrev pub file_of : Sequence ℕ × Sequence ℕ → MemoryFile
file_of pair = record { name = pair.0.items; bytes = pair.1.items }

pub record MemoryFiles : Type 0 where
  pub files : List MemoryFile
  -- the numbers of the reads that fail
  pub fails : List ℕ
  -- the names that were asked for, in order
  pub asked : List (List ℕ)
  -- how many reads there were, up to the most that are counted
  pub calls : ℕ
  -- how many of them failed
  pub faults : ℕ

-- the bytes of the first file of that name
abbrev pub file_with : List ℕ → List MemoryFile → Option (List ℕ)
file_with name [] = None
file_with name (file ∷ files) =
    if bytes_eq file.name name then Some file.bytes else file_with name files

abbrev pub folder_of : MemoryFiles → Folder
folder_of memory name = file_with (units_of_utf8 name) memory.files

-- the next read, of this name, is one that has to fail
abbrev pub ReadIsToFail : MemoryFiles → List ℕ → Type 0
ReadIsToFail memory name = Contains memory.fails memory.calls ⊎ (folder_of memory name ≡ None)

pub record MemorySink : Type 0 where
  pub held : List ℕ
  -- the most bytes that a write takes
  pub piece : ℕ
  -- the numbers of the writes that fail, among those of some bytes
  pub fails : List ℕ
  -- how many pieces that aren't empty it was given
  pub writes : ℕ
  -- the same number, up to the most that are counted
  pub calls : ℕ
  pub faults : ℕ

-- the next write, of this piece, is one that has to fail
abbrev pub WriteIsToFail : MemorySink → List ℕ → Type 0
WriteIsToFail sink piece = (0 < length piece) × (Contains sink.fails sink.calls ⊎ (sink.piece ≡ 0))
