-- What each mode loads, in order, and the work that it is to do with it.
use Rattle.std.specs.Prelude.{ℕ, List, Option, option_map}
use Rattle.jv_model.specs.Refusal.{Cause, Limited, above_count}
use Rattle.jv_model.specs.Limits.{most_file_bytes}
use Rattle.jv_model.specs.Outside.{Folder}
use Rattle.jv_model.specs.ClassData.{ClassData}
use Rattle.jv_model.specs.ClassLimits.{first_limit}
use Rattle.jv_model.specs.ClassBytes.{class_bytes}
use Rattle.jv_model.specs.Fallible.{unless}
use Rattle.assembler_model.specs.AssembledClass.{assembled}
use Rattle.straight_line_model.specs.Machine.{Program}
use Rattle.load_model.specs.Loading.{Loading, ◌>>=◌, yields, placed, file_at}
use Rattle.load_model.specs.LoadClasses.{or_line}
use Rattle.run_model.specs.Invocation.{Invocation, run_of, check_of, asm_of}
use Rattle.run_model.specs.LoadProgram.{load_program}
use Rattle.run_model.specs.Later.{program_of, unless_later}
use Rattle.run_model.specs.CheckText.{check_text}
use Rattle.run_model.specs.Work.{Work, runs, writes}

-- a list of the class is too long for its count
abbrev pub count_fault : ClassData → Option Cause
count_fault class = option_map (λ (limit : Limited × ℕ). above_count limit.0 limit.1) (first_limit class)

-- the bytes of a class file, where its counts can say how long its lists are
abbrev pub written : ClassData → Loading (List ℕ)
written class = placed 0 0 (unless (count_fault class) (class_bytes class))

-- the bytes of the class file of an assembler text
abbrev pub class_file_of : List ℕ → Loading (List ℕ)
class_file_of text = placed 0 0 (or_line (assembled text)) >>= written

-- of the one in that file
unfoldable pub load_asm : Folder → List ℕ → Loading (List ℕ)
load_asm folder name = file_at folder name most_file_bytes 0 0 >>= class_file_of

-- the program of a manifest, where this version runs it
unfoldable pub load_run : Folder → List ℕ → Loading Program
load_run folder name = load_program folder name >>= λ verified. unless_later (program_of verified)

-- what there is to tell of the program of a manifest
unfoldable pub load_check : Folder → List ℕ → Loading (List ℕ)
load_check folder name = load_program folder name >>= λ verified. unless_later (check_text verified)

unfoldable pub load_work : Folder → Invocation → Loading Work
load_work folder (run_of manifest) = load_run folder manifest >>= λ program. yields (runs program)
load_work folder (check_of manifest) = load_check folder manifest >>= λ text. yields (writes text)
load_work folder (asm_of file) = load_asm folder file >>= λ bytes. yields (writes bytes)
