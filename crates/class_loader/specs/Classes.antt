-- Classes that were read, with the bytes of all class files up to there.
use Rattle.std.specs.Prelude.{ℕ}
use Rattle.jv_model.specs.ClassData as files
use Rattle.jv_model.specs.LoadedClass as model
use Rattle.code_model.specs.CodeReading.{load_of}
use Rattle.jv_types.specs.ClassData.{class_data_of}
use Rattle.jv_types.specs.Loaded.{loaded_of}
use Rattle.load_model.specs.Loading.{Loading, ◌>>=◌, yields, placed}
use Rattle.load_model.specs.LoadClasses.{Counted}
use Rattle.class_loader.specs.declared.class.ReadClass.{ReadClass}
use Rattle.class_loader.specs.declared.class.LoadedClass.{LoadedClass}

abbrev pub class_read : ReadClass → Counted files.ClassData
class_read read = (class_data_of read.file, read.bytes)

abbrev pub class_loaded : LoadedClass → Counted model.LoadedClass
class_loaded loaded = (loaded_of loaded.class, loaded.bytes)

-- the class with the code of its methods
abbrev pub codes_in : ℕ → files.ClassData → Loading model.LoadedClass
codes_in number file = do
  codes ← placed number 0 (load_of file)
  yields (record { file = file; codes = codes })
