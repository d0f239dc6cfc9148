-- Which class of the definitions a `Loaded` is.
use Rattle.std.specs.Prelude.{ℕ, Option, option_map, map}
use Rattle.jv_types.specs.ClassData.{class_data_of}
use Rattle.jv_types.specs.Code.{body_of}
use Rattle.jv_types.specs.declared.code.CodeBody.{CodeBody}
use Rattle.jv_types.specs.declared.loaded.Loaded.{Loaded}
use Rattle.jv_model.specs.Code.{Body}
use Rattle.jv_model.specs.LoadedClass.{LoadedClass}

abbrev pub code_of : Option CodeBody → Option (Body ℕ)
code_of code = option_map body_of code

abbrev pub loaded_of : Loaded → LoadedClass
loaded_of loaded = record {
  file = class_data_of loaded.file;
  codes = map code_of loaded.codes.items;
}
