-- What this version runs of the programs that link and verify: one class that has main, constructors and no other
-- methods, and whose main is a straight line. It checks those that have no updates. All others are refused as input
-- of a form that isn't built yet.
use Rattle.std.specs.Prelude.{List, [], ◌∷◌, Bool, ◌&&◌, ◌||◌, not, if◌then◌else◌, Option, Some, None, is_some, option_map, codes, bytes_eq}
use Rattle.std.specs.List.{list_all, list_any}
use Rattle.jv_model.specs.Partial.{◌>>=◌}
use Rattle.jv_model.specs.Refusal.{later}
use Rattle.jv_model.specs.Operand.{Operand}
use Rattle.jv_model.specs.Code as code
use Rattle.world_model.specs.BootNames.{is_constructor_name}
use Rattle.world_model.specs.World.{Field, Method, Class, is_static_field, declared_method, user_classes}
use Rattle.load_model.specs.Loading.{Loading, refuses, answers, yields}
use Rattle.straight_line_model.specs.Instruction.{Body}
use Rattle.straight_line_model.specs.Machine.{Program}
use Rattle.run_model.specs.LoadProgram.{VerifiedProgram}
use Rattle.run_model.specs.MainCode.{straight_body}

-- ---- the main class

-- a static field that has a String from its ConstantValue (JVMS 4.7.2)
abbrev pub begins_as_string : Field → Bool
begins_as_string field =
    is_static_field field && bytes_eq field.descriptor (codes "Ljava/lang/String;")
    && is_some field.constant

-- a method named main with its descriptor (JLS 12.1.4)
abbrev pub is_main : Method → Bool
is_main method =
    bytes_eq method.name (codes "main") && bytes_eq method.descriptor (codes "([Ljava/lang/String;)V")

abbrev pub is_main_or_constructor : Method → Bool
is_main_or_constructor method = is_main method || is_constructor_name method.name

abbrev pub has_main_alone : Class → Bool
has_main_alone class =
    list_all is_main_or_constructor class.methods && not (list_any begins_as_string class.fields)

-- the code of main
abbrev pub code_of_main : Class → Option (code.Body Operand)
code_of_main class =
    declared_method (codes "main") (codes "([Ljava/lang/String;)V") class >>= λ method. method.code

-- it, where this version runs it
abbrev pub main_code : Class → Option Body
main_code class = code_of_main class >>= straight_body

-- ---- the program

-- the code of main, where these are all classes of a program that can be started
abbrev pub main_body : List Class → Option Body
main_body (class ∷ []) = if has_main_alone class then main_code class else None
main_body classes = None

-- the program, where this version runs it
abbrev pub program_of : VerifiedProgram → Option Program
program_of verified =
    if verified.has_updates then None
    else option_map (λ body. record { main = body }) (main_body (user_classes verified.world))

-- what there is, or a refusal of the whole program
abbrev pub unless_later : {A : Type 0} → Option A → Loading A
unless_later (Some x) = yields x
unless_later None = answers (refuses 0 0 later)
