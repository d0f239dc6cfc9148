-- The code of each method of a linked world stands right, and its frames fit.
use Rattle.std.proofs.Common.{◌≡◌, ℕ, ◌≤◌, List, Option, Some, None, refl, arith}
use Rattle.std.specs.Prelude.{IsTrue, nat_le, slice_get, option_map, option_and_then, unwrap_or}
use Rattle.std.proofs.lemmas.Bool.{le-leb}
use Rattle.frame_laws.proofs.Outcome.{bind_is}
use Rattle.jv_model.specs.Limits.{most_frame_words}
use Rattle.jv_model.specs.Operand.{Operand}
use Rattle.jv_model.specs.Code.{Body}
use Rattle.jv_model.specs.LoadedClass.{LoadedClass}
use Rattle.world_model.specs.World.{World, Class, Method, class_in, declared_method}
use Rattle.world_model.specs.Members.{body_of}
use Rattle.code_model.specs.Names.{named}
use Rattle.frame_laws.specs.Worlds.{StandsRight}
use Rattle.machine_model.specs.CallSteps.{body_words}
use Rattle.linked_laws.specs.Worlds.{IsReadClass, IsLinkedWorld}
use Rattle.linked_laws.proofs.Methods.{method_declared}
use Rattle.machine_laws.proofs.Calling.{of_environment}
use Rattle.linked_world_laws.specs.Laws.{CodeStandsRight, FramesAreSmall}
use Rattle.linked_world_laws.proofs.Bodies.{body_spelled}
use Rattle.linked_world_laws.proofs.Standing.{spelled_stands_right}

-- Code stands right, and a frame of it fits.
record IsRight (body : Body Operand) : Type 0 where
  stands : StandsRight body
  fits : body_words body ≤ most_frame_words

program_code : (l : LoadedClass) → (read : IsReadClass l) → (descriptor : List ℕ) (k : ℕ) (raw : Body ℕ)
    → slice_get l.codes k ≡ Some (Some raw) → IsRight (named l.file.pool descriptor raw)
unfolding named
program_code l read descriptor k raw at =
    let is = body_spelled l read k raw at in
    record { stands = spelled_stands_right l.file is.member is.bytes raw is.spells descriptor; fits = omega (arith, is.spells.words.2) }

code_is_right : (world : World) → IsLinkedWorld world → (name : List ℕ) (class : Class) (m descriptor : List ℕ) (method : Method) (body : Body Operand)
    → class_in world name ≡ Some class → declared_method m descriptor class ≡ Some method → method.code ≡ Some body → IsRight body
code_is_right world linked =
    method_declared world linked (λ class method body. IsRight body)
    (λ l is k method at raw read. program_code l is.read method.descriptor k raw read)

pub code_stands_right : CodeStandsRight
code_stands_right world linked name class m descriptor method e there declared is =
    (code_is_right world linked name class m descriptor method e.body there declared (of_environment world class method e is).2).stands

pub frames_are_small : FramesAreSmall
frames_are_small world linked frame = by (body_of world frame.method) refl
  where
    by : (o : Option (Body Operand)) → body_of world frame.method ≡ o → IsTrue (nat_le (unwrap_or (option_map body_words o) 0) most_frame_words)
    by None is = refl
    by (Some body) is =
        let method = bind_is (λ (m : Method). m.code) (option_and_then (declared_method frame.method.name frame.method.descriptor) (class_in world frame.method.class)) body is in
        let class = bind_is (declared_method frame.method.name frame.method.descriptor) (class_in world frame.method.class) method.0 method.1 in
        le-leb _ _ (code_is_right world linked frame.method.class class.0 frame.method.name frame.method.descriptor method.0 body class.1 class.2 method.2).fits
