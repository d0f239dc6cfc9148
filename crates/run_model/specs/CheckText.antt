-- What `check` tells of a program that links and verifies.
use Rattle.std.specs.Prelude.{ℕ, List, [], ◌∷◌, Option, Some, None, if◌then◌else◌, codes, decimal, length}
use Rattle.jv_model.specs.Lines.{line_of}
use Rattle.world_model.specs.World.{user_classes}
use Rattle.run_model.specs.LoadProgram.{VerifiedProgram}

-- the number of the program's own classes
abbrev pub ok_line : ℕ → List ℕ
ok_line classes = line_of (codes "ok" ∷ decimal classes ∷ [])

-- it, where this version can tell all that there is to tell: nothing of updates
abbrev pub check_text : VerifiedProgram → Option (List ℕ)
check_text verified =
    if verified.has_updates then None else Some (ok_line (length (user_classes verified.world)))
