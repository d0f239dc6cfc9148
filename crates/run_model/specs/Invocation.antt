-- The words of a command, and what they ask for. Each word is its bytes in UTF-8.
use Rattle.std.specs.Prelude.{ℕ, List, [], ◌∷◌, Option, Some, None, if◌then◌else◌, bytes_eq, codes}

pub data Invocation : Type 0 where
  -- `run MANIFEST`
  run_of : List ℕ → Invocation
  -- `check MANIFEST`
  check_of : List ℕ → Invocation
  -- `asm FILE`
  asm_of : List ℕ → Invocation

-- what a mode asks for with its one operand
abbrev pub asked_in : List ℕ → List ℕ → Option Invocation
asked_in mode operand =
    if bytes_eq mode (codes "run") then Some (run_of operand)
    else if bytes_eq mode (codes "check") then Some (check_of operand)
    else if bytes_eq mode (codes "asm") then Some (asm_of operand)
    else None

-- what the words ask for, where they are in the form of a command
abbrev pub invocation_of : List (List ℕ) → Option Invocation
invocation_of (mode ∷ operand ∷ []) = asked_in mode operand
invocation_of words = None
