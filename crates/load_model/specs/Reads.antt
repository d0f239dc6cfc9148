-- Files before a call and after it.
use Rattle.std.specs.Prelude.{ℕ, List, Option}
use Rattle.jv_model.specs.Outside.{Folder}

pub record Read : Type 0 where
  -- what they hold, where they tell it
  pub folder : Option Folder
  -- the names that were asked for so far
  pub asked_before : List (List ℕ)
  pub asked_after : List (List ℕ)
  -- how many reads have failed so far
  pub faults_before : ℕ
  pub faults_after : ℕ
