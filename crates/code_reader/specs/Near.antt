-- Instructions at places that code can have.
use Rattle.std.specs.Prelude.{ℕ, List, Bool, nat_lt}
use Rattle.std.specs.List.{list_all}
use Rattle.jv_model.specs.Code.{Placed}
use Rattle.jv_types.specs.Instructions.{most_places}

-- each stands in front of the most places that code has
abbrev pub are_near : List (Placed ℕ) → Bool
are_near instructions = list_all (λ (p : Placed ℕ). nat_lt p.pc most_places) instructions
