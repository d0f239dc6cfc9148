use Rattle.std.proofs.Common.{◌≡◌, List, [], ◌∷◌, length, map, Option, Some, None, Result, Ok, Err, get_or, sym, ap}
use Rattle.std.specs.Prelude.{IfOk, IfSome}
use Rattle.jv_types.specs.Loaded.{loaded_of}
use Rattle.jv_types.specs.declared.loaded.Loaded.{Loaded}
use Rattle.jv_types.specs.declared.memory.NoMemory.{NoMemory}
use Rattle.link_model.specs.WorldOf.{class_of}
use Rattle.run_model.specs.Later.{main_code}
use Rattle.straight_line_model.specs.StraightLine.{IsStraightLine}
use Rattle.straight_line.specs.Body.{body_of}
use Rattle.straight_line.specs.Programs.{body_found, AreVerified}
use Rattle.straight_line.specs.declared.body.Body.{Body}
use Rattle.straight_line.proofs.Typed.{only_main_is_straight}
use Rattle.straight_line.proofs.main_code.main_body.Goals as goal

-- where there is one class, it's the first
only : (classes : List Loaded) (class : Loaded) → length classes ≡ 1 → class ≡ get_or classes 0 class
    → map class_of (map loaded_of classes) ≡ class_of (loaded_of class) ∷ []
only [] class one first = absurd cc
only (its ∷ []) class one first = ap (λ (l : Loaded). class_of (loaded_of l) ∷ []) (sym first)
only (its ∷ second ∷ others) class one first = absurd cc

module _ (classes : List Loaded) (class : Loaded)
    (verified : AreVerified (map class_of (map loaded_of classes)))
    (is : map class_of (map loaded_of classes) ≡ class_of (loaded_of class) ∷ []) where
  found_straight : (found : Option Body)
      → body_found found ≡ main_code (class_of (loaded_of class))
      → IfSome found (λ body. IsStraightLine (body_of body))
  found_straight None run = tt
  found_straight (Some body) run =
      only_main_is_straight (map class_of (map loaded_of classes)) (class_of (loaded_of class))
      (body_of body) verified is (sym run)

  all_straight : (result : Result (Option Body) NoMemory)
      → IfOk result (λ found. body_found found ≡ main_code (class_of (loaded_of class)))
      → IfOk result (λ found. IfSome found (λ body. IsStraightLine (body_of body)))
  all_straight (Ok found) run = found_straight found run
  all_straight (Err error) run = tt

pub returns-clause-straight : goal.returns-clause-straight
returns-clause-straight c =
    all_straight c.args.classes.now c.index-classes-0-2.result c.requires
    (only c.args.classes.now c.index-classes-0-2.result c.if-classes-ne1.false c.index-classes-0-2.is)
    c.main_code.result c.main_code.ensures
