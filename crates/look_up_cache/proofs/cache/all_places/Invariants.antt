use Rattle.std.proofs.Common.{◌≡◌, map, take}
use Rattle.look_up_cache.specs.Kept.{places_in}
use Rattle.look_up_cache.proofs.cache.all_places.Given as goal

-- those of the classes so far
abbrev pub invariant-loop-class : goal.invariant-loop-class
invariant-loop-class l = map (λ row. row.items) l.rows.items ≡ take l.class (places_in l.world)
