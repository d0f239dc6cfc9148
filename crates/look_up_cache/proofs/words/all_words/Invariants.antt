use Rattle.std.proofs.Common.{map}
use Rattle.look_up_cache.proofs.Rows.{RowsSoFar}
use Rattle.look_up_cache.proofs.words.all_words.Given as goal

-- those of the classes so far
abbrev pub invariant-loop-class : goal.invariant-loop-class
invariant-loop-class l = RowsSoFar l.world l.versions.layouts.fields.items (map (λ row. row.items) l.rows.items) l.class
