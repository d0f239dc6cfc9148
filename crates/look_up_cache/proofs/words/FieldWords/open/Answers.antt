use Rattle.std.proofs.Common.{map}
use Rattle.look_up_cache.proofs.Layouts.{are_words}
use Rattle.look_up_cache.proofs.words.FieldWords.open.Goals as goal

pub returns : goal.returns
returns c =
    are_words c.args.world.now c.requires.apart c.args.versions.now.layouts.fields.items c.requires.layouts.fields c.requires.once
    (map (λ row. row.items) c.in_ok-rows.rows.items) c.in_ok-rows.ensures
