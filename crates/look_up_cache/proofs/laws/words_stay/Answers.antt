use Rattle.look_up_cache.proofs.Layouts as layouts
use Rattle.look_up_cache.proofs.laws.words_stay.Goals as goal

pub returns : goal.returns
returns c = layouts.words_stay
