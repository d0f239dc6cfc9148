use Rattle.look_up_cache.proofs.Kept.{is_there, place_there, kept_already}
use Rattle.look_up_cache.proofs.cache.Cache.resolve.Goals as goal

pub kept-requires : goal.kept-requires
kept-requires g c =
    place_there c.args.world.now c.args.self.now.places c.args.method.class c.args.index c.requires.truth.places
    (is_there c.args.world.now c.args.method.class c.args.index c.requires.there)

pub returns-in-Some-clause-keeps : goal.returns-in-Some-clause-keeps
returns-in-Some-clause-keeps g c = kept_already c.args.self.now c.args.method.class c.args.index c.in-Some.slot c.in-Some.ensures
