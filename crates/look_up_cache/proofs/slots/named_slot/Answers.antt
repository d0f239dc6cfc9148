use Rattle.std.proofs.Common.{◌≡◌, ap, ◌∙◌}
use Rattle.std.specs.Prelude.{Some, option_map}
use Rattle.jv_types.specs.ClassData.{pool_of}
use Rattle.look_up_cache.specs.Found.{found_in}
use Rattle.look_up_cache.specs.Targets.{named_target}
use Rattle.look_up_cache.proofs.Standing.{some_slot, it_stands}
use Rattle.look_up_cache.proofs.slots.named_slot.Goals as goal

pub slot_of-requires : goal.slot_of-requires
slot_of-requires g c =
    let world = c.args.world.now in
    let versions = c.args.versions.now in
    some_slot world versions.slots versions.literals.texts c.args.words.now c.requires.versions.method_counts c.requires.versions.slots c.requires.words
    c.in-Some.resolved (named_target world (pool_of c.args.pool.now) c.args.index) c.in-Some.ensures.found

pub returns-clause-found : goal.returns-clause-found
returns-clause-found g c target named =
    let world = c.args.world.now in
    let versions = c.args.versions.now in
    let both : Some (found_in world c.in-Some.resolved) ≡ Some (Some target) = c.in-Some.ensures.found ∙ ap (option_map Some) named in
    let found : found_in world c.in-Some.resolved ≡ Some target = cc in
    it_stands world versions.slots versions.literals.texts c.args.words.now c.requires.versions.method_counts c.requires.versions.slots c.requires.words
    c.in-Some.resolved target c.slot_of.result found c.slot_of.ensures
