use Rattle.std.proofs.Common.{◌≡◌, true, List, subst, sym, ap, ◌∙◌, arith}
use Rattle.std.specs.Prelude.{is_some}
use Rattle.std.proofs.lemmas.Option.{slice_get_within}
use Rattle.jv_model.specs.ClassData.{Const}
use Rattle.jv_types.specs.ClassData.{pool_of}
use Rattle.class_world.specs.World.{names_of}
use Rattle.world_literals.specs.Literals.{have, pool_strings}
use Rattle.look_up_cache.specs.Kept.{IsTrueOf, StaysKept, with_kept}
use Rattle.look_up_cache.specs.Targets.{most_steps, target_of}
use Rattle.look_up_cache.proofs.Kept.{is_there, pool_here, is_slot, stays_true, stays_kept}
use Rattle.look_up_cache.proofs.Standing.{pool_literals}
use Rattle.look_up_cache.proofs.cache.Cache.fill.Goals as goal

pub class-requires : goal.class-requires
class-requires g c =
    let there = is_there c.args.world.now c.args.class c.args.index c.requires.there in
    slice_get_within c.args.world.now.classes c.args.class.0 there.info there.at

pub look_up_slot-slot-requires-clause-literals : goal.look_up_slot-slot-requires-clause-literals
look_up_slot-slot-requires-clause-literals g c =
    let world = c.args.world.now in
    let texts = c.args.versions.now.literals.texts in
    let pool = pool_here world c.args.class c.class.ensures.0 (names_of world) c.class.result.now.origin c.pool_in-pool.result.now c.class.ensures.1 c.class.ensures.2.origin c.pool_in-pool.ensures in
    subst (λ (p : List Const). have texts (pool_strings p) ≡ true) (sym pool.0) (pool_literals world texts c.args.class.0 c.class.ensures.0 c.class.ensures.1 c.requires.versions.texts)

pub look_up_slot-slot-requires-clause-there : goal.look_up_slot-slot-requires-clause-there
look_up_slot-slot-requires-clause-there g c =
    let world = c.args.world.now in
    let pool = pool_here world c.args.class c.class.ensures.0 (names_of world) c.class.result.now.origin c.pool_in-pool.result.now c.class.ensures.1 c.class.ensures.2.origin c.pool_in-pool.ensures in
    ap (λ (p : List Const). is_some (target_of world p c.args.index)) pool.1 ∙ c.requires.there

pub returns-clause-found : goal.returns-clause-found
returns-clause-found g c =
    let world = c.args.world.now in
    let pool = pool_here world c.args.class c.class.ensures.0 (names_of world) c.class.result.now.origin c.pool_in-pool.result.now c.class.ensures.1 c.class.ensures.2.origin c.pool_in-pool.ensures in
    is_slot world c.args.versions.now.slots c.args.versions.now.literals.texts c.args.class c.args.index (pool_of c.pool_in-pool.result.now) c.look_up_slot-slot.result
    pool.1 c.requires.there c.look_up_slot-slot.ensures.found

pub returns-clause-truth : goal.returns-clause-truth
returns-clause-truth g c =
    let world = c.args.world.now in
    let slots = c.args.versions.now.slots in
    let texts = c.args.versions.now.literals.texts in
    let slot = c.look_up_slot-slot.result in
    let pool = pool_here world c.args.class c.class.ensures.0 (names_of world) c.class.result.now.origin c.pool_in-pool.result.now c.class.ensures.1 c.class.ensures.2.origin c.pool_in-pool.ensures in
    let found = is_slot world slots texts c.args.class c.args.index (pool_of c.pool_in-pool.result.now) slot pool.1 c.requires.there c.look_up_slot-slot.ensures.found in
    let filled : c.keep.new.self ≡ with_kept c.args.class c.args.index slot c.args.self.now = cc in
    subst (IsTrueOf world slots texts) (sym filled) (stays_true world slots texts c.args.self.now c.args.class c.args.index slot c.requires.truth found)

pub returns-clause-stays : goal.returns-clause-stays
returns-clause-stays g c =
    let slot = c.look_up_slot-slot.result in
    let filled : c.keep.new.self ≡ with_kept c.args.class c.args.index slot c.args.self.now = cc in
    subst (StaysKept c.args.self.now) (sym filled) (stays_kept c.args.self.now c.args.class c.args.index slot c.requires.empty)

pub returns-clause-steps : goal.returns-clause-steps
returns-clause-steps g c =
    let world = c.args.world.now in
    let pool = pool_here world c.args.class c.class.ensures.0 (names_of world) c.class.result.now.origin c.pool_in-pool.result.now c.class.ensures.1 c.class.ensures.2.origin c.pool_in-pool.ensures in
    omega (arith, c.look_up_slot-slot.ensures.steps, ap (λ (p : List Const). most_steps world p c.args.index) pool.1)
