use Rattle.code_store.proofs.StoreLemmas.{stored_within, stored_at, within, shown}
use Rattle.code_store.proofs.store.CodeStore.get.Goals as goal

pub get-stored-requires : goal.get-stored-requires
get-stored-requires g c =
    stored_within c.self.inside.pools.items c.self.inside.codes.items g.C.Codes.table c.args.mark.now.body c.self.invariant c.requires

pub get-requires : goal.get-requires
get-requires g c =
    let at = stored_at c.self.inside.pools.items c.self.inside.codes.items g.C.Codes.table c.args.mark.now.body c.get-stored.result.now c.self.invariant c.get-stored.ensures in
    within c.self.inside.pools.items c.get-stored.result.now.pool at.2.pool at.2.there

pub returns : goal.returns
returns g c =
    let at = stored_at c.self.inside.pools.items c.self.inside.codes.items g.C.Codes.table c.args.mark.now.body c.get-stored.result.now c.self.invariant c.get-stored.ensures in
    rw c.as_slice.ensures (shown c.self.inside.pools.items g.C.Codes.table c.args.mark.now.body c.get-stored.result.now c.get.result.now at.0 at.1 at.2 c.get.ensures)
