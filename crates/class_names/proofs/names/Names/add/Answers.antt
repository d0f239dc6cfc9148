use Rattle.std.proofs.Common.{◌≡◌, rules}
use Rattle.class_names.proofs.Lists.{slice_get-position, map-with_item, slice_get-view}
use Rattle.class_names.proofs.names.Names.add.Goals as goal

pub returns-in-Some-clause-number : goal.returns-in-Some-clause-number
returns-in-Some-clause-number c = slice_get-position _ _ _ c.in-Some.ensures.number

pub returns-clause-ok : goal.returns-clause-ok
returns-clause-ok c =
    map-with_item _ _ _ _ _ _ c.self.view_is (search rules) c.in_ok-number.ensures.keys

pub returns-clause-number : goal.returns-clause-number
returns-clause-number c =
    let stored = c.in_ok-number.ensures.stored in
    let copied : c.extend_from_slice.new.self.items ≡ c.args.text.now = search rules in
    slice_get-view (λ v. v.items) c.insert_full.new.self.keys c.in_ok-number.number stored.0 _ _ stored.1 stored.2 copied
