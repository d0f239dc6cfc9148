use Rattle.std.proofs.Common.{◌≡◌, ◌<◌, true, List, ℕ, Some, is_some, length, sum, if◌then◌else◌, ap, sym, ◌∙◌, arith}
use Rattle.std.proofs.Math.ListN.{set}
use Rattle.static_fields.specs.Statics.{Statics, Word, value_in, value_at, same_place}
use Rattle.static_fields.proofs.Places.{member_there, put_there}
use Rattle.static_fields.proofs.statics.StaticFields.put.Goals as goal

pub returns-clause-values : goal.returns-clause-values
returns-clause-values c = λ other.
    let it = c.self.inside in
    let place = c.args.place in
    let there : is_some (value_in it.numbers it.values.items place.class.0 place.index) ≡ true =
    ap (λ (s : Statics). is_some (value_at s place)) c.self.view_is ∙ c.requires in
    let member = member_there it.numbers it.values.items place.class.0 place.index there in
    let number = c.number-number.ensures.number in
    let inside : c.number-number.result < length it.values.items = omega (arith, c.number-number.ensures.inside, c.self.invariant) in
    ap (λ (l : List Word). value_in it.numbers l other.class.0 other.index)
    (c.set.ensures.items ∙ ap (λ (n : ℕ). set it.values.items n c.args.value) number)
    ∙ put_there it.numbers it.values.items place c.args.value member.0 (omega (arith, inside, number)) other
    ∙ ap (λ (s : Statics). if same_place place other then Some c.args.value else value_at s other) c.self.view_is
