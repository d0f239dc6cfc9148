use Rattle.std.proofs.Common.{◌≡◌, ◌<◌, ◌∷◌, [], ◌++◌, List, ℕ, Option, Some, None, length, subst, ap, sym, ◌∙◌, arith}
use Rattle.std.proofs.Math.ListN.{set}
use Rattle.heap_face.specs.declared.address.Addr.{Addr}
use Rattle.literal_table.specs.Literals.{Literals, IsKept, address_at}
use Rattle.literal_table.proofs.Strings.{kept_added}
use Rattle.literal_table.proofs.table.LiteralTable.set_literal.Goals as goal

pub invariant_of-self : goal.invariant_of-self
invariant_of-self c =
    let it = c.self.inside in
    let count : length it.texts ≡ length c.args.self.now.texts = ap (λ (l : Literals). length l.texts) c.self.view_is in
    let inside : c.args.number < length it.texts = omega (arith, c.requires.inside) in
    let fresh : address_at it.addresses.items c.args.number ≡ None =
    ap (λ (l : Literals). address_at l.addresses c.args.number) c.self.view_is ∙ c.requires.fresh in
    subst (λ (a : List (Option Addr)). IsKept it.texts a c.add.new.self.items) (sym c.set.ensures.items)
    (subst (λ (o : List ℕ). IsKept it.texts (set it.addresses.items c.args.number (Some c.args.address)) o) (sym c.add.ensures.items)
    (kept_added it.texts it.addresses.items it.order.items c.args.number c.args.address c.self.invariant inside fresh))
