use Rattle.std.proofs.Common.{rules, ◌≡◌, false, ◌&&◌, not, subst, sym}
use Rattle.std.specs.List.{list_any}
use Rattle.std.proofs.lemmas.Fn.{filter_same}
use Rattle.jv_types.specs.declared.code.Handler.{Handler}
use Rattle.stackmap_verify.specs.Cover.{Rows, covers_at, HasLeft}
use Rattle.stackmap_verify.proofs.Covering.{seen_left}
use Rattle.stackmap_verify.proofs.cover.Cover.see.Goals as goal

pub returns-clause-left : goal.returns-clause-left
returns-clause-left c = λ test none left.
    seen_left test c.self.inside.rows.items c.self.inside.unseen.items c.retain.new.self.items c.self.inside.begun c.self.inside.place
    (subst (λ (v : Rows). list_any (λ row. covers_at v.place row && test row) v.unseen ≡ false) (sym c.self.view_is) none)
    (filter_same _ (λ (row : Handler). not (covers_at c.self.inside.place row)) _ (λ x b q k. search rules) _ _ c.retain.ensures.filtered)
    (subst (HasLeft test) (sym c.self.view_is) left)
