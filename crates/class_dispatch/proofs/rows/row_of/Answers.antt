use Rattle.std.proofs.Common.{◌≡◌, IfOk, Bool, List, map, ap, sym, subst, ◌∙◌}
use Rattle.class_dispatch.specs.Rows.{is_selectable, flags_select, methods_in}
use Rattle.class_dispatch.proofs.Steps.{read_row}
use Rattle.class_dispatch.proofs.rows.row_of.Goals as goal

pub returns-in-Program : goal.returns-in-Program
returns-in-Program c =
    subst (λ (l : List Bool). IfOk c.read_row.result (λ row. row.items ≡ l))
    (ap (map (λ m. flags_select m.flags)) c.as_slice-in-Program.ensures ∙ read_row c.in-Program.loaded
    ∙ ap (λ o. map is_selectable (methods_in o)) (sym c.in-Program.is)) c.read_row.ensures
