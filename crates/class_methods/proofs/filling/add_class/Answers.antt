use Rattle.std.proofs.Common.{[], ◌∷◌, map, ap, ◌∙◌}
use Rattle.std.proofs.lemmas.List.{map-append}
use Rattle.class_methods.proofs.Rows.{adds_class}
use Rattle.class_methods.proofs.filling.add_class.Goals as goal

pub returns : goal.returns
returns c =
    adds_class _ _ _ _ _ _ _ c.new-row.ensures
    (ap (map (λ row. row.items)) c.in_ok-push.ensures.ok ∙ map-append (λ row. row.items) c.args.rows.now.items (c.add_methods.new.row ∷ []))
    c.in_ok-add_methods.ensures
