use Rattle.std.proofs.Common.{List, ℕ, [], ◌∷◌, ◌++◌, bytes_eq, sym, subst}
use Rattle.std.specs.List.{IsDistinct}
use Rattle.link_laws.proofs.Lists.{all_left}
use Rattle.class_infos.specs.Numbered.{boot_names}
use Rattle.class_infos.proofs.names.all_names.Goals as goal

distinct_left : (xs ys : List (List ℕ)) → IsDistinct bytes_eq (xs ++ ys) → IsDistinct bytes_eq xs
unfolding IsDistinct
distinct_left [] ys distinct = tt
distinct_left (x ∷ xs) ys distinct = (all_left _ xs ys distinct.0, distinct_left xs ys distinct.1)

pub add_boot_names-requires : goal.add_boot_names-requires
add_boot_names-requires c =
    subst (λ (l : List (List ℕ)). IsDistinct bytes_eq (l ++ boot_names c.args.boot.now)) (sym c.new-names.ensures)
    (distinct_left (boot_names c.args.boot.now) _ c.requires)
