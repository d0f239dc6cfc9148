use Rattle.std.proofs.Common.{List, ℕ, refl, arith, ap, map, subst, bytes_eq, ◌∙◌, ◌++◌}
use Rattle.std.specs.List.{IsDistinct}
use Rattle.class_names.specs.Distinct.{with_item}
use Rattle.class_names.proofs.Lists.{IsDistinct-map}
use Rattle.class_names.proofs.Growing.{name_added, added_all}
use Rattle.class_names.proofs.names.Names.copy.Goals as goal

pub loop-text-init : goal.loop-text-init
loop-text-init c =
    ap (λ (l : List (List ℕ)). l ++ map (λ text. text.items) c.as_slice-text-items.result.now) c.new-copy.ensures
    ∙ ap (map (λ text. text.items)) c.as_slice-text-items.ensures.keys ∙ c.self.view_is

pub loop-text-preserved : goal.loop-text-preserved
loop-text-preserved c =
    name_added (map (λ text. text.items)) (λ text. text.items) refl (λ x xs. refl) c.as_slice-text-items.result.now c.loop-text.text-index c.text-item.result
    _ _ c.args.self.now (omega arith) c.text-item.is (subst (IsDistinct bytes_eq) c.self.view_is (IsDistinct-map bytes_eq _ _ c.self.invariant.0))
    (c.in_ok-add.ensures.ok ∙ ap (with_item bytes_eq c.loop-text.copy) c.as_slice.ensures.value) c.loop-text.invariant

pub returns : goal.returns
returns c =
    added_all (map (λ text. text.items)) (λ text. text.items) refl (λ x xs. refl) c.as_slice-text-items.result.now c.loop-text.text-index _ _
    (omega arith) c.loop-text.invariant
