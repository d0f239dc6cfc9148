use Rattle.std.proofs.Common.{◌≡◌, true, List, length, map, reverse, ap, sym, subst, ◌∙◌}
use Rattle.jv_types.specs.Sequence.{Sequence}
use Rattle.jv_types.specs.declared.number.ClassNo.{ClassNo}
use Rattle.class_layouts.specs.ByNumber.{are_inside, all_fields, all_cells}
use Rattle.class_layouts.proofs.Named.{chains_inside, all_layout_fields, all_layout_cells}
use Rattle.class_layouts.proofs.layouts.ClassLayouts.open.Goals as goal

pub layouts_of-requires : goal.layouts_of-requires
layouts_of-requires c =
    subst (λ (l : List (Sequence ClassNo)). are_inside (length c.in_ok-rows.rows.items) l ≡ true) (sym c.as_slice.ensures)
    (chains_inside c.args.world.now c.in_ok-rows.rows.items c.in_ok-rows.ensures c.in_ok-chains.chains.items c.in_ok-chains.ensures)

pub returns : goal.returns
returns c =
    let world = c.args.world.now in
    let rows = c.in_ok-rows.rows.items in
    let chains = c.in_ok-chains.chains.items in
    record {
      fields = all_layout_fields world rows c.in_ok-rows.ensures chains c.in_ok-chains.ensures c.in_ok-layouts.layouts.fields.items
          (c.in_ok-layouts.ensures.fields
          ∙ ap (λ (l : List (Sequence ClassNo)). map (λ chain. all_fields rows (reverse chain.items)) l) c.as_slice.ensures);
      cells = all_layout_cells world rows c.in_ok-rows.ensures chains c.in_ok-chains.ensures c.in_ok-layouts.layouts.layouts.classes.items
          (c.in_ok-layouts.ensures.cells
          ∙ ap (λ (l : List (Sequence ClassNo)). map (λ chain. all_cells rows (reverse chain.items)) l) c.as_slice.ensures);
    }
