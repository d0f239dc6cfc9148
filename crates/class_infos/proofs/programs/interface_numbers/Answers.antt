use Rattle.std.proofs.Common.{List, ℕ, ◌++◌, Option, map, position, bytes_eq, option_map, option_to_list, refl, arith, ap, ◌∙◌}
use Rattle.std.specs.List.{filter_map}
use Rattle.code_model.specs.Names.{class_name_at}
use Rattle.jv_types.specs.ClassData.{pool_of}
use Rattle.class_world.specs.World.{number_in}
use Rattle.class_infos.proofs.Growing.{added_found, found_all}
use Rattle.class_infos.proofs.programs.interface_numbers.Goals as goal

pub loop-interface-preserved : goal.loop-interface-preserved
loop-interface-preserved c =
    let found = c.number_of.ensures.number ∙ ap (λ (t : List ℕ). position (bytes_eq t) c.args.names.now) c.class_name_at.ensures in
    added_found (λ (l : List ℕ). filter_map (number_in c.args.names.now) (map (class_name_at (pool_of c.args.pool.now)) l))
    (λ (n : ℕ). number_in c.args.names.now (class_name_at (pool_of c.args.pool.now) n)) refl (λ x xs. refl)
    c.args.interfaces.now c.loop-interface.interface-index 0 _ _ _ (omega arith)
    (c.in_ok-push_found.ensures
    ∙ ap (λ (o : Option ℕ). c.loop-interface.numbers.items ++ option_to_list (option_map (λ n. record { 0 = n }) o)) found)
    c.loop-interface.invariant

pub returns : goal.returns
returns c =
    found_all (λ (l : List ℕ). filter_map (number_in c.args.names.now) (map (class_name_at (pool_of c.args.pool.now)) l))
    (λ (n : ℕ). number_in c.args.names.now (class_name_at (pool_of c.args.pool.now) n)) refl (λ x xs. refl)
    c.args.interfaces.now c.loop-interface.interface-index _ _ (omega arith) c.loop-interface.invariant
