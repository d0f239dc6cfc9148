use Rattle.std.proofs.Common.{◌≡◌, ◌-◌, ◌∷◌, [], length, ap, length-append, arith}
use Rattle.jv_types.specs.MapFrame.{map_type_of}
use Rattle.jv_types.specs.declared.frames.TypeRow.{TypeRow}
use Rattle.jv_types.proofs.Rows.{count_few, words_are_few, few_words_of, add_one}
use Rattle.jv_types.proofs.frames.add_type.Goals as goal

pub overflow_add-result : goal.overflow_add-result
overflow_add-result c =
    let row : TypeRow = record { below = c.args.types.top; map_type = c.args.map_type } in
    omega (
      arith,
      count_few c.args.rows.now.items c.requires.rows c.args.types c.requires.types,
      ap length c.add.ensures.items,
      length-append c.args.rows.now.items (row ∷ []),
      c.len.ensures,
    )

pub overflow_add-result-2 : goal.overflow_add-result-2
overflow_add-result-2 c =
    let row : TypeRow = record { below = c.args.types.top; map_type = c.args.map_type } in
    omega (
      arith,
      words_are_few c.args.rows.now.items c.requires.rows c.args.types c.requires.types,
      few_words_of (map_type_of c.args.map_type),
      c.words_of.ensures,
      ap length c.add.ensures.items,
      length-append c.args.rows.now.items (row ∷ []),
      c.len.ensures,
    )

pub returns-clause-added : goal.returns-clause-added
returns-clause-added c =
    let row : TypeRow = record { below = c.args.types.top; map_type = c.args.map_type } in
    let top : length c.args.rows.now.items ≡ c.len.result - 1 =
    omega (arith, ap length c.add.ensures.items, length-append c.args.rows.now.items (row ∷ []), c.len.ensures) in
    rw (c.add.ensures.items, c.words_of.ensures, ← top)
    (add_one c.args.rows.now.items c.requires.rows c.args.types c.requires.types c.args.map_type)
