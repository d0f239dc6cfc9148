use Rattle.std.proofs.Common.{ap, ◌∙◌, sym, length}
use Rattle.std.proofs.lemmas.List.{map_push, length-map}
use Rattle.jv_types.specs.Instructions.{placed_of, end_of}
use Rattle.jv_types.proofs.Tables.{table_push}
use Rattle.jv_types.proofs.instructions.Instructions.push.Goals as goal

pub invariant_of-self-2 : goal.invariant_of-self-2
invariant_of-self-2 c =
    let rows = c.self.inside.rows.items in
    rw (
      c.add.ensures.items,
      c.add_number.ensures,
      c.in_ok-reserve.ensures.items,
      c.in_ok-reserve-2.ensures.items,
      map_push placed_of rows c.args.insn,
    )
    (table_push _ _ (placed_of c.args.insn) _ c.self.invariant
    (c.requires.follows ∙ ap end_of (sym c.self.view_is)) c.requires.some c.requires.short
    (c.len.ensures ∙ ap length c.in_ok-reserve.ensures.items ∙ sym (length-map rows placed_of)))
