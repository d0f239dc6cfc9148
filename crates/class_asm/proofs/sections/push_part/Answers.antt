-- Each of the four lists grows by what the line says.
use Rattle.std.proofs.lemmas.Result.{on_ok_weaker}
use Rattle.jv_types.specs.ClassData.{attr_of, member_of}
use Rattle.asm_parts.specs.Parts.{part_of}
use Rattle.asm_parts.specs.Pools.{entries_in}
use Rattle.class_asm.proofs.NearLemmas.{part_near}
use Rattle.class_asm.proofs.SaidLemmas.{mapped_more, said_next, same_more}
use Rattle.class_asm.proofs.sections.push_part.Goals as goal

pub interface_of-interface-requires-clause-near : goal.interface_of-interface-requires-clause-near
interface_of-interface-requires-clause-near c =
    (part_near (entries_in c.args.pool.now) (part_of c.args.part.now) c.requires.near).0

pub field_of-requires-clause-near : goal.field_of-requires-clause-near
field_of-requires-clause-near c =
    (part_near (entries_in c.args.pool.now) (part_of c.args.part.now) c.requires.near).0

pub method_of-requires-clause-near : goal.method_of-requires-clause-near
method_of-requires-clause-near c =
    (part_near (entries_in c.args.pool.now) (part_of c.args.part.now) c.requires.near).0

pub method_of-requires-clause-block : goal.method_of-requires-clause-block
method_of-requires-clause-block c =
    (part_near (entries_in c.args.pool.now) (part_of c.args.part.now) c.requires.near).1

pub attribute_of-requires-clause-near : goal.attribute_of-requires-clause-near
attribute_of-requires-clause-near c =
    (part_near (entries_in c.args.pool.now) (part_of c.args.part.now) c.requires.near).0

pub returns : goal.returns
returns c =
    let entries = entries_in c.args.pool.now in
    let part = part_of c.args.part.now in
    on_ok_weaker c.push_if_any-4.result
    (λ last parts before. said_next entries parts part c.args.sections.now _ before
    (same_more _ _ _ _ c.in_ok-push_if_any.ensures c.interface_of-interface.ensures)
    (mapped_more member_of _ _ _ _ c.in_ok-push_if_any-2.ensures c.in_ok-field.ensures)
    (mapped_more member_of _ _ _ _ c.in_ok-push_if_any-3.ensures c.in_ok-method.ensures)
    (mapped_more attr_of _ _ _ _ last c.in_ok-attribute.ensures))
    c.push_if_any-4.ensures
