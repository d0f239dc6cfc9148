use Rattle.std.proofs.Common.{arith}
use Rattle.std.specs.Prelude.{pos}
use Rattle.std.proofs.lemmas.Int.{to_z-of_z}
use Rattle.std.proofs.lemmas.List.{length-map}
use Rattle.jv_values.specs.declared.value.Value.TheVariants.{Int}
use Rattle.jv_values.specs.Values.{value_of, values_of}
use Rattle.local_steps.proofs.ListLemmas.{slice_get_values, incremented_within}
use Rattle.local_steps.proofs.moves.increment.Goals as goal

pub returns : goal.returns
returns c =
    let within = incremented_within c.args.local c.args.added (values_of c.args.locals.now) c.requires in
    let e = slice_get_values c.args.locals.now c.args.local (Int (pos 0)) (omega (arith, length-map c.args.locals.now value_of)) in
    rw (e, c.in-Int.is) (grind (arith, to_z-of_z, c.set_local.ensures, c.int_op.ensures))
