use Rattle.std.proofs.Common.{◌≡◌, ℤ, ap, sym, ◌∙◌, rules}
use Rattle.std.specs.Prelude.{FitsSigned}
use Rattle.std.specs.Int.{w32, cast_signed, cast_unsigned}
use Rattle.std.proofs.lemmas.Int.{to_z-of_z}
use Rattle.jv_model.specs.Instruction.{of_int}
use Rattle.machine_model.specs.Value.{is_of_kind}
use Rattle.jv_values.specs.declared.value.Value.{Value}
use Rattle.jv_values.specs.declared.value.Value.TheVariants.{Int}
use Rattle.jv_values.specs.Values.{value_of}
use Rattle.division_steps.proofs.division.two_ints.Goals as goal

kept : (n : ℤ) → FitsSigned w32 n → Int n ≡ Int (cast_signed w32 (cast_unsigned w32 n))
kept n fits = ap Int (sym (to_z-of_z w32 n fits))

pub as_int-requires : goal.as_int-requires
as_int-requires c =
    let has = c.requires in
    ap (λ (v : Value). is_of_kind of_int (value_of v)) (c.two_on_top-a.ensures.first has) ∙ has.next.fits

pub as_int-requires-2 : goal.as_int-requires-2
as_int-requires-2 c =
    let has = c.requires in
    ap (λ (v : Value). is_of_kind of_int (value_of v)) (c.two_on_top-a.ensures.second has) ∙ has.top.fits

pub returns-clause-first : goal.returns-clause-first
returns-clause-first c has = sym (c.two_on_top-a.ensures.first has) ∙ c.as_int.ensures ∙ kept c.as_int.result (search rules)

pub returns-clause-second : goal.returns-clause-second
returns-clause-second c has = sym (c.two_on_top-a.ensures.second has) ∙ c.as_int-2.ensures ∙ kept c.as_int-2.result (search rules)
