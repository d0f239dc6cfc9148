use Rattle.std.proofs.Common.{◌≡◌, ℤ, ap, sym, ◌∙◌, rules}
use Rattle.std.specs.Prelude.{FitsSigned}
use Rattle.std.specs.Int.{w64, cast_signed, cast_unsigned}
use Rattle.std.proofs.lemmas.Int.{to_z-of_z}
use Rattle.jv_model.specs.Instruction.{of_long}
use Rattle.machine_model.specs.Value.{is_of_kind}
use Rattle.jv_values.specs.declared.value.Value.{Value}
use Rattle.jv_values.specs.declared.value.Value.TheVariants.{Long}
use Rattle.jv_values.specs.Values.{value_of}
use Rattle.division_steps.proofs.division.two_longs.Goals as goal

kept : (n : ℤ) → FitsSigned w64 n → Long n ≡ Long (cast_signed w64 (cast_unsigned w64 n))
kept n fits = ap Long (sym (to_z-of_z w64 n fits))

pub as_long-requires : goal.as_long-requires
as_long-requires c =
    let has = c.requires in
    ap (λ (v : Value). is_of_kind of_long (value_of v)) (c.two_on_top-a.ensures.first has) ∙ has.next.fits

pub as_long-requires-2 : goal.as_long-requires-2
as_long-requires-2 c =
    let has = c.requires in
    ap (λ (v : Value). is_of_kind of_long (value_of v)) (c.two_on_top-a.ensures.second has) ∙ has.top.fits

pub returns-clause-first : goal.returns-clause-first
returns-clause-first c has = sym (c.two_on_top-a.ensures.first has) ∙ c.as_long.ensures ∙ kept c.as_long.result (search rules)

pub returns-clause-second : goal.returns-clause-second
returns-clause-second c has = sym (c.two_on_top-a.ensures.second has) ∙ c.as_long-2.ensures ∙ kept c.as_long-2.result (search rules)
