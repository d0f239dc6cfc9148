-- The value on top of operands.
use Rattle.std.proofs.Common.{◌≡◌, ◌≤◌, List, [], ◌∷◌, length, refl, ap, arith}
use Rattle.std.specs.Prelude.{Some, IsSome, reverse}
use Rattle.std.proofs.lemmas.List.{take_all}
use Rattle.machine_model.specs.Value as model
use Rattle.jv_values.specs.declared.value.Value.{Value}
use Rattle.jv_values.specs.declared.value.Value.TheVariants.{Int, Long, Half, Null, Ref}
use Rattle.jv_values.specs.Values.{value_of, values_of, operands_in, places_of}
use Rattle.thread_frames.specs.Frames.{words_of}
use Rattle.thread_frames.specs.Machine.{value_on_top}

pub length-words_of : (value : Value) → length (words_of value) ≡ places_of value
length-words_of (Int n) = refl
length-words_of (Long n) = refl
length-words_of Half = refl
length-words_of Null = refl
length-words_of (Ref n) = refl

pub few_places : (value : Value) → places_of value ≤ 2
few_places (Int n) = omega arith
few_places (Long n) = omega arith
few_places Half = omega arith
few_places Null = omega arith
few_places (Ref n) = omega arith

pub all_operands : (operands : List Value) → operands_in operands (length operands) ≡ values_of (reverse operands)
unfolding operands_in
all_operands operands = ap (λ words. values_of (reverse words)) (take_all (length operands) operands (omega arith))

pub no_operands : (operands : List Value) → operands_in operands 0 ≡ []
unfolding operands_in
no_operands operands = refl

-- what stands below a half
pub below_half : (value : Value) (rest : List model.Value) → IsSome (value_on_top (model.half ∷ value_of value ∷ rest)) → value_on_top (model.half ∷ value_of value ∷ rest) ≡ Some (value_of value)
below_half (Int n) rest h = absurd cc
below_half (Long n) rest h = refl
below_half Half rest h = absurd cc
below_half Null rest h = absurd cc
below_half (Ref n) rest h = absurd cc

pub record Alone (value : Value) (rest : List model.Value) : Type 0 where
  pub there : value_on_top (value_of value ∷ rest) ≡ Some (value_of value)
  pub place : places_of value ≡ 1

-- a word on top that is no half
pub alone : (value : Value) (rest : List model.Value) → (value ≡ Half → ⊥) → IsSome (value_on_top (value_of value ∷ rest)) → Alone value rest
alone (Int n) rest other h = record { there = refl; place = refl }
alone (Long n) rest other h = absurd cc
alone Half rest other h = absurd (other refl)
alone Null rest other h = record { there = refl; place = refl }
alone (Ref n) rest other h = record { there = refl; place = refl }

pub some_below : (rest : List model.Value) → IsSome (value_on_top (model.half ∷ rest)) → 1 ≤ length rest
some_below [] h = absurd cc
some_below (value ∷ rest) h = omega arith
