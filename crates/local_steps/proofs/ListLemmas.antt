-- Reads of lists and of the constant pool.
use Rattle.std.proofs.Common.{◌≡◌, ℕ, ◌<◌, List, length, get_or, refl, sym, ap, subst, ◌∙◌, ⊎_elim}
use Rattle.std.specs.Prelude.{ℤ, Some, None, IsSome, unwrap_or, slice_get}
use Rattle.std.specs.Option.{option_map}
use Rattle.std.proofs.Math.ListN.{get_or-map}
use Rattle.std.proofs.lemmas.List.{get_or_past}
use Rattle.std.proofs.lemmas.Option.{slice_get_cases, slice_get-map, slice_get-get_or, slice_get_read, get_or_from_slice_get}
use Rattle.jv_model.specs.ClassData as model
use Rattle.code_model.specs.Names.{operand_at, operand_by}
use Rattle.machine_model.specs.Value as m
use Rattle.jv_types.specs.declared.class_data.Const.{Const}
use Rattle.jv_types.specs.declared.class_data.Const.TheVariants.{Gap, Utf8, Integer, Float, Long, Double, Class, String, Fieldref, Methodref, InterfaceMethodref, NameAndType, MethodHandle, MethodType, InvokeDynamic}
use Rattle.jv_types.specs.ClassData.{const_of, pool_of}
use Rattle.jv_values.specs.declared.value.Value.{Value}
use Rattle.jv_values.specs.Values.{value_of, values_of}
use Rattle.local_steps.specs.Constants.{int_named, long_named}
use Rattle.local_steps.specs.Outcome.{incremented_in}

pub unwrap_get : {X : Type 0} (xs : List X) (i : ℕ) (d : X) → unwrap_or (slice_get xs i) d ≡ get_or xs i d
unwrap_get xs i d =
    ⊎_elim (λ t. ap (λ o. unwrap_or o d) t.2 ∙ sym (get_or_from_slice_get xs i t.0 d t.2))
    (λ p. ap (λ o. unwrap_or o d) p.1 ∙ sym (get_or_past xs i d p.0))
    (slice_get_cases xs i).1

-- what an index names, by the entry that stands there
pub operand_is : (pool : List Const) (i : ℕ) → operand_at (pool_of pool) i ≡ operand_by (pool_of pool) (const_of (get_or pool i Gap))
unfolding operand_at
operand_is pool i = ap (operand_by (pool_of pool)) (unwrap_get (pool_of pool) i model.gap ∙ get_or-map const_of pool i Gap)

pub slice_get_values : (words : List Value) (i : ℕ) (z : Value) → i < length words → slice_get (values_of words) i ≡ Some (value_of (get_or words i z))
slice_get_values words i z h = slice_get-map value_of words i ∙ ap (option_map value_of) (slice_get-get_or words i z h)

-- the entry that was read inside the pool
pub entry_read : (pool : List Const) (j i : ℕ) (x : Const) → j ≡ i → j < length pool → x ≡ get_or pool j x → get_or pool i Gap ≡ x
entry_read pool j i x e h r =
    sym (ap (λ k. get_or pool k Gap) e) ∙ get_or_from_slice_get pool j x Gap (slice_get_read pool (length pool) j x refl h r)

-- an entry that is no Integer names no int, and one that is no Long no long
pub no_int : (pool : List model.Const) (x : Const) → ((n : ℤ) → x ≡ Integer n → ⊥) → int_named (operand_by pool (const_of x)) ≡ None
no_int pool Gap h = refl
no_int pool (Utf8 a) h = refl
no_int pool (Integer a) h = absurd (h a refl)
no_int pool (Float a) h = refl
no_int pool (Long a) h = refl
no_int pool (Double a) h = refl
no_int pool (Class a) h = refl
no_int pool (String a) h = refl
no_int pool (Fieldref a b) h = refl
no_int pool (Methodref a b) h = refl
no_int pool (InterfaceMethodref a b) h = refl
no_int pool (NameAndType a b) h = refl
no_int pool (MethodHandle a b) h = refl
no_int pool (MethodType a) h = refl
no_int pool (InvokeDynamic a b) h = refl

pub no_long : (pool : List model.Const) (x : Const) → ((n : ℤ) → x ≡ Long n → ⊥) → long_named (operand_by pool (const_of x)) ≡ None
no_long pool Gap h = refl
no_long pool (Utf8 a) h = refl
no_long pool (Integer a) h = refl
no_long pool (Float a) h = refl
no_long pool (Long a) h = absurd (h a refl)
no_long pool (Double a) h = refl
no_long pool (Class a) h = refl
no_long pool (String a) h = refl
no_long pool (Fieldref a b) h = refl
no_long pool (Methodref a b) h = refl
no_long pool (InterfaceMethodref a b) h = refl
no_long pool (NameAndType a b) h = refl
no_long pool (MethodHandle a b) h = refl
no_long pool (MethodType a) h = refl
no_long pool (InvokeDynamic a b) h = refl

-- an int that is added to is there
pub incremented_within : (n : ℕ) (by : ℤ) (locals : List m.Value) → IsSome (incremented_in n by locals (slice_get locals n)) → n < length locals
incremented_within n by locals h =
    ⊎_elim (λ t. t.1) (λ p. let none = subst (λ o. IsSome (incremented_in n by locals o)) p.1 h in absurd (cc))
    (slice_get_cases locals n).1
