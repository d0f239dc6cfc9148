-- What there may be none of.
use Rattle.std.proofs.Common.{◌≡◌, Bool, true, false, cond, Option, Some, None, refl, IsTrue}
use Rattle.std.specs.Prelude.{option_and_then}

abbrev some_of : {A : Type 0} → A → Option A
some_of x = Some x

-- there is the same
pub some_is : {A : Type 0} (x y : A) → some_of x ≡ some_of y → x ≡ y
some_is x y e = cc

-- there is none
pub none_is : {A P : Type 0} (x : A) → None ≡ some_of x → P
none_is x e = absurd cc

-- what was made of there was made of one
pub option_bind :
    {A B : Type 0} (o : Option A) (f : A → Option B) (y : B) → option_and_then f o ≡ Some y
    → (x : A) × (o ≡ Some x) × (f x ≡ Some y)
option_bind None f y e = absurd cc
option_bind (Some x) f y e = (x, refl, e)

-- what passed a test
pub passes :
    {A : Type 0} (test : Bool) (x y : A) → cond test (some_of x) None ≡ Some y
    → IsTrue test × (x ≡ y)
passes true x y e = (refl, cc)
passes false x y e = absurd cc
