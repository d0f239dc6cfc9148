-- The code of a linked world is what its classes' bytes spell (JVMS 4.7.3).
use Rattle.std.proofs.Common.{◌≡◌, ℕ, zero, suc, List, [], ◌∷◌, Some, refl, subst}
use Rattle.std.specs.Prelude.{slice_get}
use Rattle.std.specs.List.{AllByRecursion, AllZip}
use Rattle.jv_model.specs.ClassData.{Const, gap, Member}
use Rattle.jv_model.specs.ConstantPool.{const_at}
use Rattle.jv_model.specs.Code.{Body}
use Rattle.jv_model.specs.LoadedClass.{LoadedClass}
use Rattle.jv_model.specs.Profile.{IsU1, BeginsWithGap, IsMethod}
use Rattle.code_model.specs.Laws.{AreBytes}
use Rattle.code_model.specs.SpellsCode.{SpellsCode, HasCode}
use Rattle.code_laws.proofs.Loading.{codes_are_loaded}
use Rattle.link_laws.proofs.Lists.{all_weaker}
use Rattle.linked_laws.specs.Worlds.{IsReadClass}

begins : (pool : List Const) → BeginsWithGap pool → const_at pool 0 ≡ gap
begins [] is = absurd is
begins (gap ∷ entries) is = refl
begins (other ∷ entries) is = absurd is

are_bytes : (pool : List Const) (methods : List Member) → AllByRecursion (IsMethod pool) methods → AllByRecursion AreBytes methods
are_bytes pool methods all =
    all_weaker (IsMethod pool) AreBytes methods
    (λ m is. all_weaker _ (λ a. AllByRecursion IsU1 a.bytes) m.attributes (λ a its. its.bytes.1) is.member.attributes) all

-- each method has the code of its Code attribute, or none
pub methods_have_code : (loaded : LoadedClass) → IsReadClass loaded → AllZip (HasCode loaded.file) loaded.file.methods loaded.codes
methods_have_code loaded is =
    (codes_are_loaded loaded.file loaded.codes (begins loaded.file.pool is.in_profile.pool.entries)
    (are_bytes loaded.file.pool loaded.file.methods is.in_profile.methods)).0 is.code_read

-- of two lists that fit each other, the item on the left
pub left_of : {A B : Type 0} (R : A → B → Type 0) (xs : List A) (ys : List B) (k : ℕ) (y : B) → AllZip R xs ys → slice_get ys k ≡ Some y
    → (x : A) × (slice_get xs k ≡ Some x) × R x y
left_of R [] [] k y all at = absurd cc
left_of R [] (z ∷ ys) k y all at = absurd all
left_of R (x ∷ xs) [] k y all at = absurd all
left_of R (x ∷ xs) (z ∷ ys) zero y all at = let same : z ≡ y = cc in (x, refl, subst (R x) same all.0)
left_of R (x ∷ xs) (z ∷ ys) (suc k) y all at = left_of R xs ys k y all.1 at

-- The bytes that spell a method's code.
pub record IsSpelled (loaded : LoadedClass) (raw : Body ℕ) : Type 0 where
  pub member : Member
  pub bytes : List ℕ
  pub spells : SpellsCode loaded.file member bytes raw

pub body_spelled : (loaded : LoadedClass) → IsReadClass loaded → (k : ℕ) (raw : Body ℕ) → slice_get loaded.codes k ≡ Some (Some raw) → IsSpelled loaded raw
body_spelled loaded is k raw at =
    let left = left_of (HasCode loaded.file) loaded.file.methods loaded.codes k (Some raw) (methods_have_code loaded is) at in
    record { member = left.0; bytes = left.2.0; spells = left.2.2 }
