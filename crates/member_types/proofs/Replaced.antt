-- Uninitialized types that are replaced, by number and by name.
use Rattle.std.proofs.Common.{◌≡◌, Bool, true, false, ◌||◌, if◌then◌else◌, List, [], ◌∷◌, map, reverse, ap, ◌∙◌, refl}
use Rattle.std.specs.List.{list_any}
use Rattle.std.proofs.lemmas.List.{reverse-append}
use Rattle.std.proofs.lemmas.List.Folds.{list_any-append}
use Rattle.std.proofs.lemmas.List.Elements.{All-map}
use Rattle.world_model.specs.World.{World}
use Rattle.typing_model.specs.VerificationType.{is_same, has}
use Rattle.type_rules.specs.declared.types.VerificationType.{VerificationType}
use Rattle.type_rules.specs.declared.types.VerificationType.TheVariants as types
use Rattle.type_rules.specs.Types.{type_of, IsKnownType}
use Rattle.type_rules.specs.Frames.{types_of, AreKnown}
use Rattle.member_types.specs.declared.replacements.Uninitialized.{Uninitialized}
use Rattle.member_types.specs.declared.replacements.Uninitialized.TheVariants.{This, New}
use Rattle.member_types.specs.Replacements.{is_uninitialized, replaced, type_of_uninitialized}

module _ (world : World) where
  pub same-uninitialized : (old : Uninitialized) (type : VerificationType)
      → is_same (type_of world (type_of_uninitialized old)) (type_of world type) ≡ is_uninitialized old type
  unfolding is_same
  same-uninitialized This types.Top = refl
  same-uninitialized This types.Int = refl
  same-uninitialized This types.Long = refl
  same-uninitialized This types.Null = refl
  same-uninitialized This types.This = refl
  same-uninitialized This (types.New pc) = refl
  same-uninitialized This (types.Class class) = refl
  same-uninitialized This (types.Array component) = refl
  same-uninitialized (New made) types.Top = refl
  same-uninitialized (New made) types.Int = refl
  same-uninitialized (New made) types.Long = refl
  same-uninitialized (New made) types.Null = refl
  same-uninitialized (New made) types.This = refl
  same-uninitialized (New made) (types.New pc) = refl
  same-uninitialized (New made) (types.Class class) = refl
  same-uninitialized (New made) (types.Array component) = refl

  pub has-uninitialized : (old : Uninitialized) (types : List VerificationType)
      → has (type_of world (type_of_uninitialized old)) (types_of world types) ≡ list_any (is_uninitialized old) types
  has-uninitialized old [] = refl
  has-uninitialized old (type ∷ types) = λ i. same-uninitialized old type i || has-uninitialized old types i

  replaced-one : (old : Uninitialized) (fresh type : VerificationType)
      → (if is_same (type_of world (type_of_uninitialized old)) (type_of world type) then type_of world fresh else type_of world type)
      ≡ type_of world (replaced old fresh type)
  replaced-one old fresh type =
      ap (λ (b : Bool). if b then type_of world fresh else type_of world type) (same-uninitialized old type) ∙ by (is_uninitialized old type)
    where
      by : (b : Bool) → (if b then type_of world fresh else type_of world type) ≡ type_of world (if b then fresh else type)
      by true = refl
      by false = refl

  pub replaced-all : (old : Uninitialized) (fresh : VerificationType) (types : List VerificationType)
      → map (λ type. if is_same (type_of world (type_of_uninitialized old)) type then type_of world fresh else type) (types_of world types)
      ≡ types_of world (map (replaced old fresh) types)
  replaced-all old fresh [] = refl
  replaced-all old fresh (type ∷ types) = λ i. replaced-one old fresh type i ∷ replaced-all old fresh types i

  one-known : (old : Uninitialized) (fresh type : VerificationType) → IsKnownType world fresh → IsKnownType world type
      → IsKnownType world (replaced old fresh type)
  one-known old fresh type fresh_known known = by (is_uninitialized old type)
    where
      by : (b : Bool) → IsKnownType world (if b then fresh else type)
      by true = fresh_known
      by false = known

  pub replaced-known : (old : Uninitialized) (fresh : VerificationType) (types : List VerificationType) → IsKnownType world fresh
      → AreKnown world types → AreKnown world (map (replaced old fresh) types)
  replaced-known old fresh types fresh_known known =
      All-map (IsKnownType world) (replaced old fresh) types (λ k d inside. one-known old fresh _ fresh_known (known k d inside))

-- ---- from the other end

or_comm : (a b : Bool) → ((a || (b || false)) ≡ (b || a))
or_comm true true = refl
or_comm true false = refl
or_comm false true = refl
or_comm false false = refl

pub list_any-reverse : {A : Type 0} (p : A → Bool) (xs : List A) → list_any p (reverse xs) ≡ list_any p xs
list_any-reverse p [] = refl
list_any-reverse p (x ∷ xs) =
    ap (list_any p) (reverse-append (x ∷ []) xs) ∙ list_any-append p (reverse xs) (x ∷ [])
    ∙ or_comm (list_any p (reverse xs)) (p x) ∙ ap (λ (b : Bool). p x || b) (list_any-reverse p xs)
