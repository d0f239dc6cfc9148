-- Frames that go where frames are wanted, by their lists of types.
use Rattle.std.proofs.Common.{◌≡◌, ◌-◌, ◌<◌, ◌&&◌, ◌||◌, not, List, [], ◌∷◌, length, reverse, get_or, ap, sym, subst, ◌∙◌, refl, arith}
use Rattle.std.specs.List.{list_any, All}
use Rattle.std.proofs.lemmas.List.{length-reverse, reverse-reverse, get_or-reverse}
use lib.Pointwise.{pointwise}
use Rattle.world_model.specs.World.{World}
use Rattle.typing_model.specs.VerificationType as model
use Rattle.typing_model.specs.VerificationType.{has, is_same}
use Rattle.typing_model.specs.Assignable.{assignable, operand_assignable, locals_assignable, stack_assignable}
use Rattle.type_rules.specs.declared.types.VerificationType.{VerificationType}
use Rattle.type_rules.specs.declared.types.VerificationType.TheVariants.{Top, Int, Long, Null, This, New, Class, Array}
use Rattle.type_rules.specs.declared.frame_assignment.Place.TheVariants.{Local, Operand}
use Rattle.type_rules.specs.Types.{type_of}
use Rattle.type_rules.specs.Frames.{types_of, is_uninitialized_this, all_go_in}
use Rattle.type_rules.proofs.Frames.{pointwise-reverse, pointwise-map}

-- what holds of all holds from the other end
pub All-reverse : {A : Type 0} (P : A → Type 0) (xs ys : List A) → reverse xs ≡ ys → All P ys → All P xs
All-reverse {A} P xs ys is all =
    λ k d inside.
    let long : length xs ≡ length ys = omega (arith, length-reverse xs, ap length is) in
    let here : k < length (reverse xs) = omega (arith, length-reverse xs) in
    let at : P (get_or ys (length ys - 1 - k) d) = all (length ys - 1 - k) d (omega arith) in
    let read = sym (get_or-reverse ys k d (omega arith)) ∙ ap (λ (l : List A). get_or l k d) (ap reverse (sym is) ∙ reverse-reverse xs) in
    subst P read at

module _ (world : World) where
  is_this-type : (type : VerificationType) → is_same model.this (type_of world type) ≡ is_uninitialized_this type
  unfolding is_same
  is_this-type Top = refl
  is_this-type Int = refl
  is_this-type Long = refl
  is_this-type Null = refl
  is_this-type This = refl
  is_this-type (New pc) = refl
  is_this-type (Class class) = refl
  is_this-type (Array component) = refl

  pub has_this-types : (types : List VerificationType) → has model.this (types_of world types) ≡ list_any is_uninitialized_this types
  has_this-types [] = refl
  has_this-types (type ∷ types) = λ i. is_this-type type i || has_this-types types i

  pub locals_assignable-parts : (from to : List VerificationType)
      → (all_go_in Local world from to && (not (list_any is_uninitialized_this from) || list_any is_uninitialized_this to))
      ≡ locals_assignable world (types_of world from) (types_of world to)
  locals_assignable-parts from to =
      let places = sym (pointwise-map (assignable world) (type_of world) (type_of world) from to) in
      λ i. places i && (not (sym (has_this-types from) i) || sym (has_this-types to) i)

  pub stack_assignable-parts : (from to stack : List VerificationType) → reverse to ≡ stack
      → all_go_in Operand world from to ≡ stack_assignable world (types_of world (reverse from)) (types_of world stack)
  stack_assignable-parts from to stack is =
      let E = λ (f t : VerificationType). operand_assignable world (type_of world f) (type_of world t) in
      sym (pointwise-map (operand_assignable world) (type_of world) (type_of world) (reverse from) stack
      ∙ (λ i. pointwise E (reverse from) (sym is i)) ∙ pointwise-reverse E from to)
