-- What a `new` makes of a frame.
use Rattle.std.proofs.Common.{◌≡◌, ◌<◌, ◌≤◌, ℕ, zero, suc, Bool, true, false, ◌||◌, if◌then◌else◌, List, [], ◌∷◌, Some, None, ◌∙◌, refl, arith}
use Rattle.jv_model.specs.Operand.{Operand}
use Rattle.world_model.specs.World.{World}
use Rattle.typing_model.specs.VerificationType.{TypeFrame, is_array, has, new_at, type_of}
use Rattle.typing_model.specs.Environment.{Environment, class_of, named_type}
use Rattle.typing_model.specs.Transition.{pushed}
use Rattle.typing_model.specs.ObjectTypes.{forgotten, object_made}
use Rattle.type_rules.specs.declared.types.ElementType.{ElementType}
use Rattle.type_rules.specs.declared.types.ElementType.TheVariants.{Byte, Char, Double, Float, Int, Long, Short, Boolean, Class}
use Rattle.type_rules.specs.Types.{element_of, in_arrays}
use Rattle.member_types.proofs.NamedTypes.{class-rule}

pub array-many : (world : World) (n : ℕ) (element : ElementType) → 0 < n → is_array (type_of (in_arrays n (element_of world element))) ≡ true
unfolding type_of
array-many world zero element some = absurd (omega arith)
array-many world (suc n) element some = refl

pub array-few : (world : World) (n : ℕ) (element : ElementType) → n ≤ 0 → is_array (type_of (in_arrays n (element_of world element))) ≡ false
unfolding type_of
array-few world (suc n) element few = absurd (omega arith)
array-few world zero Byte few = refl
array-few world zero Char few = refl
array-few world zero Double few = refl
array-few world zero Float few = refl
array-few world zero Int few = refl
array-few world zero Long few = refl
array-few world zero Short few = refl
array-few world zero Boolean few = refl
array-few world zero (Class class) few = refl

pub made-by : (e : Environment) (pc : ℕ) (operand : Operand) (frame : TypeFrame) (name : List ℕ) (array there : Bool)
    → class_of operand ≡ Some name → is_array (type_of (named_type name)) ≡ array → has (new_at pc) frame.stack ≡ there
    → object_made e pc operand frame
    ≡ (if array || there then None else pushed e (new_at pc ∷ []) (record { locals = forgotten pc frame.locals; stack = frame.stack }))
made-by e pc operand frame name array there named is_array_type is_there =
    class-rule (λ (n : List ℕ). if is_array (type_of (named_type n)) || has (new_at pc) frame.stack then None
    else pushed e (new_at pc ∷ []) (record { locals = forgotten pc frame.locals; stack = frame.stack })) operand name named
    ∙ (λ i. if is_array_type i || is_there i then None
    else pushed e (new_at pc ∷ []) (record { locals = forgotten pc frame.locals; stack = frame.stack }))
