-- What is asked of a world so that its code runs as typing says (JVMS 4.10.1, 5.4).
use Rattle.std.specs.Prelude.{◌≡◌, ◌⊎◌, ℕ, suc, ◌<◌, List, true, false, ◌==◌, Some, None, slice_get}
use Rattle.jv_model.specs.Operand.{Operand}
use Rattle.jv_model.specs.Flow.{targets_of}
use Rattle.jv_model.specs.Code.{Placed, Handler, Body}
use Rattle.world_model.specs.World.{World, Class, Method, class_in, declared_method}
use Rattle.world_model.specs.BootNames.{java_object}
use Rattle.typing_model.specs.Assignable.{names_interface}
use Rattle.typing_model.specs.Environment.{Environment, environment_of}
use Rattle.typing_model.specs.FailingPlace.{failing_place}
use Rattle.link_laws.specs.Above.{IsDirectly, IsSound}

-- No class is above itself, nothing is above java/lang/Object, and above an interface are interfaces and that class.
pub record IsOrderly (world : World) : Type 0 where
  pub sound : IsSound world
  pub topmost : (above : List ℕ) → IsDirectly world java_object above → ⊥
  pub above_interface : (name above : List ℕ) → names_interface world name ≡ true → IsDirectly world name above
      → (above ≡ java_object) ⊎ (names_interface world above ≡ true)

-- The instructions of a method stand one behind another, each at a pc of its own, the first at 0; targets and handlers
-- are instructions.
pub record StandsRight (body : Body Operand) : Type 0 where
  pub apart : (m n : ℕ) (q p : Placed Operand) → m < n → slice_get body.instructions m ≡ Some q
      → slice_get body.instructions n ≡ Some p → (q.pc == p.pc) ≡ false
  pub behind : (n : ℕ) (p q : Placed Operand) → slice_get body.instructions n ≡ Some p
      → slice_get body.instructions (suc n) ≡ Some q → p.next ≡ q.pc
  pub targets : (n k target : ℕ) (p : Placed Operand) → slice_get body.instructions n ≡ Some p
      → slice_get (targets_of p.instruction) k ≡ Some target
      → (m : ℕ) × (q : Placed Operand) × (slice_get body.instructions m ≡ Some q) × (q.pc ≡ target)
  pub first : (p : Placed Operand) × (slice_get body.instructions 0 ≡ Some p) × (p.pc ≡ 0)
  pub handlers : (k : ℕ) (h : Handler Operand) → slice_get body.handlers k ≡ Some h
      → (m : ℕ) × (q : Placed Operand) × (slice_get body.instructions m ≡ Some q) × (q.pc ≡ h.target)

-- Each method with code is well typed, and its instructions stand right.
pub record IsVerified (world : World) : Type 0 where
  pub orderly : IsOrderly world
  pub typed : (name : List ℕ) (class : Class) (m descriptor : List ℕ) (method : Method) (e : Environment)
      → class_in world name ≡ Some class → declared_method m descriptor class ≡ Some method
      → environment_of world class method ≡ Some e → failing_place world class method ≡ None
  pub right : (name : List ℕ) (class : Class) (m descriptor : List ℕ) (method : Method) (e : Environment)
      → class_in world name ≡ Some class → declared_method m descriptor class ≡ Some method
      → environment_of world class method ≡ Some e → StandsRight e.body
