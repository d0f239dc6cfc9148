-- What handlers catch, and what they take.
use Rattle.std.proofs.Common.{◌≡◌, ℕ, zero, suc, Bool, true, false, not, ◌&&◌, List, [], ◌∷◌, Option, Some, None, option_map, unwrap_or, length, map, bytes_eq, ap, sym, ◌∙◌, refl}
use Rattle.std.specs.List.{list_any}
use Rattle.std.specs.Option.{option_map_or}
use Rattle.std.proofs.lemmas.Slice.Eq.{bytes_eq-Decides}
use Rattle.jv_model.specs.Partial.{passes}
use Rattle.jv_model.specs.ClassData.{Const}
use Rattle.jv_model.specs.Operand.{Operand}
use Rattle.jv_model.specs.Code.{Handler, Body}
use Rattle.world_model.specs.World.{World, Class, class_in}
use Rattle.world_model.specs.BootNames.{java_throwable}
use Rattle.world_model.specs.Supertypes.{each_once, field_order_within, is_sub}
use Rattle.code_model.specs.Names.{named, named_handler, operand_at}
use Rattle.jv_types.specs.ClassData.{pool_of}
use Rattle.jv_types.specs.Code.{body_of, handler_of}
use Rattle.jv_types.specs.declared.code.Handler as read
use Rattle.class_names.proofs.Lists.{list_any-map}
use Rattle.jv_types.specs.declared.number.ClassNo.{ClassNo}
use Rattle.class_world.specs.World.{number_of}
use Rattle.member_types.proofs.LinkedTypes.{class-number}
use Rattle.typing_model.specs.VerificationType.{this, class, TypeFrame, has}
use Rattle.typing_model.specs.Rules.{goes_to, caught, handler_fits}
use Rattle.typing_model.specs.Environment.{Environment, class_of}
use Rattle.stackmap_verify.specs.declared.method.Method.{Method}
use Rattle.stackmap_verify.specs.Methods.{IsMethod}

no_class : (world : World) (name : List ℕ) → None ≡ number_of world name → class_in world name ≡ None
no_class world name none = by (class_in world name) refl
  where
    by : (o : Option Class) → class_in world name ≡ o → o ≡ None
    by None is = refl
    by (Some there) is =
        let found = class-number world name (ap (passes (λ (c : Class). true)) is) in
        absurd (let both = none ∙ found.1 in cc)

-- the name of the class that a row with that index catches
abbrev pub caught_by : List Const → Option ℕ → List ℕ
caught_by pool index = option_map_or (λ operand. unwrap_or (class_of operand) []) (option_map (operand_at pool) index) java_throwable

-- a class that isn't there is below no class that is
pub not_below : (world : World) (name above : List ℕ) (number : ClassNo) → None ≡ number_of world name → number_of world above ≡ Some number
    → is_sub world name above ≡ false
unfolding each_once field_order_within
not_below world name above number none there = by (length world.classes)
  where
    apart : bytes_eq above name ≡ false
    apart = cases (bytes_eq above name) refl
      where
        cases : (b : Bool) → bytes_eq above name ≡ b → b ≡ false
        cases false is = refl
        cases true is =
            let same : above ≡ name = (bytes_eq-Decides above name).0 is in
            absurd (let both = none ∙ ap (number_of world) (sym same) ∙ there in cc)

    by : (most : ℕ) → list_any (bytes_eq above) (each_once [] (field_order_within most world name)) ≡ false
    by zero = refl
    by (suc most) = rw (no_class world name none, apart) refl

handlers_named : (pool : List Const) (descriptor : List ℕ) (body : Body ℕ) → (named pool descriptor body).handlers ≡ map (named_handler pool) body.handlers
unfolding named
handlers_named pool descriptor body = refl

-- the handlers of the method are those that were read
handlers_are : (method : Method) (e : Environment) → IsMethod method e
    → e.body.handlers ≡ map (named_handler (pool_of method.code.now.pool.now)) (map handler_of method.code.now.body.now.handlers.items)
handlers_are method e is =
    ap (λ (b : Body Operand). b.handlers) is.code.body
    ∙ handlers_named (pool_of method.code.now.pool.now) e.method.descriptor (body_of method.code.now.body.now)

-- a test finds one of the method's handlers just where it finds one that was read
pub any_handler : (method : Method) (e : Environment) → IsMethod method e → (p : Handler Operand → Bool)
    → list_any p e.body.handlers
    ≡ list_any (λ (h : read.Handler). p (named_handler (pool_of method.code.now.pool.now) (handler_of h))) method.code.now.body.now.handlers.items
any_handler method e is p =
    let pool = pool_of method.code.now.pool.now in
    let items = method.code.now.body.now.handlers.items in
    ap (list_any p) (handlers_are method e is)
    ∙ list_any-map p (named_handler pool) (map handler_of items)
    ∙ list_any-map (λ (h : Handler ℕ). p (named_handler pool h)) handler_of items

-- ---- whether a handler fits

module _ (method : Method) (e : Environment) (is : IsMethod method e) (frame : TypeFrame) (handler : Handler Operand) where
  goes : Bool
  goes = goes_to e (record { locals = frame.locals; stack = class (caught handler) ∷ [] }) handler.target

  throws : (b : Bool) → is_sub method.world.now (caught handler) java_throwable ≡ b → is_sub e.world (caught handler) java_throwable ≡ b
  throws b at = ap (λ (w : World). is_sub w (caught handler) java_throwable) is.environment.world_is ∙ at

  -- what it catches is no throwable
  pub no_throwable : is_sub method.world.now (caught handler) java_throwable ≡ false → false ≡ handler_fits e frame handler
  unfolding goes
  no_throwable not_sub = sym (ap (λ (b : Bool). goes && b && not (has this frame.locals)) (throws false not_sub) ∙ by goes)
    where
      by : (b : Bool) → (b && false && not (has this frame.locals)) ≡ false
      by true = refl
      by false = refl

  -- a local is uninitialized `this`
  pub uninitialized_left : has this frame.locals ≡ true → false ≡ handler_fits e frame handler
  unfolding goes
  uninitialized_left left =
      sym (ap (λ (b : Bool). goes && is_sub e.world (caught handler) java_throwable && not b) left ∙ by goes (is_sub e.world (caught handler) java_throwable))
    where
      by : (b s : Bool) → (b && s && false) ≡ false
      by true true = refl
      by true false = refl
      by false s = refl

  -- it's decided by its map frame
  pub decided : is_sub method.world.now (caught handler) java_throwable ≡ true → has this frame.locals ≡ false
      → goes_to e (record { locals = frame.locals; stack = class (caught handler) ∷ [] }) handler.target ≡ handler_fits e frame handler
  unfolding goes
  decided sub none = by goes ∙ sym (λ i. goes && throws true sub i && not (none i))
    where
      by : (b : Bool) → b ≡ (b && true && true)
      by true = refl
      by false = refl
