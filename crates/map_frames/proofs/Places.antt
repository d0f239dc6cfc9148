-- Types as locals, and as operands.
use Rattle.std.proofs.Common.{◌≡◌, ℕ, zero, suc, ◌+◌, ◌-◌, ◌≤◌, Bool, true, false, List, [], ◌∷◌, ◌++◌, length, replicate, reverse, map, ap, sym, subst, ◌∙◌, refl, arith, if◌then◌else◌, append_assoc, length-append, leb}
use Rattle.std.proofs.lemmas.Bool.Decides.{leb_tells}
use Rattle.std.proofs.lemmas.Grind.{flat_map-append}
use Rattle.std.proofs.lemmas.List.{length-map, length-replicate, replicate-append-replicate, map-append, reverse-append}
use Rattle.std.proofs.lemmas.List.Elements.{All-append, All-replicate}
use Rattle.std.proofs.lemmas.Simd.{map-map}
use Rattle.jv_model.specs.ClassData.{Const}
use Rattle.jv_model.specs.Descriptors as descriptors
use Rattle.jv_model.specs.Operand.{Operand}
use Rattle.jv_model.specs.Code.{Body}
use Rattle.code_model.specs.Names.{named}
use Rattle.world_model.specs.World.{World, is_static_method}
use Rattle.typing_model.specs.VerificationType as model
use Rattle.typing_model.specs.VerificationType.{top, this, class, is_long}
use Rattle.typing_model.specs.Environment.{Environment, is_constructor}
use Rattle.typing_model.specs.DescriptorFrame.{as_locals, receivers, parameter_locals, filled}
use Rattle.type_rules.specs.declared.types.FieldType.{FieldType}
use Rattle.type_rules.specs.declared.types.VerificationType.{VerificationType}
use Rattle.type_rules.specs.declared.types.VerificationType.TheVariants.{Top}
use Rattle.type_rules.specs.Types.{type_of, field_type_of, IsKnownType}
use Rattle.type_rules.specs.Frames.{types_of, AreKnown}

-- types after others are locals after theirs
pub locals-append : (types others : List model.VerificationType) → as_locals (types ++ others) ≡ as_locals types ++ as_locals others
locals-append types others = flat_map-append (λ type. if is_long type then type ∷ top ∷ [] else type ∷ []) types others

-- locals so far, and one type more
pub one-more : (old so_far types : List model.VerificationType) (type : model.VerificationType) → so_far ≡ old ++ as_locals types
    → so_far ++ as_locals (type ∷ []) ≡ old ++ as_locals (types ++ type ∷ [])
one-more old so_far types type is =
    ap (λ (ts : List model.VerificationType). ts ++ as_locals (type ∷ [])) is
    ∙ append_assoc old (as_locals types) (as_locals (type ∷ []))
    ∙ ap (λ (ts : List model.VerificationType). old ++ ts) (sym (locals-append types (type ∷ [])))

-- ---- places that are filled up

-- a body with names has the places of the body with indices
pub max-locals : (e : Environment) (pool : List Const) (descriptor : List ℕ) (body : Body ℕ) → e.body ≡ named pool descriptor body
    → e.body.max_locals ≡ body.max_locals
unfolding named
max-locals e pool descriptor body is = ap (λ (b : Body Operand). b.max_locals) is

-- some places more are filled
pub filled-more : {A : Type 0} (items : List A) (item : A) (most count : ℕ) → count ≤ most - length items
    → (items ++ replicate count item) ++ replicate (most - length (items ++ replicate count item)) item
    ≡ items ++ replicate (most - length items) item
filled-more items item most count few =
    let more : length (items ++ replicate count item) ≡ length items + count =
    length-append items (replicate count item) ∙ ap (λ (n : ℕ). length items + n) (length-replicate count item) in
    let left : count + (most - (length items + count)) ≡ most - length items = omega (arith, few) in
    rw more
    (append_assoc items (replicate count item) (replicate (most - (length items + count)) item)
    ∙ ap (λ (l : List _). items ++ l)
    (replicate-append-replicate count (most - (length items + count)) item ∙ ap (λ (n : ℕ). replicate n item) left))

-- filled up they are no more than they are to be exactly where they were no more
pub room-filled : {A : Type 0} (items : List A) (item : A) (most : ℕ)
    → leb (length (items ++ replicate (most - length items) item)) most ≡ leb (length items) most
room-filled items item most =
    ap (λ (n : ℕ). leb n most) (length-append items (replicate (most - length items) item) ∙ ap (λ (n : ℕ). length items + n) (length-replicate (most - length items) item))
    ∙ by (length items)
  where
    by : (n : ℕ) → leb (n + (most - n)) most ≡ leb n most
    by n = grind (arith, leb_tells)

-- ---- the receiver and the parameters

-- the receiver takes one place
receiver-places : (e : Environment) → as_locals (receivers e) ≡ receivers e
receiver-places e = by (is_static_method e.method) (is_constructor e)
  where
    one : (constructs : Bool) → as_locals ((if constructs then this else class e.class.name) ∷ []) ≡ (if constructs then this else class e.class.name) ∷ []
    one true = refl
    one false = refl

    by : (static constructs : Bool) → as_locals (if static then [] else (if constructs then this else class e.class.name) ∷ [])
        ≡ (if static then [] else (if constructs then this else class e.class.name) ∷ [])
    by true constructs = refl
    by false constructs = one constructs

pub parameters-named : (world : World) (numbers : List FieldType) (types : List descriptors.FieldType) → map (field_type_of world) numbers ≡ types
    → map (λ (type : FieldType). model.type_of (field_type_of world type)) numbers ≡ map model.type_of types
parameters-named world numbers types are = sym (map-map model.type_of (field_type_of world) numbers) ∙ ap (map model.type_of) are

pub parameter-places : (e : Environment) → receivers e ++ as_locals (map model.type_of e.type.parameters) ≡ parameter_locals e
parameter-places e =
    ap (λ (ls : List model.VerificationType). ls ++ as_locals (map model.type_of e.type.parameters)) (sym (receiver-places e))
    ∙ sym (locals-append (receivers e) (map model.type_of e.type.parameters))

-- ---- locals by number and by name

map-replicate : {A B : Type 0} (f : A → B) (n : ℕ) (x : A) → map f (replicate n x) ≡ replicate n (f x)
map-replicate f zero x = refl
map-replicate {A} {B} f (suc n) x = ap (λ (l : List B). f x ∷ l) (map-replicate f n x)

module _ (world : World) (items : List VerificationType) (most : ℕ) where
  -- they are filled up alike
  pub filled-types : (e : Environment) (types : List model.VerificationType) (all : List VerificationType) → e.body.max_locals ≡ most
      → types_of world items ≡ types → all ≡ items ++ replicate (most - length items) Top → filled e types ≡ types_of world all
  filled-types e types all places are is =
      (λ i. sym are i ++ replicate (places i - length (sym are i)) top)
      ∙ ap (λ (n : ℕ). types_of world items ++ replicate (most - n) top) (length-map items (type_of world))
      ∙ ap (λ (l : List model.VerificationType). types_of world items ++ l) (sym (map-replicate (type_of world) (most - length items) Top))
      ∙ sym (map-append (type_of world) items (replicate (most - length items) Top))
      ∙ ap (types_of world) (sym is)

  pub filled-known : (all : List VerificationType) → AreKnown world items → all ≡ items ++ replicate (most - length items) Top → AreKnown world all
  filled-known all known is =
      subst (AreKnown world) (sym is)
      (All-append (IsKnownType world) items (replicate (most - length items) Top) known (All-replicate (IsKnownType world) (most - length items) Top tt))

-- ---- operands

pub map-reverse : {A B : Type 0} (f : A → B) (xs : List A) → map f (reverse xs) ≡ reverse (map f xs)
map-reverse f [] = refl
map-reverse {A} {B} f (x ∷ xs) =
    ap (map f) (reverse-append (x ∷ []) xs) ∙ map-append f (reverse xs) (x ∷ [])
    ∙ ap (λ (l : List B). l ++ f x ∷ []) (map-reverse f xs) ∙ sym (reverse-append (f x ∷ []) (map f xs))

pub three-maps : {A B C D : Type 0} (f : C → D) (g : B → C) (h : A → B) (xs : List A) → map (λ x. f (g (h x))) xs ≡ map f (map g (map h xs))
three-maps f g h [] = refl
three-maps {A} {B} {C} {D} f g h (x ∷ xs) = ap (λ (l : List D). f (g (h x)) ∷ l) (three-maps f g h xs)
