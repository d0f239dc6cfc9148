-- In a linked world a value of a type is one of each type that the first goes to.
use Rattle.std.proofs.Common.{◌≡◌, ℕ, List, Option, Some, None, Bool, true, refl, ap, sym, subst, ◌||◌, bytes_eq, inl, inr}
use Rattle.std.specs.Prelude.{◌⊎◌}
use Rattle.std.proofs.lemmas.Bool.{eqb-true, or_left, or_right}
use Rattle.std.proofs.lemmas.Slice.Eq.{bytes_eq-Decides}
use Rattle.jv_model.specs.Descriptors.{FieldType, byte_type, char_type, double_type, float_type, int_type as int_field, long_type as long_field, short_type, boolean_type, class_type, array_of}
use Rattle.world_model.specs.World.{World}
use Rattle.world_model.specs.Supertypes.{is_sub}
use Rattle.typing_model.specs.VerificationType.{VerificationType, top, int as int_type, long as long_type, null as null_type, this, new_at, class, array, is_same, is_same_field_type}
use Rattle.typing_model.specs.Assignable.{assignable, class_assignable, component_assignable, names_interface}
use Rattle.typing_model.specs.Environment.{Environment}
use Rattle.machine_model.specs.Value.{Value, null, reference}
use Rattle.machine_model.specs.TypedValues.{HeapTyping, may_stand, stands_for, is_of_type}
use Rattle.frame_laws.proofs.Outcome.{or_either}
use Rattle.frame_laws.proofs.Taking.{known_of}
use Rattle.frame_laws.proofs.Verified.{Subsumes}
use Rattle.jv_model.specs.Partial.{passes}
use Rattle.world_model.specs.BootNames.{java_object}

-- What is asked of a world.
pub record Orders (world : World) : Type 0 where
  pub transitive : (a b c : List ℕ) → is_sub world a b ≡ true → is_sub world b c ≡ true → is_sub world a c ≡ true
  -- above an interface are interfaces and Object, above Object only itself
  pub above_interface : (a b : List ℕ) → names_interface world a ≡ true → is_sub world a b ≡ true
      → (bytes_eq b java_object || names_interface world b) ≡ true
  pub above_object : (b : List ℕ) → is_sub world java_object b ≡ true → bytes_eq b java_object ≡ true

-- ---- equal names and types

-- names that compare equal are equal
same_name : (a b : List ℕ) → bytes_eq a b ≡ true → a ≡ b
same_name a b h = (bytes_eq-Decides a b).0 h

-- field types that compare equal are equal
pub same_field_type : (a b : FieldType) → is_same_field_type a b ≡ true → a ≡ b
unfolding is_same_field_type
same_field_type byte_type byte_type h = refl
same_field_type char_type char_type h = refl
same_field_type double_type double_type h = refl
same_field_type float_type float_type h = refl
same_field_type int_field int_field h = refl
same_field_type long_field long_field h = refl
same_field_type short_type short_type h = refl
same_field_type boolean_type boolean_type h = refl
same_field_type (class_type a) (class_type b) h = ap class_type (same_name a b h)
same_field_type (array_of a) (array_of b) h = ap array_of (same_field_type a b h)
same_field_type a b h = absurd cc

-- types that compare equal are equal
pub same_type : (a b : VerificationType) → is_same a b ≡ true → a ≡ b
unfolding is_same
same_type top top h = refl
same_type int_type int_type h = refl
same_type long_type long_type h = refl
same_type null_type null_type h = refl
same_type this this h = refl
same_type (new_at a) (new_at b) h = ap new_at (eqb-true a b h)
same_type (class a) (class b) h = ap class (same_name a b h)
same_type (array a) (array b) h = ap array (same_field_type a b h)
same_type a b h = absurd cc

-- ---- what may stand in a place

module _ (world : World) (orders : Orders world) where
  -- a place for that class holds every object
  abbrev holds_all : List ℕ → Bool
  holds_all name = bytes_eq name java_object || names_interface world name

  -- how a class goes to another: the same, to an interface, or to one above
  data Goes (a b : List ℕ) : Type 0 where
    same : a ≡ b → Goes a b
    interface : names_interface world b ≡ true → Goes a b
    below : is_sub world a b ≡ true → Goes a b

  -- a class that goes to another does so in one of these ways
  goes_how : (a b : List ℕ) → class_assignable world a b ≡ true → Goes a b
  goes_how a b h = go (or_either (bytes_eq a b || names_interface world b) (is_sub world a b) h)
    where
      less : (bytes_eq a b ≡ true) ⊎ (names_interface world b ≡ true) → Goes a b
      less (inl h) = same (same_name a b h)
      less (inr h) = interface h

      go : ((bytes_eq a b || names_interface world b) ≡ true) ⊎ (is_sub world a b ≡ true) → Goes a b
      go (inl h) = less (or_either (bytes_eq a b) (names_interface world b) h)
      go (inr h) = below h

  -- a class goes to those above it
  goes_up : (a b : List ℕ) → is_sub world a b ≡ true → class_assignable world a b ≡ true
  goes_up a b h = or_right (bytes_eq a b || names_interface world b) (is_sub world a b) h

  -- a class goes to every interface
  goes_to_interface : (a b : List ℕ) → names_interface world b ≡ true → class_assignable world a b ≡ true
  goes_to_interface a b h =
      or_left (bytes_eq a b || names_interface world b) (is_sub world a b) (or_right (bytes_eq a b) (names_interface world b) h)

  -- a place that holds all goes only to such places
  all_go : (from to : List ℕ) → holds_all from ≡ true → class_assignable world from to ≡ true → holds_all to ≡ true
  all_go from to h a = go (goes_how from to a)
    where
      above : is_sub world from to ≡ true → (bytes_eq from java_object ≡ true) ⊎ (names_interface world from ≡ true) → holds_all to ≡ true
      above sub (inl is) = or_left (bytes_eq to java_object) (names_interface world to)
          (orders.above_object to (subst (λ (n : List ℕ). is_sub world n to ≡ true) (same_name from java_object is) sub))
      above sub (inr is) = orders.above_interface from to is sub

      go : Goes from to → holds_all to ≡ true
      go (same is) = subst (λ (n : List ℕ). holds_all n ≡ true) is h
      go (interface is) = or_right (bytes_eq to java_object) (names_interface world to) is
      go (below sub) = above sub (or_either (bytes_eq from java_object) (names_interface world from) h)

  -- where everything stands, so does this class
  all_hold : (own to : List ℕ) → holds_all to ≡ true → (bytes_eq to java_object || class_assignable world own to) ≡ true
  all_hold own to h = go (or_either (bytes_eq to java_object) (names_interface world to) h)
    where
      go : (bytes_eq to java_object ≡ true) ⊎ (names_interface world to ≡ true)
          → (bytes_eq to java_object || class_assignable world own to) ≡ true
      go (inl is) = or_left (bytes_eq to java_object) (class_assignable world own to) is
      go (inr is) = or_right (bytes_eq to java_object) (class_assignable world own to) (goes_to_interface own to is)

  -- an object of a class that may stand for one may stand for what this goes to
  classes_go : (own from to : List ℕ) → (bytes_eq from java_object || class_assignable world own from) ≡ true
      → class_assignable world from to ≡ true
      → (bytes_eq to java_object || class_assignable world own to) ≡ true
  classes_go own from to h a = go (or_either (bytes_eq from java_object) (class_assignable world own from) h)
    where
      wide : holds_all from ≡ true → (bytes_eq to java_object || class_assignable world own to) ≡ true
      wide all = all_hold own to (all_go from to all a)

      is_below : is_sub world own to ≡ true → (bytes_eq to java_object || class_assignable world own to) ≡ true
      is_below sub = or_right (bytes_eq to java_object) (class_assignable world own to) (goes_up own to sub)

      further : is_sub world own from ≡ true → Goes from to → (bytes_eq to java_object || class_assignable world own to) ≡ true
      further sub (same is) = is_below (subst (λ (n : List ℕ). is_sub world own n ≡ true) is sub)
      further sub (interface is) = all_hold own to (or_right (bytes_eq to java_object) (names_interface world to) is)
      further sub (below next) = is_below (orders.transitive own from to sub next)

      how : Goes own from → (bytes_eq to java_object || class_assignable world own to) ≡ true
      how (same is) =
          or_right (bytes_eq to java_object) (class_assignable world own to) (subst (λ (n : List ℕ). class_assignable world n to ≡ true) (sym is) a)
      how (interface is) = wide (or_right (bytes_eq from java_object) (names_interface world from) is)
      how (below sub) = further sub (goes_how from to a)

      go : (bytes_eq from java_object ≡ true) ⊎ (class_assignable world own from ≡ true)
          → (bytes_eq to java_object || class_assignable world own to) ≡ true
      go (inl is) = wide (or_left (bytes_eq from java_object) (names_interface world from) is)
      go (inr h) = how (goes_how own from h)

  -- an object of a type that may stand for one may stand for what this goes to
  pub stands_on : (from to own : FieldType) → may_stand world own from ≡ true → component_assignable world from to ≡ true
      → may_stand world own to ≡ true
  unfolding may_stand component_assignable is_same_field_type
  stands_on (class_type from) (class_type to) (class_type own) h a = classes_go own from to h a
  stands_on (class_type from) (class_type to) (array_of own) h a = all_go from to h a
  stands_on (class_type from) (class_type to) own h a = absurd cc
  stands_on (array_of from) (class_type to) (array_of own) h a = or_left (bytes_eq to java_object) (names_interface world to) a
  stands_on (array_of from) (class_type to) own h a = absurd cc
  stands_on (array_of from) (array_of to) (array_of own) h a = stands_on from to own h a
  stands_on (array_of from) (array_of to) own h a = absurd cc
  stands_on from to own h a = subst (λ (t : FieldType). may_stand world own t ≡ true) (same_field_type from to a) h

-- ---- values

module _ (heap : HeapTyping) (orders : Orders heap.world) where
  -- an object stands for a type where what may stand for another may stand for this
  object_stands : (id : ℕ) (from to : FieldType)
      → ((own : FieldType) → may_stand heap.world own from ≡ true → may_stand heap.world own to ≡ true)
      → stands_for heap id from ≡ true → stands_for heap id to ≡ true
  object_stands id from to on h = go (heap.type_at id) h
    where
      go : (o : Option FieldType) → passes (λ own. may_stand heap.world own from) o ≡ true
          → passes (λ own. may_stand heap.world own to) o ≡ true
      go None h = absurd cc
      go (Some own) h = on own h

  -- an array may stand for Object
  array_in_object : (from : FieldType) (to : List ℕ) → bytes_eq to java_object ≡ true → (own : FieldType)
      → may_stand heap.world own (array_of from) ≡ true
      → may_stand heap.world own (class_type to) ≡ true
  unfolding may_stand is_same_field_type
  array_in_object from to is (array_of own) h = or_left (bytes_eq to java_object) (names_interface heap.world to) is
  array_in_object from to is own h = absurd cc

  -- a value of a type is one of each type that this goes to
  value_goes : (e : Environment) (from to : VerificationType) (value : Value) → assignable heap.world from to ≡ true
      → is_of_type heap e from value ≡ true → is_of_type heap e to value ≡ true
  unfolding assignable is_of_type component_assignable
  value_goes e from top value a f = known_of heap e from value f
  value_goes e null_type (class to) null a f = refl
  value_goes e null_type (class to) value a f = absurd cc
  value_goes e null_type (array to) null a f = refl
  value_goes e null_type (array to) value a f = absurd cc
  value_goes e (class from) (class to) null a f = refl
  value_goes e (class from) (class to) (reference id) a f =
      object_stands id (class_type from) (class_type to) (λ own h. stands_on heap.world orders (class_type from) (class_type to) own h a) f
  value_goes e (class from) (class to) value a f = absurd cc
  value_goes e (array from) (class to) null a f = refl
  value_goes e (array from) (class to) (reference id) a f = object_stands id (array_of from) (class_type to) (array_in_object from to a) f
  value_goes e (array from) (class to) value a f = absurd cc
  value_goes e (array from) (array to) null a f = refl
  value_goes e (array from) (array to) (reference id) a f =
      object_stands id (array_of from) (array_of to) (λ own h. stands_on heap.world orders (array_of from) (array_of to) own h a) f
  value_goes e (array from) (array to) value a f = absurd cc
  value_goes e from to value a f = subst (λ (t : VerificationType). is_of_type heap e t value ≡ true) (same_type from to a) f

  -- in a world with such orders, types subsume
  pub subsumes_in : (e : Environment) → e.world ≡ heap.world → Subsumes heap e
  subsumes_in e is from to value a f = value_goes e from to value (subst (λ (w : World). assignable w from to ≡ true) is a) f
