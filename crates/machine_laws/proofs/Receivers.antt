-- Receivers: they are the first locals of methods, and have the methods of their classes.
use Rattle.std.proofs.Common.{◌≡◌, ℕ, List, [], ◌∷◌, ◌++◌, Some, Bool, true, false, refl, ap, ◌∙◌, if◌then◌else◌, option_and_then, map, sym}
use lib.Pointwise.{pointwise}
use Rattle.jv_model.specs.Descriptors.{FieldType, class_type}
use Rattle.world_model.specs.World.{is_static_method}
use Rattle.typing_model.specs.VerificationType.{this, class, type_of}
use Rattle.typing_model.specs.Environment.{Environment, is_constructor}
use Rattle.typing_model.specs.DescriptorFrame.{as_locals, parameter_locals}
use Rattle.machine_model.specs.Value.{Value, reference}
use Rattle.machine_model.specs.Heap.{Contents, instance, array, string}
use Rattle.machine_model.specs.ObjectTypes.{own_type}
use Rattle.machine_model.specs.Deed.{Running, class_of, class_of_contents}
use Rattle.machine_model.specs.TypedValues.{HeapTyping, heap_typing, stands_for, is_of_type}
use Rattle.frame_laws.proofs.Outcome.{both}
use Rattle.machine_laws.specs.Runnable.{is_object_type, class_of_type}
use Rattle.machine_laws.proofs.Heaps.{typed_is}
use Rattle.machine_laws.proofs.Ready.{Ready}

-- a receiver and arguments are the first locals of a method that isn't static
pub receiver_fits : (heap : HeapTyping) (e : Environment) (id : ℕ) (arguments : List Value) → is_static_method e.method ≡ false
    → stands_for heap id (class_type e.class.name) ≡ true
    → pointwise (is_of_type heap e) (as_locals (map type_of e.type.parameters)) arguments ≡ true
    → pointwise (is_of_type heap e) (parameter_locals e) (reference id ∷ arguments) ≡ true
unfolding is_of_type
receiver_fits heap e id arguments kind stands fit =
    ap (λ (b : Bool). pointwise (is_of_type heap e) (as_locals ((if b then [] else (if is_constructor e then this else class e.class.name) ∷ []) ++ map type_of e.type.parameters)) (reference id ∷ arguments)) kind
    ∙ go (is_constructor e)
  where
    go : (b : Bool) → pointwise (is_of_type heap e) (as_locals ((if b then this else class e.class.name) ∷ map type_of e.type.parameters)) (reference id ∷ arguments) ≡ true
    go true = both (stands_for heap id (class_type e.class.name)) (pointwise (is_of_type heap e) (as_locals (map type_of e.type.parameters)) arguments) stands fit
    go false = both (stands_for heap id (class_type e.class.name)) (pointwise (is_of_type heap e) (as_locals (map type_of e.type.parameters)) arguments) stands fit

module _ (r : Running) (live : ℕ → Bool) (ready : Ready r live) where
  abbrev heap : HeapTyping
  heap = heap_typing r.state live

  -- an object in use is of a type of objects
  pub object_type : (id : ℕ) (own : FieldType) → heap.type_at id ≡ Some own → is_object_type own ≡ true
  object_type id own at = let is = typed_is r.state live id own at in sym (ap is_object_type is.3) ∙ of is.1
    where
      of : (contents : Contents) → is_object_type (own_type contents) ≡ true
      of (instance name values) = refl
      of (string units) = refl
      of (array type elements) = refl

  -- the class whose methods an object in use has is that of its type
  pub object_class : (id : ℕ) (own : FieldType) → heap.type_at id ≡ Some own → class_of r.state id ≡ Some (class_of_type own)
  object_class id own at =
      let is = typed_is r.state live id own at in
      ap (option_and_then (λ contents. Some (class_of_contents contents))) is.2
      ∙ ap Some (of is.1 ∙ ap class_of_type is.3)
    where
      of : (contents : Contents) → class_of_contents contents ≡ class_of_type (own_type contents)
      of (instance name values) = refl
      of (string units) = refl
      of (array type elements) = refl
