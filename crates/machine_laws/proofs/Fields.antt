-- `getstatic`, `putstatic`, `getfield` and `putfield` are right.
use Rattle.std.proofs.Common.{◌≡◌, ℕ, suc, zero, ◌<◌, List, [], ◌∷◌, Option, Some, Bool, true, false, refl, ap, sym, subst, ◌∙◌, if◌then◌else◌, cond, length, slice_get, slice_set, option_and_then, option_map, codes, map, find, nat_le, arith}
use Rattle.std.specs.Prelude.{bytes_eq, ◌||◌, not, ◌&&◌}
use Rattle.std.specs.List.{list_all, list_any}
use Rattle.std.proofs.lemmas.Bool.{and_parts, le-leb}
use lib.Pointwise.{pointwise}
use Rattle.jv_model.specs.Partial.{passes}
use Rattle.jv_model.specs.Descriptors.{FieldType, class_type}
use Rattle.jv_model.specs.Operand.{MemberReference}
use Rattle.jv_model.specs.Flow.{goes_on as flow_goes_on}
use Rattle.jv_model.specs.Instruction.{ValueKind, of_int, of_long, of_reference}
use Rattle.world_model.specs.BootNames.{java_string}
use Rattle.world_model.specs.Members.{same_member}
use Rattle.world_model.specs.Layout.{layout}
use Rattle.code_model.specs.TypeReading.{field_type_of}
use Rattle.typing_model.specs.VerificationType.{VerificationType, this, class, type_of}
use Rattle.typing_model.specs.MemberTypes.{is_owner, is_own_field}
use Rattle.typing_model.specs.Environment.{is_constructor}
use Rattle.typing_model.specs.Transition.{Test, to, below, popped, pushed, changed}
use Rattle.machine_model.specs.Value.{Value, int, long, half, null, reference, onto, taken_of, is_of_kind, kind_of, kind_of_type}
use Rattle.machine_model.specs.Heap.{Heap, Contents, instance, array, string, contents_at, with_contents}
use Rattle.machine_model.specs.ObjectTypes.{own_type}
use Rattle.machine_model.specs.State.{Static, State, static_value, with_static}
use Rattle.machine_model.specs.Deed.{Running, goes_on}
use Rattle.machine_model.specs.FieldSteps.{field_in, field_at, with_field, with_field_at, reads, get_static, put_static, get_field, put_field}
use Rattle.machine_model.specs.TypedValues.{HeapTyping, heap_typing, may_stand, stands_for, is_of_type, are_of_types, holds, is_declared}
use Rattle.machine_model.specs.Conforms.{is_present, contents_conform}
use Rattle.link_laws.proofs.Names.{same_text, text_same}
use Rattle.frame_laws.proofs.Outcome.{some_inj, both, popped_is, changed_is}
use Rattle.frame_laws.proofs.Verified.{some_and_is}
use Rattle.frame_laws.proofs.Onward.{subsumes}
use Rattle.frame_laws.proofs.Growing.{pairs_pass, declared_kept}
use Rattle.machine_laws.specs.Runnable.{is_operand, StaticUse, HasPlace, PlaceUse, FieldUse}
use Rattle.machine_laws.proofs.TypedStates.{IsTypedDeed}
use Rattle.machine_laws.proofs.Heaps.{typed_is, rewriting_grows}
use Rattle.machine_laws.proofs.Ready.{Ready, Follows, itself, rewriting, throws_rightly, operands_fit, operands_then, pushes_rightly, pops_rightly}
use Rattle.machine_laws.proofs.Operands.{lands, Object, no_object, object, class_object, held_of_type, of_type_held, TakesWanted, take_wanted, one_place, when_test}
use Rattle.machine_laws.proofs.Zeros.{kind_read, held_kind, read_too}
use Rattle.machine_laws.proofs.Making.{found_passes}

-- ---- lists

-- a value pairs with each place
pub paired : {A B : Type 0} (p : A → B → Bool) (xs : List A) (ys : List B) (n : ℕ) (x : A) → pointwise p xs ys ≡ true
    → slice_get xs n ≡ Some x → (y : B) × (slice_get ys n ≡ Some y) × (p x y ≡ true)
paired p [] ys n x h at = absurd cc
paired p (z ∷ xs) [] n x h at = absurd cc
paired p (z ∷ xs) (y ∷ ys) zero x h at =
    (y, refl, ap (λ (x : _). p x y) (sym (some_inj at)) ∙ (and_parts (p z y) (pointwise p xs ys) h).0)
paired p (z ∷ xs) (y ∷ ys) (suc n) x h at = paired p xs ys n x (and_parts (p z y) (pointwise p xs ys) h).1 at

-- and pairs still do with another in a place
pub paired_set : {A B : Type 0} (p : A → B → Bool) (xs : List A) (ys : List B) (n : ℕ) (x : A) (y : B)
    → pointwise p xs ys ≡ true → slice_get xs n ≡ Some x → p x y ≡ true → pointwise p xs (slice_set ys n y) ≡ true
paired_set p [] ys n x y h at k = absurd cc
paired_set p (z ∷ xs) [] n x y h at k = absurd cc
paired_set p (z ∷ xs) (w ∷ ys) zero x y h at k =
    both (p z y) (pointwise p xs ys) (ap (λ (x : _). p x y) (some_inj at) ∙ k) (and_parts (p z w) (pointwise p xs ys) h).1
paired_set p (z ∷ xs) (w ∷ ys) (suc n) x y h at k =
    let q = and_parts (p z w) (pointwise p xs ys) h in
    both (p z w) (pointwise p xs (slice_set ys n y)) q.0 (paired_set p xs ys n x y q.1 at k)

-- what some field of the statics passes a static field is found by
static_there : (statics : List Static) (field : MemberReference)
    → list_any (λ (f : MemberReference). same_member f field) (map (λ (s : Static). s.field) statics) ≡ true
    → (s : Static) × (find (λ (s : Static). same_member s.field field) statics ≡ Some s)
static_there [] field h = absurd cc
static_there (s ∷ statics) field h = go (same_member s.field field) refl h (λ k. static_there statics field k)
  where
    go : (b : Bool) → same_member s.field field ≡ b
        → (b || list_any (λ (f : MemberReference). same_member f field) (map (λ (s : Static). s.field) statics)) ≡ true
        → (list_any (λ (f : MemberReference). same_member f field) (map (λ (s : Static). s.field) statics) ≡ true
        → (s : Static) × (find (λ (s : Static). same_member s.field field) statics ≡ Some s))
        → (t : Static) × (cond (same_member s.field field) (Some s) (find (λ (s : Static). same_member s.field field) statics) ≡ Some t)
    go true is h rest = (s, rw is refl)
    go false is h rest = let r = rest h in (r.0, rw is r.1)

-- the same member has one descriptor
same_descriptor : (a b : MemberReference) → same_member a b ≡ true → a.descriptor ≡ b.descriptor
same_descriptor a b h =
    let p = and_parts (bytes_eq a.name b.name && bytes_eq a.descriptor b.descriptor) (bytes_eq a.class b.class) h in
    same_text a.descriptor b.descriptor (and_parts (bytes_eq a.name b.name) (bytes_eq a.descriptor b.descriptor) p.0).1

-- a value of a kind is taken from operands on which it came
pub taken_onto : (kind : ValueKind) (value : Value) (others : List Value) → is_of_kind kind value ≡ true
    → taken_of kind (onto value others) ≡ Some (record { value = value; rest = others })
taken_onto of_int (int n) others h = refl
taken_onto of_long (long n) others h = refl
taken_onto of_reference null others h = refl
taken_onto of_reference (reference id) others h = refl
taken_onto kind value others h = absurd cc

-- fewer places are left where a value is taken
pub fewer_left : (value : Value) (others : List Value) → length others < length (onto value others)
fewer_left (long n) others = omega arith
fewer_left (int n) others = omega arith
fewer_left half others = omega arith
fewer_left null others = omega arith
fewer_left (reference id) others = omega arith

-- a declared value is held by its type
declared_held : (heap : HeapTyping) (descriptor : List ℕ) (type : FieldType) (value : Value) → field_type_of descriptor ≡ Some type
    → is_declared heap descriptor value ≡ true → holds heap type value ≡ true
declared_held heap descriptor type value is h = sym (ap (passes (λ t. holds heap t value)) is) ∙ h

held_declared : (heap : HeapTyping) (descriptor : List ℕ) (type : FieldType) (value : Value) → field_type_of descriptor ≡ Some type
    → holds heap type value ≡ true → is_declared heap descriptor value ≡ true
held_declared heap descriptor type value is h = ap (passes (λ t. holds heap t value)) is ∙ h

module _ (r : Running) (live : ℕ → Bool) (ready : Ready r live) (on : flow_goes_on ready.at.placed.instruction ≡ true) where
  abbrev heap : HeapTyping
  heap = heap_typing r.state live

  -- a value of a field's type comes onto the operands
  reads_rightly : (field m : MemberReference) (type : FieldType) (value : Value) (below : List VerificationType) (others : List Value)
      → field.descriptor ≡ m.descriptor → field_type_of m.descriptor ≡ Some type → is_operand (type_of type) ≡ true
      → holds heap type value ≡ true
      → pushed ready.e (type_of type ∷ []) (record ready.before { stack = below }) ≡ Some ready.at.applies.after
      → are_of_types heap ready.e below others ≡ true
      → IsTypedDeed r.state.world (reads r field others value)
  reads_rightly field m type value under others same is operand held h f =
      let kind : kind_of field.descriptor ≡ kind_of_type type = ap kind_of same ∙ kind_read heap m.descriptor type (read_too heap m.descriptor type is) in
      rw (ap (λ (k : ValueKind). is_of_kind k value) kind ∙ held_kind heap type value held)
      (pushes_rightly r live ready r.state live (itself r.state live ready.conforms) 0 false (type_of type ∷ []) under (onto value others) on h
      (lands heap ready.e (type_of type) value operand (held_of_type heap ready.e type value operand held) under others f))

  -- ---- static fields

  -- a static field that is used has a value of its type
  static_held : (m : MemberReference) (used : StaticUse r.state.world m)
      → (value : Value) × (static_value r.state.statics used.field ≡ Some value) × (holds heap used.type value ≡ true)
  static_held m used =
      let s = static_there r.state.statics used.field (ap (list_any (λ (f : MemberReference). same_member f used.field)) ready.conforms.shared.static_fields ∙ used.there) in
      let p = found_passes (λ (s : Static). same_member s.field used.field) (λ (s : Static). is_declared heap s.field.descriptor s.value) r.state.statics s.0 s.1 ready.conforms.shared.statics in (
        s.0.value,
        ap (option_map (λ (s : Static). s.value)) s.1,
        declared_held heap s.0.field.descriptor used.type s.0.value (ap field_type_of (same_descriptor s.0.field used.field p.1 ∙ used.same_descriptor) ∙ used.is_type) p.0,
      )

  -- `getstatic` is right
  pub get_static_is_right : (m : MemberReference) (used : StaticUse r.state.world m)
      → pushed ready.e (type_of used.type ∷ []) ready.before ≡ Some ready.at.applies.after
      → IsTypedDeed r.state.world (get_static r m)
  get_static_is_right m used h =
      let v = static_held m used in
      rw (used.resolved, v.1) (reads_rightly used.field m used.type v.0 ready.before.stack r.frame.stack used.same_descriptor used.is_type used.has_values v.2 h (operands_fit r live ready))

  -- a static field has another value of its type
  setting : (m : MemberReference) (used : StaticUse r.state.world m) (value : Value) → holds heap used.type value ≡ true
      → Follows r.state live (record r.state { statics = with_static used.field value r.state.statics }) live
  setting m used value held = record {
    conforms = record {
      threads = ready.conforms.threads;
      shared = record {
        statics = all_changed r.state.statics ready.conforms.shared.statics;
        static_fields = fields_left r.state.statics ∙ ready.conforms.shared.static_fields;
        class_monitors = ready.conforms.shared.class_monitors;
        literals = ready.conforms.shared.literals;
        arguments = ready.conforms.shared.arguments;
        objects = ready.conforms.shared.objects;
      };
    };
    same_world = refl;
    grows = λ id type h. h;
  }
    where
      all_changed : (statics : List Static) → list_all (λ (s : Static). is_declared heap s.field.descriptor s.value) statics ≡ true
          → list_all (λ (s : Static). is_declared heap s.field.descriptor s.value) (with_static used.field value statics) ≡ true
      all_changed [] h = refl
      all_changed (s ∷ statics) h =
          let p = and_parts (is_declared heap s.field.descriptor s.value) (list_all (λ (s : Static). is_declared heap s.field.descriptor s.value) statics) h in
          go (same_member s.field used.field) refl p.0 (all_changed statics p.1)
        where
          go : (b : Bool) → same_member s.field used.field ≡ b → is_declared heap s.field.descriptor s.value ≡ true
              → list_all (λ (s : Static). is_declared heap s.field.descriptor s.value) (with_static used.field value statics) ≡ true
              → list_all (λ (s : Static). is_declared heap s.field.descriptor s.value) ((if b then record s { value = value } else s) ∷ with_static used.field value statics) ≡ true
          go false is own rest = both (is_declared heap s.field.descriptor s.value) (list_all (λ (s : Static). is_declared heap s.field.descriptor s.value) (with_static used.field value statics)) own rest
          go true is own rest = both (is_declared heap s.field.descriptor value) (list_all (λ (s : Static). is_declared heap s.field.descriptor s.value) (with_static used.field value statics))
              (held_declared heap s.field.descriptor used.type value (ap field_type_of (same_descriptor s.field used.field is ∙ used.same_descriptor) ∙ used.is_type) held) rest

      fields_left : (statics : List Static)
          → map (λ (s : Static). s.field) (with_static used.field value statics) ≡ map (λ (s : Static). s.field) statics
      fields_left [] = refl
      fields_left (s ∷ statics) = go (same_member s.field used.field) (fields_left statics)
        where
          go : (b : Bool) → map (λ (s : Static). s.field) (with_static used.field value statics) ≡ map (λ (s : Static). s.field) statics
              → map (λ (s : Static). s.field) ((if b then record s { value = value } else s) ∷ with_static used.field value statics) ≡ map (λ (s : Static). s.field) (s ∷ statics)
          go true rest = ap (λ (fs : List MemberReference). s.field ∷ fs) rest
          go false rest = ap (λ (fs : List MemberReference). s.field ∷ fs) rest

  -- a value of a field's type lies on top
  value_taken : (descriptor : List ℕ) (type : FieldType) (tests : List Test) (rest : List VerificationType)
      → field_type_of descriptor ≡ Some type → is_operand (type_of type) ≡ true
      → below (to ready.e (type_of type) ∷ tests) ready.before.stack ≡ Some rest
      → (x : TakesWanted heap ready.e (type_of type) tests rest r.frame.stack) × (holds heap type x.value ≡ true)
      × (taken_of (kind_of descriptor) r.frame.stack ≡ Some (record { value = x.value; rest = x.others }))
  value_taken descriptor type tests rest is operand b =
      let x = take_wanted heap ready.e (subsumes heap ready.runnable.verified ready.e ready.typed) (type_of type) tests ready.before.stack rest r.frame.stack operand b (operands_fit r live ready) in
      let held = of_type_held heap ready.e type x.value operand x.of in (
        x,
        held,
        ap (taken_of (kind_of descriptor)) x.is
            ∙ taken_onto (kind_of descriptor) x.value x.others (ap (λ (k : ValueKind). is_of_kind k x.value) (kind_read heap descriptor type (read_too heap descriptor type is)) ∙ held_kind heap type x.value held),
      )

  -- `putstatic` is right
  pub put_static_is_right : (m : MemberReference) (used : StaticUse r.state.world m)
      → popped (to ready.e (type_of used.type) ∷ []) ready.before ≡ Some ready.at.applies.after
      → IsTypedDeed r.state.world (put_static r m)
  unfolding below
  put_static_is_right m used h =
      let p = popped_is (to ready.e (type_of used.type) ∷ []) ready.before ready.at.applies.after h in
      let t = value_taken m.descriptor used.type [] p.0 used.is_type used.has_values p.1 in
      let old = static_held m used in
      let after : State = record r.state { statics = with_static used.field t.0.value r.state.statics } in
      rw (t.2, used.resolved, old.1)
      (pops_rightly r live ready after live (setting m used t.0.value t.1) 0 false p.0 t.0.others on p.2
      (operands_then r live ready after live (setting m used t.0.value t.1) p.0 t.0.others (subst (λ (ts : List VerificationType). are_of_types heap ready.e ts t.0.others ≡ true) (some_inj t.0.are_below) t.0.fit))
      (le-leb _ _ (let more = fewer_left t.0.value t.0.others in let same : length r.frame.stack ≡ length (onto t.0.value t.0.others) = ap length t.0.is in omega arith)))

  -- ---- fields of objects

  -- An object that has a field: its class, its values, and the field's value.
  pub record FieldThere (id : ℕ) (field : MemberReference) : Type 0 where
    pub name : List ℕ
    pub values : List Value
    pub there : contents_at r.state.heap id ≡ Some (instance name values)
    pub place : HasPlace r.state.world name field
    pub value : Value
    pub at_place : slice_get values place.place ≡ Some value
    pub declared : is_declared heap place.member.descriptor value ≡ true
    pub conforms : contents_conform heap (instance name values) ≡ true

  -- an object that stands for a class has the field
  pub field_there : (owner : List ℕ) (field : MemberReference) (id : ℕ) → PlaceUse r.state.world owner field
      → stands_for heap id (class_type owner) ≡ true → FieldThere id field
  field_there owner field id places h =
      let own = some_and_is (λ own. may_stand r.state.world own (class_type owner)) (heap.type_at id) h in
      let is = typed_is r.state live id own.0 own.1 in
      of is.1 own.0 is.2 is.3 own.2 (ready.conforms.shared.objects id is.1 is.0 is.2)
    where
      of : (contents : Contents) (own : FieldType) → contents_at r.state.heap id ≡ Some contents → own_type contents ≡ own
          → may_stand r.state.world own (class_type owner) ≡ true → contents_conform heap contents ≡ true → FieldThere id field
      of (instance name values) own at same stands conforms =
          let parts = and_parts (is_present r.state.world name && not (bytes_eq name java_string)) (pointwise (λ (f : MemberReference) value. is_declared heap f.descriptor value) (layout r.state.world name) values) conforms in
          let present = (and_parts (is_present r.state.world name) (not (bytes_eq name java_string)) parts.0).0 in
          let place = places.objects name present (subst (λ (t : FieldType). may_stand r.state.world t (class_type owner) ≡ true) (sym same) stands) in
          let value = paired (λ (f : MemberReference) value. is_declared heap f.descriptor value) (layout r.state.world name) values place.place place.member parts.1 place.is_member in
          record {
            name = name;
            values = values;
            there = at;
            place = place;
            value = value.0;
            at_place = value.1;
            declared = value.2;
            conforms = conforms;
          }
      of (string units) own at same stands conforms =
          let place = places.objects java_string ready.runnable.strings (subst (λ (t : FieldType). may_stand r.state.world t (class_type owner) ≡ true) (sym same) stands) in
          absurd (let no = place.no_string in let yes = text_same java_string java_string refl in cc)
      of (array type elements) own at same stands conforms =
          absurd (let no = places.no_arrays type in let yes = subst (λ (t : FieldType). may_stand r.state.world t (class_type owner) ≡ true) (sym same) stands in cc)

  -- the field of such an object is found, and holds a value of its type
  pub field_found : (id : ℕ) (m field : MemberReference) (type : FieldType) (f : FieldThere id field) → field.descriptor ≡ m.descriptor
      → field_type_of m.descriptor ≡ Some type → (field_at r.state id field ≡ Some f.value) × (holds heap type f.value ≡ true)
  field_found id m field type f same is = (
    ap (option_and_then (λ contents. field_in r.state.world contents field)) f.there
        ∙ (ap (option_and_then (slice_get f.values)) f.place.is_place ∙ f.at_place),
    declared_held heap f.place.member.descriptor type f.value (ap field_type_of (f.place.same_descriptor ∙ same) ∙ is) f.declared,
  )

  -- `getfield` is right
  pub get_field_is_right : (m : MemberReference) (used : FieldUse r.state.world m)
      → changed ready.e (to ready.e (class m.class) ∷ []) (type_of used.type ∷ []) ready.before ≡ Some ready.at.applies.after
      → IsTypedDeed r.state.world (get_field r m)
  unfolding below
  get_field_is_right m used h =
      let c = changed_is ready.e (to ready.e (class m.class) ∷ []) (type_of used.type ∷ []) ready.before ready.at.applies.after h in
      let x = take_wanted heap ready.e (subsumes heap ready.runnable.verified ready.e ready.typed) (class m.class) [] ready.before.stack c.0 r.frame.stack refl c.1 (operands_fit r live ready) in
      of c.0 x.value x.others (x.is ∙ one_place heap ready.e (class m.class) x.value x.others refl x.of) c.2 (subst (λ (ts : List VerificationType). are_of_types heap ready.e ts x.others ≡ true) (some_inj x.are_below) x.fit) (class_object heap ready.e m.class x.value x.of)
    where
      of : (rest : List VerificationType) (value : Value) (others : List Value) → r.frame.stack ≡ value ∷ others
          → pushed ready.e (type_of used.type ∷ []) (record ready.before { stack = rest }) ≡ Some ready.at.applies.after
          → are_of_types heap ready.e rest others ≡ true → Object heap ready.e (class_type m.class) value → IsTypedDeed r.state.world (get_field r m)
      of rest _ others is h f no_object =
          rw (ap (taken_of of_reference) is) (throws_rightly r live ready (codes "java/lang/NullPointerException") false refl)
      of rest _ others is h f (object id stands) =
          let there = field_there m.class used.field id used.places stands in
          let found = field_found id m used.field used.type there used.same_descriptor used.is_type in
          rw (ap (taken_of of_reference) is, used.resolved, found.0)
          (reads_rightly used.field m used.type there.value rest others used.same_descriptor used.is_type used.has_values found.1 h f)

  -- a field of an object gets a value of its type
  pub field_put : (id : ℕ) (m field : MemberReference) (type : FieldType) (f : FieldThere id field) (value : Value)
      → field.descriptor ≡ m.descriptor → field_type_of m.descriptor ≡ Some type → holds heap type value ≡ true
      → (objects : Heap) × (with_field_at r.state id field value ≡ Some (record r.state { heap = objects }))
      × Follows r.state live (record r.state { heap = objects }) live
  field_put id m field type f value same is held =
      let contents : Contents = instance f.name (slice_set f.values f.place.place value) in
      let after : State = record r.state { heap = with_contents id contents r.state.heap } in
      let grows = rewriting_grows r.state live id (instance f.name f.values) contents f.there refl in
      let parts = and_parts (is_present r.state.world f.name && not (bytes_eq f.name java_string)) (pointwise (λ (f : MemberReference) value. is_declared heap f.descriptor value) (layout r.state.world f.name) f.values) f.conforms in
      let follows = rewriting r.state live id (instance f.name f.values) contents f.there refl ready.conforms (λ units. refl)
      (both (is_present r.state.world f.name && not (bytes_eq f.name java_string)) (pointwise (λ (f : MemberReference) value. is_declared (heap_typing after live) f.descriptor value) (layout r.state.world f.name) (slice_set f.values f.place.place value)) parts.0
      (pairs_pass (λ (f : MemberReference) value. is_declared heap f.descriptor value) (λ (f : MemberReference) value. is_declared (heap_typing after live) f.descriptor value) (λ f v k. declared_kept r.state.world heap.type_at (heap_typing after live).type_at grows f.descriptor v k) (layout r.state.world f.name) (slice_set f.values f.place.place value)
      (paired_set (λ (f : MemberReference) value. is_declared heap f.descriptor value) (layout r.state.world f.name) f.values f.place.place f.place.member value parts.1 f.place.is_member
      (held_declared heap f.place.member.descriptor type value (ap field_type_of (f.place.same_descriptor ∙ same) ∙ is) held)))) in (
        with_contents id contents r.state.heap,
        ap (λ (o : Option Contents). option_map (λ contents. record r.state { heap = with_contents id contents r.state.heap }) (option_and_then (with_field r.state.world field value) o)) f.there
            ∙ ap (λ (o : Option ℕ). option_map (λ contents. record r.state { heap = with_contents id contents r.state.heap }) (option_map (λ place. instance f.name (slice_set f.values place value)) o)) f.place.is_place,
        follows,
      )

  -- and the instruction goes on
  puts_rightly : (id : ℕ) (m field : MemberReference) (type : FieldType) (f : FieldThere id field) (value : Value)
      (rest : List VerificationType) (others : List Value) → field.descriptor ≡ m.descriptor
      → field_type_of m.descriptor ≡ Some type → holds heap type value ≡ true
      → record ready.before { stack = rest } ≡ ready.at.applies.after → are_of_types heap ready.e rest others ≡ true
      → nat_le (length others) (length r.frame.stack) ≡ true
      → (state : State) × (with_field_at r.state id field value ≡ Some state) × IsTypedDeed r.state.world (goes_on r state others)
  puts_rightly id m field type f value rest others same is held h fit fewer =
      let put = field_put id m field type f value same is held in
      let after : State = record r.state { heap = put.0 } in (
        after,
        put.1,
        pops_rightly r live ready after live put.2 0 false rest others on h (operands_then r live ready after live put.2 rest others fit) fewer,
      )

  -- an object into which a field is put, or null
  data OwnerOn (m field : MemberReference) (rest : List VerificationType) (values : List Value) : Type 0 where
    no_owner : (others : List Value) → values ≡ null ∷ others → OwnerOn m field rest values
    owner_on : (id : ℕ) (others : List Value) → values ≡ reference id ∷ others → FieldThere id field
        → are_of_types heap ready.e rest others ≡ true → OwnerOn m field rest values

  -- where typing takes an owner, one lies on top
  take_owner : (m : MemberReference) (used : FieldUse r.state.world m)
      → (is_own_field ready.e m ≡ true → PlaceUse r.state.world ready.e.class.name used.field)
      → (stack rest : List VerificationType) (values : List Value) → below (is_owner ready.e m ∷ []) stack ≡ Some rest
      → are_of_types heap ready.e stack values ≡ true → OwnerOn m used.field rest values
  unfolding below are_of_types is_of_type
  take_owner m used own [] rest values b f = absurd cc
  take_owner m used own (this ∷ types) rest [] b f = absurd cc
  take_owner m used own (this ∷ types) rest (reference id ∷ values) b f =
      let w = when_test (is_constructor ready.e && is_own_field ready.e m) (Some types) rest b in
      let p = and_parts (stands_for heap id (class_type ready.e.class.name)) (are_of_types heap ready.e types values) f in
      owner_on id values refl (field_there ready.e.class.name used.field id (own (and_parts (is_constructor ready.e) (is_own_field ready.e m) w.0).1) p.0)
      (subst (λ (ts : List VerificationType). are_of_types heap ready.e ts values ≡ true) (some_inj w.1) p.1)
  take_owner m used own (this ∷ types) rest (value ∷ values) b f = absurd cc
  take_owner m used own (type ∷ types) rest values b f =
      let x = take_wanted heap ready.e (subsumes heap ready.runnable.verified ready.e ready.typed) (class m.class) [] (type ∷ types) rest values refl b f in
      owner x.value x.others (x.is ∙ one_place heap ready.e (class m.class) x.value x.others refl x.of)
      (subst (λ (ts : List VerificationType). are_of_types heap ready.e ts x.others ≡ true) (some_inj x.are_below) x.fit) (class_object heap ready.e m.class x.value x.of)
    where
      owner : (value : Value) (others : List Value) → values ≡ value ∷ others → are_of_types heap ready.e rest others ≡ true
          → Object heap ready.e (class_type m.class) value → OwnerOn m used.field rest values
      owner _ others is f no_object = no_owner others is
      owner _ others is f (object id stands) = owner_on id others is (field_there m.class used.field id used.places stands) f

  -- `putfield` is right
  pub put_field_is_right : (m : MemberReference) (used : FieldUse r.state.world m)
      → (is_own_field ready.e m ≡ true → PlaceUse r.state.world ready.e.class.name used.field)
      → popped (to ready.e (type_of used.type) ∷ is_owner ready.e m ∷ []) ready.before ≡ Some ready.at.applies.after
      → IsTypedDeed r.state.world (put_field r m)
  put_field_is_right m used own h =
      let p = popped_is (to ready.e (type_of used.type) ∷ is_owner ready.e m ∷ []) ready.before ready.at.applies.after h in
      let t = value_taken m.descriptor used.type (is_owner ready.e m ∷ []) p.0 used.is_type used.has_values p.1 in
      of p.0 t.0 t.1 t.2 p.2 (take_owner m used own t.0.types p.0 t.0.others t.0.are_below t.0.fit)
    where
      of : (rest : List VerificationType) (x : TakesWanted heap ready.e (type_of used.type) (is_owner ready.e m ∷ []) rest r.frame.stack)
          → holds heap used.type x.value ≡ true
          → taken_of (kind_of m.descriptor) r.frame.stack ≡ Some (record { value = x.value; rest = x.others })
          → record ready.before { stack = rest } ≡ ready.at.applies.after → OwnerOn m used.field rest x.others
          → IsTypedDeed r.state.world (put_field r m)
      of rest x held taken h (no_owner others is) =
          rw (taken, ap (taken_of of_reference) is) (throws_rightly r live ready (codes "java/lang/NullPointerException") false refl)
      of rest x held taken h (owner_on id others is there f) =
          let q = puts_rightly id m used.field used.type there x.value rest others used.same_descriptor used.is_type held h f
          (le-leb _ _ (let more = fewer_left x.value x.others in let same : length r.frame.stack ≡ length (onto x.value x.others) = ap length x.is in let next : length x.others ≡ suc (length others) = ap length is in omega arith)) in
          rw (taken, ap (taken_of of_reference) is, used.resolved, q.1) q.2
