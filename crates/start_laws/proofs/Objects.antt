-- The first two objects, and the static field that the second one is put into.
use Rattle.std.proofs.Common.{◌≡◌, ℕ, ◌+◌, ◌≤◌, List, [], Option, Some, None, Bool, true, refl, ap, sym, subst, ◌∙◌, length, codes, arith}
use Rattle.std.specs.Prelude.{bytes_eq, not, ◌&&◌, if◌then◌else◌}
use Rattle.std.proofs.lemmas.Bool.{and_parts, le-ltb}
use Rattle.jv_model.specs.Partial.{passes}
use Rattle.jv_model.specs.Descriptors.{FieldType, class_type}
use Rattle.jv_model.specs.End.{heap_full}
use Rattle.jv_model.specs.Operand.{MemberReference}
use Rattle.world_model.specs.World.{World}
use Rattle.world_model.specs.BootNames.{java_string}
use Rattle.world_model.specs.Members.{same_member}
use Rattle.code_model.specs.TypeReading.{field_type_of, type_at, before_semicolon, are_parts, dimensions}
use Rattle.machine_model.specs.Value.{reference}
use Rattle.machine_model.specs.Heap.{with_object, words_of}
use Rattle.machine_model.specs.State.{State, with_static}
use Rattle.machine_model.specs.Reach.{reach_words}
use Rattle.machine_model.specs.Machine.{Program}
use Rattle.machine_model.specs.Start.{Started, with_room, goes_on_from, no_arguments, print_stream, out_field, set_static, first_state, with_first_objects}
use Rattle.machine_model.specs.TypedValues.{heap_typing, holds, stands_for}
use Rattle.machine_model.specs.Conforms.{is_present}
use Rattle.link_laws.proofs.Names.{same_text}
use Rattle.frame_laws.proofs.Outcome.{both}
use Rattle.state_laws.proofs.Going.{mid_added, mid_static}
use Rattle.machine_laws.proofs.Heaps.{and_next, allocated, new_type}
use Rattle.machine_laws.proofs.Ready.{Follows, allocating}
use Rattle.machine_laws.proofs.Objects.{stands_itself}
use Rattle.start_laws.specs.Startable.{IsStartable}
use Rattle.start_laws.proofs.Changes.{static_put}
use Rattle.start_laws.proofs.First.{Begun, first_thread, with_arguments, arguments_begun, none_reached, array_reached}

-- members that are the same have one descriptor
pub same_descriptor : (a b : MemberReference) → same_member a b ≡ true → a.descriptor ≡ b.descriptor
same_descriptor a b h =
    let p = and_parts (bytes_eq a.name b.name && bytes_eq a.descriptor b.descriptor) (bytes_eq a.class b.class) h in
    same_text a.descriptor b.descriptor (and_parts (bytes_eq a.name b.name) (bytes_eq a.descriptor b.descriptor) p.0).1

-- a static field that gets an object of its class
pub put_begun : (world : World) (state : State) (b : Begun world state) (field : MemberReference) (name : List ℕ) (id : ℕ)
    → field_type_of field.descriptor ≡ Some (class_type name) → stands_for (heap_typing state b.live) id (class_type name) ≡ true
    → Begun world (set_static field id state)
put_begun world state b field name id read stands = record {
  live = b.live;
  is = static_put state b.live field (reference id) b.is (λ s same.
      ap (λ (o : Option FieldType). passes (λ type. holds (heap_typing state b.live) type (reference id)) o) (ap field_type_of (same_descriptor s.field field same) ∙ read) ∙ stands);
  mid = mid_static world 0 first_thread state b.mid (with_static field (reference id) state.statics);
}

stream_read : field_type_of out_field.descriptor ≡ Some (class_type (codes "java/io/PrintStream"))
unfolding type_at before_semicolon are_parts dimensions
stream_read = refl

-- where there is room
with_room_is : (half words : ℕ) (state : State) (change : State → State) → reach_words state + words ≤ half
    → with_room half words state change ≡ record { state = change state; met = None }
with_room_is half words state change fits =
    ap (λ (b : Bool). if b then record { state = state; met = Some (heap_full words (reach_words state) half) } else record { state = change state; met = None })
    (le-ltb half (reach_words state + words) fits)

module _ (program : Program) (s : IsStartable program) where
  abbrev world : World
  world = program.world

  stream_added : Follows (with_arguments world) (arguments_begun world s.statics).live (allocated (with_arguments world) (arguments_begun world s.statics).live print_stream) (and_next (with_arguments world) (arguments_begun world s.statics).live)
  stream_added =
      let b = arguments_begun world s.statics in
      allocating (with_arguments world) b.live print_stream b.is
      (both (is_present world (codes "java/io/PrintStream") && not (bytes_eq (codes "java/io/PrintStream") java_string)) _
      (both (is_present world (codes "java/io/PrintStream")) (not (bytes_eq (codes "java/io/PrintStream") java_string)) s.stream refl)
      (rw s.stream_fields refl))

  stream_begun : Begun world (set_static out_field 1 (record (with_arguments world) { heap = with_object print_stream (with_object no_arguments []) }))
  stream_begun =
      let b = arguments_begun world s.statics in
      let added : Begun world (record (with_arguments world) { heap = with_object print_stream (with_object no_arguments []) }) = record {
        live = and_next (with_arguments world) b.live;
        is = stream_added.conforms;
        mid = mid_added world 0 first_thread (with_arguments world) b.mid print_stream;
      } in
      put_begun world (record (with_arguments world) { heap = with_object print_stream (with_object no_arguments []) }) added out_field (codes "java/io/PrintStream") 1 stream_read
      (rw (new_type (with_arguments world) b.live print_stream (class_type (codes "java/io/PrintStream")) refl) (stands_itself world (class_type (codes "java/io/PrintStream"))))

  -- both objects find room
  pub objects_begun : Begun world (with_first_objects program.half (first_state world)).state
  objects_begun =
      let enough = s.room in
      let none = none_reached world s.statics in
      let four = array_reached world s.statics in
      let first = with_room_is program.half 4 (first_state world) (λ (st : State). record st { heap = with_object no_arguments st.heap }) (omega arith) in
      let second = with_room_is program.half 3 (with_arguments world) (λ (st : State). set_static out_field (length st.heap) (record st { heap = with_object print_stream st.heap })) (omega arith) in
      subst (λ (o : Started). Begun world (goes_on_from o (λ after. with_room program.half (words_of print_stream) after (λ st. set_static out_field (length st.heap) (record st { heap = with_object print_stream st.heap })))).state) (sym first)
      (subst (λ (o : Started). Begun world o.state) (sym second) stream_begun)
