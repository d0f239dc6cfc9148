-- Static fields that start with strings.
use Rattle.std.proofs.Common.{◌≡◌, ℕ, ◌+◌, List, [], ◌∷◌, Option, Some, None, Bool, true, false, refl, ap, sym, ◌∙◌, length, codes}
use Rattle.std.specs.Prelude.{bytes_eq, nat_lt, is_some, if◌then◌else◌}
use Rattle.std.specs.List.{list_all}
use Rattle.std.proofs.lemmas.Bool.{and_parts}
use Rattle.jv_model.specs.Partial.{passes}
use Rattle.jv_model.specs.Descriptors.{FieldType, class_type}
use Rattle.jv_model.specs.End.{End, heap_full}
use Rattle.jv_model.specs.Operand.{MemberReference}
use Rattle.world_model.specs.World.{World}
use Rattle.world_model.specs.BootNames.{java_string}
use Rattle.code_model.specs.TypeReading.{field_type_of, type_at, before_semicolon, are_parts, dimensions}
use Rattle.machine_model.specs.Heap.{Contents, string, words_of, contents_at}
use Rattle.machine_model.specs.ObjectTypes.{own_type}
use Rattle.machine_model.specs.State.{Interned, State}
use Rattle.machine_model.specs.Reach.{reach_words}
use Rattle.machine_model.specs.Strings.{interned_string, with_interned}
use Rattle.machine_model.specs.Start.{Started, StringConstant, met_or_next, goes_on_from, set_static, with_string, with_strings}
use Rattle.machine_model.specs.TypedValues.{heap_typing, stands_for, is_in_use}
use Rattle.machine_model.specs.Conforms.{is_string, literal_conforms}
use Rattle.link_laws.proofs.Names.{same_text}
use Rattle.state_laws.proofs.Going.{mid_interned}
use Rattle.machine_laws.proofs.Heaps.{and_next, typed_is, new_type}
use Rattle.machine_laws.proofs.Making.{found_passes}
use Rattle.machine_laws.proofs.Objects.{stands_itself}
use Rattle.start_laws.specs.Startable.{is_for_string}
use Rattle.start_laws.proofs.First.{Begun, first_thread}
use Rattle.start_laws.proofs.Changes.{interning}
use Rattle.start_laws.proofs.Objects.{put_begun}

string_read : field_type_of (codes "Ljava/lang/String;") ≡ Some (class_type java_string)
unfolding type_at before_semicolon are_parts dimensions
string_read = refl

-- the string of a literal stands for a String
literal_stands : (state : State) (live : ℕ → Bool) (row : Interned) → literal_conforms state (heap_typing state live) row ≡ true
    → stands_for (heap_typing state live) row.id (class_type java_string) ≡ true
literal_stands state live row h =
    let p = and_parts (is_in_use (heap_typing state live) row.id) (passes (is_string row.units) (contents_at state.heap row.id)) h in
    go ((heap_typing state live).type_at row.id) refl p.0 p.1
  where
    string_type : (c : Contents) → is_string row.units c ≡ true → own_type c ≡ class_type java_string
    string_type (string units) h = refl
    string_type c h = absurd cc

    go : (o : Option FieldType) → (heap_typing state live).type_at row.id ≡ o → is_some o ≡ true
        → passes (is_string row.units) (contents_at state.heap row.id) ≡ true
        → stands_for (heap_typing state live) row.id (class_type java_string) ≡ true
    go None at used h = absurd cc
    go (Some own) at used h =
        let is = typed_is state live row.id own at in
        let same : own ≡ class_type java_string = sym is.3 ∙ string_type is.1 (sym (ap (passes (is_string row.units)) is.2) ∙ h) in
        rw (at ∙ ap Some same) (stands_itself state.world (class_type java_string))

-- what an allocation leads to, room or none
abbrev IsBegun : World → Started → Type 0
IsBegun world started = Begun world started.state

module _ (half : ℕ) (world : World) where
  with_string_begun : (field : MemberReference) (units : List ℕ) → field_type_of field.descriptor ≡ Some (class_type java_string)
      → (state : State) → Begun world state → Begun world (with_string half field units state (interned_string units state)).state
  with_string_begun field units read state b = go (interned_string units state) refl
    where
      either : (full : Bool) (words reached : ℕ) → interned_string units state ≡ None
          → IsBegun world (if full then record { state = state; met = Some (heap_full words reached half) } else record { state = set_static field (length state.heap) (with_interned units state); met = None })
      either true words reached none = b
      either false words reached none =
          let added : Begun world (with_interned units state) = record {
            live = and_next state b.live;
            is = (interning state b.live units b.is).conforms;
            mid = mid_interned world 0 first_thread state b.mid units none;
          } in
          put_begun world (with_interned units state) added field java_string (length state.heap) read
          (rw (new_type state b.live (string units) (class_type java_string) refl) (stands_itself state.world (class_type java_string)))

      go : (o : Option Interned) → interned_string units state ≡ o → Begun world (with_string half field units state o).state
      go (Some row) is =
          let right = found_passes (λ (i : Interned). bytes_eq i.units units) (literal_conforms state (heap_typing state b.live)) state.interned row is b.is.shared.literals in
          put_begun world state b field java_string row.id read (literal_stands state b.live row right.0)
      go None is = either (nat_lt half (reach_words state + words_of (string units))) (words_of (string units)) (reach_words state) is

  -- one after another, up to an end that one meets
  pub strings_begun : (constants : List StringConstant) → list_all is_for_string constants ≡ true → (started : Started)
      → Begun world started.state → Begun world (with_strings half constants started).state
  unfolding with_strings
  strings_begun [] all started b = b
  strings_begun (constant ∷ constants) all started b =
      let p = and_parts (is_for_string constant) (list_all is_for_string constants) all in
      strings_begun constants p.1 (goes_on_from started (λ state. with_string half constant.0 constant.1 state (interned_string constant.1 state)))
      (next started.met (with_string_begun constant.0 constant.1 (ap field_type_of (same_text constant.0.descriptor (codes "Ljava/lang/String;") p.0) ∙ string_read) started.state b))
    where
      next : (met : Option End) → Begun world (with_string half constant.0 constant.1 started.state (interned_string constant.1 started.state)).state
          → Begun world (met_or_next started met (λ state. with_string half constant.0 constant.1 state (interned_string constant.1 state))).state
      next (Some end) after = b
      next None after = after
