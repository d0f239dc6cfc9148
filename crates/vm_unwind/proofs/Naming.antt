-- Methods by their names, and frames that catch by theirs.
use Rattle.std.proofs.Common.{◌≡◌, ℕ, zero, suc, Bool, true, false, ◌||◌, not, if◌then◌else◌, List, [], ◌∷◌, Option, Some, None, length, find, bytes_eq, slice_get, option_map, option_and_then, unwrap_or, true≢false, refl, sym, ap, subst, ◌∙◌}
use Rattle.std.specs.List.{list_any}
use Rattle.std.proofs.lemmas.Bool.{or_parts, not-true}
use Rattle.std.proofs.lemmas.Option.{slice_get_within, get_or_from_slice_get}
use Rattle.class_graph.proofs.Passing.{and_left, and_right, list_all-get_or}
use Rattle.link_laws.proofs.Names.{same_text, text_same}
use Rattle.jv_model.specs.Operand.{MemberReference}
use Rattle.world_model.specs.World.{World, Class, Method, class_in, declared_method}
use Rattle.world_model.specs.Members.{method_named}
use Rattle.world_model.specs.LookUp.{Found, method_found}
use Rattle.link_model.specs.ClassFaults.{has_twice, same_method}
use Rattle.machine_model.specs.State.{Frame}
use Rattle.machine_model.specs.Monitors.{is_synchronized}
use Rattle.machine_model.specs.Throwing.{handler_of, handler_in, match_option}
use Rattle.jv_types.specs.declared.number.MethodNo.{MethodNo}
use Rattle.class_world.specs.World.{method_at}
use Rattle.class_world.proofs.Numbers.{name_at_place}
use Rattle.class_world.proofs.Upwards.{class_in-number}
use Rattle.thread_frames.specs.Frames.{FrameState}
use Rattle.vm_throw.specs.Handlers.{handler_found}
use Rattle.vm_unwind.specs.Parts.{Catch, catch_in, ended_in}
use Rattle.vm_unwind.specs.Catching.{handler_at, Place, place_in}
use Rattle.vm_unwind.specs.Held.{FramesHoldAsDefined}
use Rattle.vm_unwind.specs.Names.{HasMethodsOnce, NamesFindMethods, IsAtPlaceOf, AreAtPlacesOf, IsCaughtAt, PlacesAreCatches}

-- ---- a method by its name

same_as_itself : (m : Method) → same_method m m ≡ true
same_as_itself m = rw (text_same m.name m.name refl, text_same m.descriptor m.descriptor refl) refl

-- what is among others
among : {A : Type 0} (p : A → Bool) (xs : List A) (index : ℕ) (x : A) → slice_get xs index ≡ Some x → p x ≡ true
    → list_any p xs ≡ true
among p [] index x at is = absurd cc
among p (y ∷ xs) zero x at is =
    let same : y ≡ x = cc in
    rw (ap p same ∙ is) refl
among p (y ∷ xs) (suc index) x at is = by (p y) (among p xs index x at is)
  where
    by : (b : Bool) → list_any p xs ≡ true → (b || list_any p xs) ≡ true
    by true rest = refl
    by false rest = rest

swapped : (a b : Method) → same_method a b ≡ true → same_method b a ≡ true
swapped a b is =
    let name = same_text a.name b.name (and_left (bytes_eq a.name b.name) (bytes_eq a.descriptor b.descriptor) is) in
    let descriptor = same_text a.descriptor b.descriptor (and_right (bytes_eq a.name b.name) (bytes_eq a.descriptor b.descriptor) is) in
    rw (text_same b.name a.name (sym name), text_same b.descriptor a.descriptor (sym descriptor)) refl

-- the first of a name and a descriptor is the one that has them, where none has them twice
first_is : (methods : List Method) (index : ℕ) (m : Method) → has_twice same_method methods ≡ false
    → slice_get methods index ≡ Some m → find (λ (n : Method). same_method n m) methods ≡ Some m
unfolding has_twice
first_is [] index m once at = absurd cc
first_is (n ∷ methods) zero m once at =
    let same : n ≡ m = cc in
    rw (ap (λ (x : Method). same_method x m) same ∙ same_as_itself m) (ap (λ x. Some x) same)
first_is (n ∷ methods) (suc index) m once at =
    by (same_method n m) refl
    (first_is methods index m (or_parts (list_any (same_method n) methods) (has_twice same_method methods) once).1 at)
  where
    by : (b : Bool) → same_method n m ≡ b → find (λ (x : Method). same_method x m) methods ≡ Some m
        → (if b then Some n else find (λ (x : Method). same_method x m) methods) ≡ Some m
    by false is rest = rest
    by true is rest =
        absurd (true≢false (sym (among (same_method n) methods index m at is)
        ∙ (or_parts (list_any (same_method n) methods) (has_twice same_method methods) once).0))

methods_once : (world : World) (k : ℕ) (class : Class) → HasMethodsOnce world → slice_get world.classes k ≡ Some class
    → has_twice same_method class.methods ≡ false
methods_once world k class once at =
    let inside = slice_get_within world.classes k class at in
    let here = list_all-get_or (λ (c : Class). not (has_twice same_method c.methods)) world.classes k class once.methods inside in
    not-true (has_twice same_method class.methods)
    (subst (λ (c : Class). not (has_twice same_method c.methods) ≡ true) (get_or_from_slice_get world.classes k class class at) here)

-- Where a number leads, and by which class.
record Standing (world : World) (place : MethodNo) (found : Found Method) : Type 0 where
  class : Class
  there : slice_get world.classes place.class.0 ≡ Some class
  name : class.name ≡ found.class
  own : slice_get class.methods place.index ≡ Some found.member

standing : (world : World) (place : MethodNo) (found : Found Method) → method_at world place ≡ Some found
    → Standing world place found
standing world place found is = by (slice_get world.classes place.class.0) refl is
  where
    own : (c : Class) → slice_get world.classes place.class.0 ≡ Some c → (o : Option Method)
        → slice_get c.methods place.index ≡ o
        → option_map (λ (m : Method). let f : Found Method = record { class = c.name; member = m } in f) o ≡ Some found
        → Standing world place found
    own c at None e made = absurd cc
    own c at (Some m) e made =
        let f : Found Method = record { class = c.name; member = m } in
        let same : f ≡ found = ap (λ (o : Option (Found Method)). unwrap_or o f) made in
        record {
          class = c;
          there = at;
          name = ap (λ (x : Found Method). x.class) same;
          own = e ∙ ap (λ (x : Found Method). Some x.member) same;
        }

    by : (o : Option Class) → slice_get world.classes place.class.0 ≡ o
        → option_and_then (λ (c : Class). option_map (λ (m : Method). let f : Found Method = record { class = c.name; member = m } in f) (slice_get c.methods place.index)) o ≡ Some found
        → Standing world place found
    by None at made = absurd cc
    by (Some c) at made = own c at (slice_get c.methods place.index) refl made

pub names_find_methods : NamesFindMethods
names_find_methods world method found once is =
    let s = standing world method found is in
    let inside = slice_get_within world.classes method.class.0 s.class s.there in
    let class : class_in world found.class ≡ Some s.class =
    ap (class_in world) (sym (name_at_place world method.class.0 s.class s.there ∙ s.name))
    ∙ class_in-number world once.classes method.class inside ∙ s.there in
    ap (option_and_then (declared_method found.member.name found.member.descriptor)) class
    ∙ first_is s.class.methods method.index found.member (methods_once world method.class.0 s.class once s.there) s.own

-- ---- handlers by names

same_handler : (world : World) (class : List ℕ) (own : FrameState) (frame : Frame) → HasMethodsOnce world
    → IsAtPlaceOf world own frame → handler_of world frame class ≡ handler_at world class own
same_handler world class own frame once at = by (method_at world own.method) refl at.method
  where
    by : (o : Option (Found Method)) → method_at world own.method ≡ o → option_map method_found o ≡ Some frame.method
        → handler_of world frame class ≡ handler_at world class own
    by None e is = absurd cc
    by (Some found) e is =
        let name : method_found found ≡ frame.method = ap (λ (o : Option MemberReference). unwrap_or o frame.method) is in
        let there : method_named world frame.method ≡ Some found.member =
        ap (method_named world) (sym name) ∙ names_find_methods world own.method found once e in
        ap (option_and_then (λ (m : Method). option_and_then (λ body. handler_in world body frame.pc class) m.code)) there
        ∙ ap (λ (pc : ℕ). handler_found world found.member pc class) (sym at.pc)
        ∙ sym (ap (option_and_then (λ (f : Found Method). handler_found world f.member own.pc class)) e)

as_many : (world : World) (own : List FrameState) (frames : List Frame) → AreAtPlacesOf world own frames
    → length frames ≡ length own
as_many world [] [] are = refl
as_many world [] (frame ∷ callers) are = absurd are
as_many world (one ∷ others) [] are = absurd are
as_many world (one ∷ others) (frame ∷ callers) are = ap suc (as_many world others callers are.1)

module _ (world : World) (class : List ℕ) (frame : Frame) (callers : List Frame) where
  catch_by : Option ℕ → Option Catch
  catch_by o = match_option o
      (λ target. Some (let c : Catch = record { frame = frame; target = target; callers = callers } in c))
      (λ none. catch_in world class callers)

  ended_by : Option ℕ → List Frame
  ended_by o = match_option o (λ target. []) (λ none. frame ∷ ended_in world class callers)

  -- a frame that has no handler, before others
  further : (p : Option Place) → handler_of world frame class ≡ None → IsCaughtAt world class callers p
      → IsCaughtAt world class (frame ∷ callers) p
  unfolding catch_by ended_by
  further None none rest = record {
    catches = ap catch_by none ∙ rest.catches;
    above = ap ended_by none ∙ ap (λ l. frame ∷ l) rest.above;
  }
  further (Some place) none rest = record {
    ended = frame ∷ rest.ended;
    frame = rest.frame;
    callers = rest.callers;
    parts = ap (λ l. frame ∷ l) rest.parts;
    depth = rest.depth;
    catches = ap catch_by none ∙ rest.catches;
    above = ap ended_by none ∙ ap (λ l. frame ∷ l) rest.above;
  }

  one_frame : (depth : ℕ) (p : Option Place) (o : Option ℕ) → length callers ≡ depth → handler_of world frame class ≡ o
      → IsCaughtAt world class callers p
      → IsCaughtAt world class (frame ∷ callers)
      (match_option o (λ target. Some (let p : Place = record { depth = depth; target = target } in p)) (λ none. p))
  unfolding catch_by ended_by
  one_frame depth p (Some target) long is rest = record {
    ended = [];
    frame = frame;
    callers = callers;
    parts = refl;
    depth = long;
    catches = ap catch_by is;
    above = ap ended_by is;
  }
  one_frame depth p None long is rest = further p is rest

pub places_are_catches : PlacesAreCatches
places_are_catches world class [] [] once are = record { catches = refl; above = refl }
places_are_catches world class [] (frame ∷ callers) once are = absurd are
places_are_catches world class (own ∷ others) [] once are = absurd are
places_are_catches world class (own ∷ others) (frame ∷ callers) once are =
    one_frame world class frame callers (length others) (place_in world class others) (handler_at world class own)
    (as_many world others callers are.1) (same_handler world class own frame once are.0)
    (places_are_catches world class others callers once are.1)

-- ---- monitors by names

named_by : (world : World) (own : FrameState) (frame : Frame) (found : Found Method) → IsAtPlaceOf world own frame
    → method_at world own.method ≡ Some found → method_found found ≡ frame.method
named_by world own frame found at is =
    ap (λ (o : Option MemberReference). unwrap_or o frame.method) (sym (ap (option_map method_found) is) ∙ at.method)

pub frames_hold_as_defined : FramesHoldAsDefined
frames_hold_as_defined world own frame found once at is =
    let name = named_by world own frame found at is in
    let s = standing world own.method found is in
    record {
      synchronized =
          ap (λ (o : Option Method). unwrap_or (option_map is_synchronized o) false)
          (ap (method_named world) (sym name) ∙ names_find_methods world own.method found once is);
      class =
          name_at_place world own.method.class.0 s.class s.there ∙ s.name ∙ ap (λ (m : MemberReference). m.class) name;
    }
