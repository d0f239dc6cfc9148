-- What is selected by signatures is what the definitions select by name and descriptor.
use Rattle.std.proofs.Common.{◌≡◌, ℕ, suc, ◌+◌, ◌==◌, Bool, true, false, not, ◌&&◌, ◌||◌, List, [], ◌∷◌, Option, Some, None, if◌then◌else◌, length, map, find, slice_get, nat_lt, bytes_eq, IsTrue, option_map, option_and_then, ap, sym, subst, ◌∙◌, refl, true≢false, arith}
use Rattle.std.specs.List.{list_any}
use Rattle.std.specs.Option.{option_or}
use Rattle.std.proofs.lemmas.Bool.{or_parts, not-true}
use Rattle.std.proofs.lemmas.Bool.Decides.{Decides-ltb, Decides-eqb}
use Rattle.std.proofs.lemmas.List.{length-map}
use Rattle.std.proofs.lemmas.Option.{slice_get-map, slice_get_within, get_or_from_slice_get}
use Rattle.std.proofs.lemmas.Slice.Eq.{bytes_eq-Decides}
use Rattle.jv_model.specs.Operand.{MemberReference}
use Rattle.world_model.specs.World.{World, Class, Method, is_static_method}
use Rattle.world_model.specs.LookUp.{Found, found_or}
use Rattle.world_model.specs.Selection.{is_private, selectable}
use Rattle.world_model.specs.Supertypes.{chain}
use Rattle.link_model.specs.ClassFaults.{has_twice, same_field, same_method, has_member_twice}
use Rattle.jv_types.specs.Sequence.{Sequence}
use Rattle.jv_types.specs.declared.number.ClassNo.{ClassNo}
use Rattle.jv_types.specs.declared.number.MethodNo.{MethodNo}
use Rattle.class_graph.proofs.Passing.{and_left, and_right, list_all-get_or}
use Rattle.selection_table.specs.Selection.{Selection, selected_in}
use Rattle.class_world.specs.World.{HaveMembersOnce, numbers_of, method_at, method_signature}
use Rattle.class_world.specs.Signatures.{Pair}
use Rattle.class_world.proofs.Places.{stands_inside, bytes_eq-symm}
use Rattle.class_world.proofs.Numbers.{found_at, first_numbered, first_declared-numbers}
use Rattle.class_world.proofs.LookUps.{numbers_inside}
use Rattle.world_tables.specs.Tables.{chains_of}
use Rattle.class_methods.specs.Signatures.{Numbers, signature_at, called_at, AreSignatures}
use Rattle.class_dispatch.specs.Rows.{is_selectable, selectable_in}
use Rattle.class_dispatch.specs.Tables.{key_of, place, same_number, own_in, row_in, chain_in, is_inside, AreTables}
use Rattle.class_dispatch.specs.Dispatch.{Tables, Selects, selected_by}

-- ---- members of a name and a descriptor

abbrev has_name : MemberReference → Method → Bool
has_name m method = bytes_eq method.name m.name && bytes_eq method.descriptor m.descriptor

abbrev unless_hidden : Method → Option Method
unless_hidden method = if is_static_method method || is_private method then None else Some method

abbrev found : List ℕ → Method → Found Method
found name method = record { class = name; member = method }

names_are : (m : MemberReference) (x : Method) → has_name m x ≡ true → (x.name ≡ m.name) × (x.descriptor ≡ m.descriptor)
names_are m x has = (
  (bytes_eq-Decides x.name m.name).0 (and_left (bytes_eq x.name m.name) (bytes_eq x.descriptor m.descriptor) has),
  (bytes_eq-Decides x.descriptor m.descriptor).0 (and_right (bytes_eq x.name m.name) (bytes_eq x.descriptor m.descriptor) has),
)

-- where one has the name and no other is the same, no other has it
no_other : (m : MemberReference) (x : Method) (rest : List Method) → has_name m x ≡ true → list_any (same_method x) rest ≡ false
    → list_any (has_name m) rest ≡ false
no_other m x rest has none = (λ i. list_any (λ (y : Method). sym (test y) i) rest) ∙ none
  where
    test : (y : Method) → same_method x y ≡ has_name m y
    test y =
        let are = names_are m x has in
        let name = ap (λ (n : List ℕ). bytes_eq n y.name) are.0 ∙ bytes_eq-symm m.name y.name in
        let descriptor = ap (λ (d : List ℕ). bytes_eq d y.descriptor) are.1 ∙ bytes_eq-symm m.descriptor y.descriptor in
        λ i. name i && descriptor i

some_parts : {A B : Type 0} (f : A → Option B) (o : Option A) (called : Option B) (a : A) (b : B)
    → option_map f o ≡ option_map (λ (c : B). Some c) called → o ≡ Some a → called ≡ Some b → f a ≡ Some b
some_parts f o called a b same is_a is_b =
    let both : Some (f a) ≡ Some (Some b) = sym (ap (option_map f) is_a) ∙ same ∙ ap (option_map Some) is_b in cc

skipped : (b t : Bool) (first rest : Option MethodNo) → t ≡ false → (if b && t then first else rest) ≡ rest
skipped b t first rest fails = ap (λ (t : Bool). if b && t then first else rest) fails ∙ by b
  where
    by : (b : Bool) → (if b && false then first else rest) ≡ rest
    by true = refl
    by false = refl

module _ (world : World) (signatures : Numbers) (are : AreSignatures world signatures) (once : HaveMembersOnce world) (m : MemberReference) (signature : ℕ)
    (is_signature : slice_get are.pairs signature ≡ Some (m.name, m.descriptor)) where
  -- a method has the signature exactly where it has its name and descriptor
  signature_test : (o : Option ℕ) (x : Method) → option_map (slice_get are.pairs) o ≡ Some (Some (x.name, x.descriptor))
      → same_number o signature ≡ has_name m x
  signature_test None x same = absurd cc
  signature_test (Some s) x same = by (signature == s) (has_name m x) refl refl
    where
      at : slice_get are.pairs s ≡ Some (x.name, x.descriptor)
      at = cc

      named : signature ≡ s → has_name m x ≡ true
      named is =
          let one : Some (x.name, x.descriptor) ≡ Some (m.name, m.descriptor) = sym at ∙ ap (slice_get are.pairs) (sym is) ∙ is_signature in
          let pair : (x.name, x.descriptor) ≡ (m.name, m.descriptor) = cc in
          let name = (bytes_eq-Decides x.name m.name).1 (ap (λ (p : Pair). p.0) pair) in
          let descriptor = (bytes_eq-Decides x.descriptor m.descriptor).1 (ap (λ (p : Pair). p.1) pair) in
          λ i. name i && descriptor i

      numbered : has_name m x ≡ true → signature ≡ s
      numbered has =
          let is = names_are m x has in
          let pair : Some (x.name, x.descriptor) ≡ Some (m.name, m.descriptor) = λ i. Some (is.0 i, is.1 i) in
          are.apart signature s (m.name, m.descriptor) is_signature (at ∙ pair)

      by : (b t : Bool) → (signature == s) ≡ b → has_name m x ≡ t → (signature == s) ≡ has_name m x
      by true true is_b is_t = is_b ∙ sym is_t
      by false false is_b is_t = is_b ∙ sym is_t
      by true false is_b is_t = absurd (true≢false (sym (named ((Decides-eqb signature s).0 is_b)) ∙ is_t))
      by false true is_b is_t = absurd (true≢false (sym ((Decides-eqb signature s).1 (numbered is_t)) ∙ is_b))

  -- ---- one class

  module _ (k : ClassNo) (class : Class) (there : slice_get world.classes k.0 ≡ Some class) where
    placed : (i : ℕ) (x : Method) → slice_get class.methods i ≡ Some x → method_at world (place k i) ≡ Some (found class.name x)
    placed i x at =
        ap (option_and_then (λ (c : Class). option_map (found c.name) (slice_get c.methods i))) there
        ∙ ap (option_map (found class.name)) at

    tests : (i : ℕ) (x : Method) → slice_get class.methods i ≡ Some x → same_number (signature_at signatures (place k i)) signature ≡ has_name m x
    tests i x at =
        signature_test (signature_at signatures (place k i)) x
        (are.each_method (place k i)
        ∙ ap (λ (o : Option (Found Method)). option_map (λ (p : Pair). Some p) (option_map (λ (f : Found Method). method_signature f.member) o)) (placed i x at))

    -- methods of the class from an index on
    abbrev StandAt : ℕ → List Method → Type 0
    StandAt index rest = (i : ℕ) (x : Method) → slice_get rest i ≡ Some x → slice_get class.methods (index + i) ≡ Some x

    first_at : (index : ℕ) (x : Method) (rest : List Method) → StandAt index (x ∷ rest) → slice_get class.methods index ≡ Some x
    first_at index x rest stand = subst (λ (n : ℕ). slice_get class.methods n ≡ Some x) (omega arith) (stand 0 x refl)

    rest_at : (index : ℕ) (x : Method) (rest : List Method) → StandAt index (x ∷ rest) → StandAt (index + 1) rest
    rest_at index x rest stand = λ i y at.
        subst (λ (n : ℕ). slice_get class.methods n ≡ Some y) (omega arith) (stand (suc i) y at)

    none_own : (index : ℕ) (rest : List Method) → StandAt index rest → list_any (has_name m) rest ≡ false
        → own_in signatures k index (map is_selectable rest) signature ≡ None
    none_own index [] stand none = refl
    none_own index (x ∷ rest) stand none =
        let parts = or_parts (has_name m x) (list_any (has_name m) rest) none in
        skipped (is_selectable x) (same_number (signature_at signatures (place k index)) signature) (Some (place k index))
        (own_in signatures k (index + 1) (map is_selectable rest) signature)
        (tests index x (first_at index x rest stand) ∙ parts.0)
        ∙ none_own (index + 1) rest (rest_at index x rest stand) parts.1

    abbrev named_as : Option Method → Option (Option (Found Method))
    named_as mine = option_map (λ (x : Method). Some (found class.name x)) mine

    -- one method more
    one_own : (h t : Bool) (p : MethodNo) (own : Option MethodNo) (x : Method) (later : Option Method)
        → method_at world p ≡ Some (found class.name x) → (is_static_method x || is_private x) ≡ h
        → option_map (method_at world) own ≡ named_as (option_and_then unless_hidden later)
        → (t ≡ true → own ≡ None)
        → option_map (method_at world) (if not h && t then Some p else own)
        ≡ named_as (option_and_then unless_hidden (if t then Some x else later))
    one_own true true p own x later at is agree none =
        ap (option_map (method_at world)) (none refl)
        ∙ sym (ap (λ (b : Bool). named_as (if b then None else Some x)) is)
    one_own true false p own x later at is agree none = agree
    one_own false true p own x later at is agree none =
        ap (λ (o : Option (Found Method)). Some o) at
        ∙ sym (ap (λ (b : Bool). named_as (if b then None else Some x)) is)
    one_own false false p own x later at is agree none = agree

    own_selects : (index : ℕ) (rest : List Method) → StandAt index rest → has_twice same_method rest ≡ false
        → option_map (method_at world) (own_in signatures k index (map is_selectable rest) signature)
        ≡ named_as (option_and_then unless_hidden (find (has_name m) rest))
    unfolding has_twice
    own_selects index [] stand alone = refl
    own_selects index (x ∷ rest) stand alone =
        let parts = or_parts (list_any (same_method x) rest) (has_twice same_method rest) alone in
        let at = first_at index x rest stand in
        let own = own_in signatures k (index + 1) (map is_selectable rest) signature in
        ap (λ (t : Bool). option_map (method_at world) (if is_selectable x && t then Some (place k index) else own)) (tests index x at)
        ∙ one_own (is_static_method x || is_private x) (has_name m x) (place k index) own x (find (has_name m) rest)
        (placed index x at) refl (own_selects (index + 1) rest (rest_at index x rest stand) parts.1)
        (λ has. none_own (index + 1) rest (rest_at index x rest stand) (no_other m x rest has parts.0))

    methods_once : has_twice same_method class.methods ≡ false
    methods_once =
        let inside = slice_get_within world.classes k.0 class there in
        let here = list_all-get_or (λ (c : Class). not (has_member_twice c)) world.classes k.0 class once inside in
        (or_parts (has_twice same_field class.fields) (has_twice same_method class.methods)
        (not-true (has_member_twice class)
        (subst (λ (c : Class). not (has_member_twice c) ≡ true) (get_or_from_slice_get world.classes k.0 class class there) here))).1

    class_selects : option_map (method_at world) (own_in signatures k 0 (map is_selectable class.methods) signature)
        ≡ named_as (selectable m class)
    class_selects = own_selects 0 class.methods (λ i x at. subst (λ (n : ℕ). slice_get class.methods n ≡ Some x) (omega arith) at) methods_once

  -- ---- the classes of a chain

  one_class : (own rest : Option MethodNo) (mine : Option Method) (name : List ℕ) (others : Option (Found Method))
      → option_map (method_at world) own ≡ option_map (λ (x : Method). Some (found name x)) mine
      → option_map (method_at world) rest ≡ option_map (λ (f : Found Method). Some f) others
      → option_map (method_at world) (option_or own rest) ≡ option_map (λ (f : Found Method). Some f) (found_or name mine others)
  one_class None rest None name others same agree = agree
  one_class None rest (Some x) name others same agree = absurd cc
  one_class (Some p) rest None name others same agree = absurd cc
  one_class (Some p) rest (Some x) name others same agree = same

  module _ (rows : List (Sequence Bool)) (rows_are : map (λ (r : Sequence Bool). r.items) rows ≡ selectable_in world) where
    row_of : (o : Option (Sequence Bool)) (row : List Bool) → option_map (λ (r : Sequence Bool). r.items) o ≡ Some row → row_in o ≡ row
    row_of None row is = absurd cc
    row_of (Some r) row is = cc

    row_at : (k : ClassNo) (class : Class) → slice_get world.classes k.0 ≡ Some class
        → row_in (slice_get rows k.0) ≡ map is_selectable class.methods
    row_at k class there =
        row_of (slice_get rows k.0) (map is_selectable class.methods)
        (sym (slice_get-map (λ (r : Sequence Bool). r.items) rows k.0)
        ∙ ap (λ (l : List (List Bool)). slice_get l k.0) rows_are
        ∙ slice_get-map (λ (c : Class). map is_selectable c.methods) world.classes k.0
        ∙ ap (option_map (λ (c : Class). map is_selectable c.methods)) there)

    chain_selects : (order : List ClassNo) → IsTrue (is_inside (length world.classes) order)
        → option_map (method_at world) (chain_in signatures rows order signature)
        ≡ option_map (λ (f : Found Method). Some f) (first_numbered (selectable m) world.classes order)
    unfolding first_numbered
    chain_selects [] inside = refl
    chain_selects (k ∷ ks) inside =
        let here = (Decides-ltb k.0 (length world.classes)).0 (and_left (nat_lt k.0 (length world.classes)) (is_inside (length world.classes) ks) inside) in
        let behind = and_right (nat_lt k.0 (length world.classes)) (is_inside (length world.classes) ks) inside in
        let there = stands_inside world.classes k.0 here in
        let class = there.0 in
        let rest = chain_in signatures rows ks signature in
        ap (λ (row : List Bool). option_map (method_at world) (option_or (own_in signatures k 0 row signature) rest)) (row_at k class there.1)
        ∙ one_class (own_in signatures k 0 (map is_selectable class.methods) signature) rest (selectable m class) class.name
        (first_numbered (selectable m) world.classes ks) (class_selects k class there.1) (chain_selects ks behind)
        ∙ sym (ap (λ (o : Option Class). option_map (λ (f : Found Method). Some f)
        (found_at (selectable m) o (first_numbered (selectable m) world.classes ks))) there.1)

-- ---- all tables

and_then_join : {A B : Type 0} (f : A → Option B) (o : Option A)
    → option_and_then f o ≡ option_and_then (λ (b : Option B). b) (option_map f o)
and_then_join f None = refl
and_then_join f (Some x) = refl

module _ (world : World) (signatures : Numbers) (rows : List (Sequence Bool)) (chains : List (Sequence ClassNo)) (tables : Tables)
    (once : HaveMembersOnce world) (are : AreSignatures world signatures)
    (rows_are : map (λ (r : Sequence Bool). r.items) rows ≡ selectable_in world)
    (walked : map (λ (c : Sequence ClassNo). c.items) chains ≡ chains_of world)
    (built : AreTables signatures rows chains tables) where
  count : length tables ≡ length world.classes
  count =
      sym (length-map tables (λ (t : Selection). selected_in t (key_of 0)))
      ∙ ap (λ (l : List (Option MethodNo)). length l) (built 0)
      ∙ length-map chains (λ (c : Sequence ClassNo). chain_in signatures rows c.items 0)
      ∙ sym (length-map chains (λ (c : Sequence ClassNo). c.items))
      ∙ ap (λ (l : List (List ClassNo)). length l) walked
      ∙ length-map world.classes (λ (c : Class). numbers_of world (chain world c.name))

  -- a table selects what the classes of its chain have
  by_chain : (class : ClassNo) (c : Class) (signature : ℕ) → slice_get world.classes class.0 ≡ Some c
      → selected_by tables class signature ≡ chain_in signatures rows (numbers_of world (chain world c.name)) signature
  by_chain class c signature there =
      let of = λ (order : List ClassNo). chain_in signatures rows order signature in
      let table = λ (t : Selection). selected_in t (key_of signature) in
      let items = λ (s : Sequence ClassNo). s.items in
      let join = option_and_then (λ (o : Option MethodNo). o) in
      and_then_join table (slice_get tables class.0)
      ∙ ap join (sym (slice_get-map table tables class.0) ∙ ap (λ (l : List (Option MethodNo)). slice_get l class.0) (built signature)
      ∙ slice_get-map (λ (s : Sequence ClassNo). of s.items) chains class.0)
      ∙ both (slice_get chains class.0) (numbers_of world (chain world c.name))
      (sym (slice_get-map items chains class.0) ∙ ap (λ (l : List (List ClassNo)). slice_get l class.0) walked
      ∙ slice_get-map (λ (d : Class). numbers_of world (chain world d.name)) world.classes class.0
      ∙ ap (option_map (λ (d : Class). numbers_of world (chain world d.name))) there)
    where
      both : (o : Option (Sequence ClassNo)) (order : List ClassNo) → option_map (λ (s : Sequence ClassNo). s.items) o ≡ Some order
          → option_and_then (λ (p : Option MethodNo). p) (option_map (λ (s : Sequence ClassNo). chain_in signatures rows s.items signature) o)
          ≡ chain_in signatures rows order signature
      both None order is = absurd cc
      both (Some s) order is =
          let same : s.items ≡ order = cc in ap (λ (l : List ClassNo). chain_in signatures rows l signature) same

  pub selects : Selects world signatures tables
  selects = record {
    count = count;
    each = λ class c m method signature there called at.
        let is_signature = some_parts (slice_get are.pairs) (signature_at signatures method) (called_at world method) signature (m.name, m.descriptor)
        (are.each_method method) at called in
        ap (option_map (method_at world)) (by_chain class c signature there)
        ∙ chain_selects world signatures are once m signature is_signature rows rows_are (numbers_of world (chain world c.name))
        (numbers_inside world (chain world c.name))
        ∙ ap (option_map (λ (f : Found Method). Some f)) (sym (first_declared-numbers (selectable m) world (chain world c.name)));
  }
