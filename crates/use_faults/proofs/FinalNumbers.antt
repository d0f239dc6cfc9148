-- Final methods by number.
use Rattle.std.proofs.Common.{◌≡◌, ℕ, ◌+◌, ◌<◌, ◌≤◌, Bool, true, false, ◌&&◌, ◌||◌, if◌then◌else◌, List, [], ◌∷◌, ◌++◌, Option, Some, None, length, map, find, take, slice_get, get_or, nat_lt, bytes_eq, inl, inr, IsTrue, refl, ap, sym, subst, ◌∙◌, append_assoc, true≢false, arith}
use Rattle.std.specs.List.{list_any}
use Rattle.std.proofs.lemmas.Bool.{cases_lt}
use Rattle.std.proofs.lemmas.Bool.Decides.{Decides-ltb}
use Rattle.std.proofs.lemmas.List.{append-nil, length-append, length-map, map-append, take_all}
use Rattle.std.proofs.lemmas.List.Folds.{list_all-append, list_any-append, list_any_more, Any-from_list_any}
use Rattle.std.proofs.lemmas.Option.{slice_get-get_or}
use Rattle.std.proofs.lemmas.Slice.Eq.{bytes_eq-Decides}
use Rattle.std.proofs.Math.ListN.{get_or-append}
use Rattle.std.proofs.Math.Seq.{get_or-append_seam}
use Rattle.jv_model.specs.ClassData.{Const, Member}
use Rattle.jv_model.specs.ConstantPool.{units_at}
use Rattle.jv_model.specs.Code.{Body}
use Rattle.jv_model.specs.Partial.{passes}
use Rattle.world_model.specs.World.{Method, Class, declared_method, has_flag, acc_final}
use Rattle.link_model.specs.WorldOf.{methods_of, class_of}
use Rattle.link_model.specs.SupertypeFaults.{is_final_method, is_virtual}
use Rattle.jv_types.specs.Boot.{boot_method_of, flag_if, numbered_class_of, named_class_of}
use Rattle.jv_types.specs.ClassData.{member_of, pool_of}
use Rattle.jv_types.specs.Loaded.{loaded_of, code_of}
use Rattle.jv_types.specs.Sequence.{Sequence}
use Rattle.jv_types.specs.declared.boot.BootClass.{BootClass}
use Rattle.jv_types.specs.declared.boot.BootMethod.{BootMethod}
use Rattle.jv_types.specs.declared.class_data.Member as read
use Rattle.jv_types.specs.declared.loaded.Loaded.{Loaded}
use Rattle.class_graph.proofs.Passing.{and_left, and_right}
use Rattle.class_names.proofs.Lists.{list_any-map}
use Rattle.class_world.proofs.Places.{stands_inside}
use Rattle.use_faults.specs.Wrong.{declares_final}
use Rattle.use_faults.specs.Finals.{Grows, is_named, has_number, have_number, IsNumberOf, are_inside, names_final, AreFinals, AddsFinal, numbers_at}
use Rattle.use_faults.specs.declared.final_methods.NameAndType.{NameAndType}
use Rattle.use_faults.proofs.ByName.{find_passes}

-- ---- tests

-- tests that imply each other are equal
pub same_test : (a b : Bool) → (a ≡ true → b ≡ true) → (b ≡ true → a ≡ true) → a ≡ b
same_test true b there back = sym (there refl)
same_test false true there back = back refl
same_test false false there back = refl

pub or_without : (a b : Bool) → b ≡ false → a ≡ (a || b)
or_without true b fails = refl
or_without false b fails = sym fails

both : (a b : Bool) → a ≡ true → b ≡ true → (a && b) ≡ true
both a b first second = λ i. first i && second i

-- ---- lists that grow

pub grows_self : {A : Type 0} (xs : List A) → Grows xs xs
grows_self xs = ([], sym (append-nil xs))

pub grows_more : {A : Type 0} (one two three : List A) → Grows one two → Grows two three → Grows one three
grows_more {A} one two three first second =
    (first.0 ++ second.0, second.1 ∙ ap (λ (l : List A). l ++ second.0) first.1 ∙ append_assoc one first.0 second.0)

still_there : {A : Type 0} (xs ys : List A) (i : ℕ) → i < length xs → slice_get (xs ++ ys) i ≡ slice_get xs i
still_there {A} xs ys i inside =
    let first = stands_inside xs i inside in
    let longer : i < length (xs ++ ys) = omega (arith, inside, length-append xs ys) in
    slice_get-get_or (xs ++ ys) i first.0 longer
    ∙ ap (λ (x : A). Some x) (get_or-append xs ys first.0 i inside)
    ∙ sym (slice_get-get_or xs i first.0 inside)

module _ (entries more : List NameAndType) (grows : Grows entries more) where
  inside_more : (n : ℕ) → nat_lt n (length entries) ≡ true → nat_lt n (length more) ≡ true
  inside_more n inside =
      let lt : n < length entries = (Decides-ltb n (length entries)).0 inside in
      let longer : n < length more = omega (arith, lt, ap (λ (l : List NameAndType). length l) grows.1, length-append entries grows.0) in
      (Decides-ltb n (length more)).1 longer

  pub still_inside : (numbers : List ℕ) → IsTrue (are_inside entries numbers) → IsTrue (are_inside more numbers)
  still_inside [] all = refl
  still_inside (n ∷ numbers) all =
      both (nat_lt n (length more)) (are_inside more numbers)
      (inside_more n (and_left (nat_lt n (length entries)) (are_inside entries numbers) all))
      (still_inside numbers (and_right (nat_lt n (length entries)) (are_inside entries numbers) all))

  module _ (name descriptor : List ℕ) where
    still_numbered : (n : ℕ) → nat_lt n (length entries) ≡ true → has_number more name descriptor n ≡ has_number entries name descriptor n
    still_numbered n inside =
        ap (λ (l : List NameAndType). has_number l name descriptor n) grows.1
        ∙ ap (passes (is_named name descriptor)) (still_there entries grows.0 n ((Decides-ltb n (length entries)).0 inside))

    -- numbers that stand for something stand for it still
    pub all_still_numbered : (numbers : List ℕ) → IsTrue (are_inside entries numbers)
        → have_number more name descriptor numbers ≡ have_number entries name descriptor numbers
    all_still_numbered [] all = refl
    all_still_numbered (n ∷ numbers) all =
        let first = still_numbered n (and_left (nat_lt n (length entries)) (are_inside entries numbers) all) in
        let rest = all_still_numbered numbers (and_right (nat_lt n (length entries)) (are_inside entries numbers) all) in
        λ i. first i || rest i

  pub still_finals : (class : Class) (numbers : List ℕ) → AreFinals entries class numbers → AreFinals more class numbers
  still_finals class numbers are = record {
    inside = still_inside numbers are.inside;
    each_method = λ name descriptor.
        are.each_method name descriptor ∙ sym (all_still_numbered name descriptor numbers are.inside);
  }

-- ---- one method more

pub and_false : (a b : Bool) → b ≡ false → (a && b) ≡ false
and_false true b fails = fails
and_false false b fails = refl

both_fail : (has declares named : Bool) → (has && declares) ≡ false → ((has && declares) && named) ≡ false
both_fail has declares named fails = ap (λ (b : Bool). b && named) fails

both_pass : (has declares named : Bool) → (has && declares) ≡ true → ((has && declares) && named) ≡ named
both_pass has declares named pass_both = ap (λ (b : Bool). b && named) pass_both

module _ (class : Class) (pool : List Const) (member : Member) (entries : List NameAndType) (numbers : List ℕ) (has declares : Bool)
    (name descriptor : List ℕ) (is_name : name ≡ units_at pool member.name) (is_descriptor : descriptor ≡ units_at pool member.descriptor)
    (is_has : has ≡ has_flag acc_final member.flags) (is_declares : declares ≡ declares_final name descriptor class) where
  declares_it : declares ≡ declares_final (units_at pool member.name) (units_at pool member.descriptor) class
  declares_it = is_declares ∙ (λ i. declares_final (is_name i) (is_descriptor i) class)

  test_is : (n d : List ℕ) → names_final class pool member n d
      ≡ ((has && declares) && (bytes_eq n (units_at pool member.name) && bytes_eq d (units_at pool member.descriptor)))
  test_is n d = λ i. (sym is_has i && sym declares_it i)
      && (bytes_eq n (units_at pool member.name) && bytes_eq d (units_at pool member.descriptor))

  pub adds_none : (has && declares) ≡ false → AddsFinal class pool member entries numbers entries numbers
  adds_none fails = record {
    grows = grows_self entries;
    inside = λ all. all;
    each_method = λ n d.
        or_without (have_number entries n d numbers) (names_final class pool member n d)
        (test_is n d ∙ both_fail has declares (bytes_eq n (units_at pool member.name) && bytes_eq d (units_at pool member.descriptor)) fails);
  }

  module _ (more : List NameAndType) (entry : NameAndType) (number : ℕ) (grows : Grows entries more) (inside : number < length more)
      (is_number : IsNumberOf more entry number) (entry_name : entry.name.now ≡ name) (entry_descriptor : entry.descriptor.now ≡ descriptor) where
    named_so : (n d : List ℕ) → has_number more n d number
        ≡ (bytes_eq n (units_at pool member.name) && bytes_eq d (units_at pool member.descriptor))
    named_so n d =
        is_number n d ∙ (λ i. bytes_eq n ((entry_name ∙ is_name) i) && bytes_eq d ((entry_descriptor ∙ is_descriptor) i))

    or_end : (b : Bool) → (b || false) ≡ b
    or_end true = refl
    or_end false = refl

    pub adds_one : (added : List ℕ) → added ≡ numbers ++ number ∷ [] → (has && declares) ≡ true
        → AddsFinal class pool member entries numbers more added
    adds_one added adds passes_it = record {
      grows = grows;
      inside = λ all. ap (are_inside more) adds ∙ list_all-append (λ n. nat_lt n (length more)) numbers (number ∷ [])
          ∙ both (are_inside more numbers) (are_inside more (number ∷ [])) (still_inside entries more grows numbers all)
          (both (nat_lt number (length more)) true ((Decides-ltb number (length more)).1 inside) refl);
      each_method = λ n d.
          ap (have_number more n d) adds ∙ list_any-append (has_number more n d) numbers (number ∷ [])
          ∙ ap (λ (b : Bool). have_number more n d numbers || b) (or_end (has_number more n d number) ∙ named_so n d
          ∙ sym (test_is n d ∙ both_pass has declares (bytes_eq n (units_at pool member.name) && bytes_eq d (units_at pool member.descriptor)) passes_it));
    }

-- ---- the methods of a class

-- the same test of the methods of a class and of those of its file
pub any_method : (test : List ℕ → List ℕ → ℕ → Bool) (pool : List Const) (members : List Member) (bodies : List (Option (Body ℕ)))
    → list_any (λ (m : Member). test (units_at pool m.name) (units_at pool m.descriptor) m.flags) members
    ≡ list_any (λ (m : Method). test m.name m.descriptor m.flags) (methods_of pool members bodies)
unfolding methods_of
any_method test pool [] bodies = refl
any_method test pool (member ∷ members) [] =
    ap (λ (b : Bool). test (units_at pool member.name) (units_at pool member.descriptor) member.flags || b) (any_method test pool members [])
any_method test pool (member ∷ members) (body ∷ bodies) =
    ap (λ (b : Bool). test (units_at pool member.name) (units_at pool member.descriptor) member.flags || b) (any_method test pool members bodies)

-- what is found and passes another test is one that does
any_found : {A : Type 0} (p q : A → Bool) (xs : List A) (x : A) → find p xs ≡ Some x → q x ≡ true → list_any q xs ≡ true
any_found p q [] x is passes_it = absurd cc
any_found {A} p q (y ∷ xs) x is passes_it = by (p y) refl is (λ rest. any_found p q xs x rest passes_it)
  where
    or_true : (a b : Bool) → b ≡ true → (a || b) ≡ true
    or_true true b second = refl
    or_true false b second = second

    by : (b : Bool) → p y ≡ b → (if b then Some y else find p xs) ≡ Some x → (find p xs ≡ Some x → list_any q xs ≡ true)
        → (q y || list_any q xs) ≡ true
    by true here found later =
        let same : y ≡ x = cc in ap (λ (b : Bool). b || list_any q xs) (ap q same ∙ passes_it)
    by false here found later = or_true (q y) (list_any q xs) (later found)

module _ (class : Class) (name descriptor : List ℕ) where
  -- a method of a class is one that it declares as final, by that name and descriptor
  abbrev pub test : List ℕ → List ℕ → ℕ → Bool
  test n d flags = (has_flag acc_final flags && declares_final n d class) && (bytes_eq name n && bytes_eq descriptor d)

  abbrev pub is_one : Method → Bool
  is_one m = test m.name m.descriptor m.flags

  listed_declares : list_any is_one class.methods ≡ true → declares_final name descriptor class ≡ true
  listed_declares any =
      let at = Any-from_list_any is_one class.methods any in
      let m : Method = at.1 in
      let is_it : is_one m ≡ true = at.4 in
      let named = and_right (has_flag acc_final m.flags && declares_final m.name m.descriptor class) (bytes_eq name m.name && bytes_eq descriptor m.descriptor) is_it in
      let same_name = (bytes_eq-Decides name m.name).0 (and_left (bytes_eq name m.name) (bytes_eq descriptor m.descriptor) named) in
      let same_descriptor = (bytes_eq-Decides descriptor m.descriptor).0 (and_right (bytes_eq name m.name) (bytes_eq descriptor m.descriptor) named) in
      (λ i. declares_final (same_name i) (same_descriptor i) class)
      ∙ and_right (has_flag acc_final m.flags) (declares_final m.name m.descriptor class)
      (and_left (has_flag acc_final m.flags && declares_final m.name m.descriptor class) (bytes_eq name m.name && bytes_eq descriptor m.descriptor) is_it)

  declares_listed : declares_final name descriptor class ≡ true → list_any is_one class.methods ≡ true
  declares_listed declares_it = by (declared_method name descriptor class) refl
    where
      by : (found : Option Method) → declared_method name descriptor class ≡ found → list_any is_one class.methods ≡ true
      by None is = absurd (true≢false (sym declares_it ∙ ap (passes is_final_method) is))
      by (Some m) is =
          let is_it = λ (n : Method). bytes_eq n.name name && bytes_eq n.descriptor descriptor in
          let named = find_passes is_it class.methods m is in
          let same_name : m.name ≡ name = (bytes_eq-Decides m.name name).0 (and_left (bytes_eq m.name name) (bytes_eq m.descriptor descriptor) named) in
          let same_descriptor : m.descriptor ≡ descriptor =
          (bytes_eq-Decides m.descriptor descriptor).0 (and_right (bytes_eq m.name name) (bytes_eq m.descriptor descriptor) named) in
          let final : is_final_method m ≡ true = sym (ap (passes is_final_method) is) ∙ declares_it in
          let declares : declares_final m.name m.descriptor class ≡ true = (λ i. declares_final (same_name i) (same_descriptor i) class) ∙ declares_it in
          any_found is_it is_one class.methods m is
          (both (has_flag acc_final m.flags && declares_final m.name m.descriptor class) (bytes_eq name m.name && bytes_eq descriptor m.descriptor)
          (both (has_flag acc_final m.flags) (declares_final m.name m.descriptor class) (and_right (is_virtual m) (has_flag acc_final m.flags) final) declares)
          (both (bytes_eq name m.name) (bytes_eq descriptor m.descriptor)
          ((bytes_eq-Decides name m.name).1 (sym same_name)) ((bytes_eq-Decides descriptor m.descriptor).1 (sym same_descriptor))))

  -- a class declares as final what stands so among its methods
  declared_is : list_any is_one class.methods ≡ declares_final name descriptor class
  declared_is = same_test (list_any is_one class.methods) (declares_final name descriptor class) listed_declares declares_listed

pub file_declares : (loaded : Loaded) (name descriptor : List ℕ)
    → list_any (λ (m : read.Member). names_final (class_of (loaded_of loaded)) (pool_of loaded.file.pool.items) (member_of m) name descriptor) loaded.file.methods.items
    ≡ declares_final name descriptor (class_of (loaded_of loaded))
file_declares loaded name descriptor =
    let class = class_of (loaded_of loaded) in
    let pool = pool_of loaded.file.pool.items in
    sym (list_any-map (λ (m : Member). names_final class pool m name descriptor) member_of loaded.file.methods.items)
    ∙ any_method (test class name descriptor) pool (map member_of loaded.file.methods.items) (map code_of loaded.codes.items)
    ∙ declared_is class name descriptor

-- The numbers are those of the first methods of a class's file.
pub record SoFar (loaded : Loaded) (entries : List NameAndType) (i : ℕ) (more : List NameAndType) (numbers : List ℕ) : Type 0 where
  pub grows : Grows entries more
  pub inside : IsTrue (are_inside more numbers)
  pub each_method : (name descriptor : List ℕ) → have_number more name descriptor numbers
      ≡ list_any (λ (m : read.Member). names_final (class_of (loaded_of loaded)) (pool_of loaded.file.pool.items) (member_of m) name descriptor)
      (take i loaded.file.methods.items)

module _ (loaded : Loaded) (entries : List NameAndType) where
  pub none_so_far : (numbers : List ℕ) → numbers ≡ [] → SoFar loaded entries 0 entries numbers
  none_so_far numbers is = record {
    grows = grows_self entries;
    inside = ap (are_inside entries) is;
    each_method = λ name descriptor. ap (have_number entries name descriptor) is;
  }

  module _ (i : ℕ) (more : List NameAndType) (numbers : List ℕ) (so_far : SoFar loaded entries i more numbers) where
    pub one_so_far : (class : Class) (pool : List Const) (member : read.Member) (methods : List read.Member) (last : List NameAndType) (added : List ℕ)
        → class ≡ class_of (loaded_of loaded) → pool ≡ pool_of loaded.file.pool.items → methods ≡ loaded.file.methods.items
        → i < length methods → member ≡ get_or methods i member
        → AddsFinal class pool (member_of member) more numbers last added → SoFar loaded entries (i + 1) last added
    one_so_far class pool member methods last added is_class is_pool is_methods inside is adds = record {
      grows = grows_more entries more last so_far.grows adds.grows;
      inside = adds.inside so_far.inside;
      each_method = λ name descriptor.
          let in_class = class_of (loaded_of loaded) in
          let in_pool = pool_of loaded.file.pool.items in
          let all = loaded.file.methods.items in
          let is_there : i < length all = omega (arith, inside, ap (λ (l : List read.Member). length l) is_methods) in
          adds.each_method name descriptor
          ∙ (λ j. (all_still_numbered more last adds.grows name descriptor numbers so_far.inside ∙ so_far.each_method name descriptor) j
          || names_final (is_class j) (is_pool j) (member_of ((is ∙ ap (λ (l : List read.Member). get_or l i member) is_methods) j)) name descriptor)
          ∙ sym (list_any_more (λ (m : read.Member). names_final in_class in_pool (member_of m) name descriptor) all i member is_there);
    }

    pub all_so_far : length loaded.file.methods.items ≤ i → AreFinals more (class_of (loaded_of loaded)) numbers
    all_so_far end = record {
      inside = so_far.inside;
      each_method = λ name descriptor.
          sym (so_far.each_method name descriptor
          ∙ ap (list_any (λ (m : read.Member). names_final (class_of (loaded_of loaded)) (pool_of loaded.file.pool.items) (member_of m) name descriptor))
          (take_all i loaded.file.methods.items end)
          ∙ file_declares loaded name descriptor);
    }

-- ---- boot classes

no_final_flag : (static native : Bool) → has_flag acc_final (flag_if static 0x0008 + (if native then 0x0100 else 0x0400)) ≡ false
no_final_flag true true = refl
no_final_flag true false = refl
no_final_flag false true = refl
no_final_flag false false = refl

boot_not_final : (method : BootMethod) → is_final_method (boot_method_of method) ≡ false
boot_not_final method =
    and_false (is_virtual (boot_method_of method)) (has_flag acc_final (boot_method_of method).flags) (no_final_flag method.is_static method.is_native)

none_final : (p : Method → Bool) (methods : List BootMethod) → passes is_final_method (find p (map boot_method_of methods)) ≡ false
none_final p [] = refl
none_final p (method ∷ methods) = by (p (boot_method_of method)) (none_final p methods)
  where
    by : (b : Bool) → passes is_final_method (find p (map boot_method_of methods)) ≡ false
        → passes is_final_method (if b then Some (boot_method_of method) else find p (map boot_method_of methods)) ≡ false
    by true later = boot_not_final method
    by false later = later

-- no boot class declares a final method
pub boot_finals : (names : List (List ℕ)) (boot : BootClass) (entries : List NameAndType)
    → AreFinals entries (named_class_of names (numbered_class_of boot)) []
boot_finals names boot entries = record {
  inside = refl;
  each_method = λ name descriptor.
      none_final (λ (m : Method). bytes_eq m.name name && bytes_eq m.descriptor descriptor) boot.methods.items;
}

-- ---- the classes of a world

-- The first so many classes have their rows.
pub record FirstRows (classes : List Class) (entries : List NameAndType) (rows : List (Sequence ℕ)) (count : ℕ) : Type 0 where
  pub so_many : length rows ≡ count
  pub each_row : (k : ℕ) (class : Class) → k < count → slice_get classes k ≡ Some class → AreFinals entries class (numbers_at rows k)

pub no_rows : (classes : List Class) (entries : List NameAndType) (rows : List (Sequence ℕ)) → rows ≡ [] → FirstRows classes entries rows 0
no_rows classes entries rows is = record {
  so_many = ap (λ (l : List (Sequence ℕ)). length l) is;
  each_row = λ k class before there. absurd (omega (arith, before));
}

module _ (classes : List Class) (entries more : List NameAndType) (rows : List (Sequence ℕ)) (row : Sequence ℕ) (added : List (Sequence ℕ)) (i : ℕ)
    (class : Class) where
  row_before : (k : ℕ) → k < length rows → numbers_at (rows ++ row ∷ []) k ≡ numbers_at rows k
  row_before k before =
      let in_rows : k < length (map (λ (r : Sequence ℕ). r.items) rows) = omega (arith, before, length-map rows (λ (r : Sequence ℕ). r.items)) in
      ap (λ (l : List (List ℕ)). get_or l k []) (map-append (λ (r : Sequence ℕ). r.items) rows (row ∷ []))
      ∙ get_or-append (map (λ (r : Sequence ℕ). r.items) rows) (row.items ∷ []) [] k in_rows

  row_last : numbers_at (rows ++ row ∷ []) (length rows) ≡ row.items
  row_last =
      ap (λ (l : List (List ℕ)). get_or l (length rows) []) (map-append (λ (r : Sequence ℕ). r.items) rows (row ∷ []))
      ∙ ap (λ (n : ℕ). get_or (map (λ (r : Sequence ℕ). r.items) rows ++ row.items ∷ []) n []) (sym (length-map rows (λ (r : Sequence ℕ). r.items)))
      ∙ get_or-append_seam (map (λ (r : Sequence ℕ). r.items) rows) row.items [] []

  pub one_row_more : FirstRows classes entries rows i → Grows entries more → added ≡ rows ++ row ∷ []
      → slice_get classes i ≡ Some class → AreFinals more class row.items → FirstRows classes more added (i + 1)
  one_row_more first grows adds at are = record {
    so_many = ap (λ (l : List (Sequence ℕ)). length l) adds ∙ length-append rows (row ∷ []) ∙ ap (λ (n : ℕ). n + 1) first.so_many;
    each_row = λ k c before there. elim (cases_lt k i) [
      | inl earlier ↦
          let inside : k < length rows = omega (arith, earlier, first.so_many) in
          let old = still_finals entries more grows c (numbers_at rows k) (first.each_row k c earlier there) in
          subst (AreFinals more c) (sym (ap (λ (l : List (Sequence ℕ)). numbers_at l k) adds ∙ row_before k inside)) old
      | inr later ↦
          let is_last : k ≡ length rows = omega (arith, before, later, first.so_many) in
          let is_i : k ≡ i = is_last ∙ first.so_many in
          let both_there : Some class ≡ Some c = sym at ∙ ap (slice_get classes) (sym is_i) ∙ there in
          let same : class ≡ c = cc in
          subst (λ (x : Class). AreFinals more x (numbers_at added k)) same
          (subst (AreFinals more class) (sym (ap (λ (l : List (Sequence ℕ)). numbers_at l k) adds
          ∙ ap (numbers_at (rows ++ row ∷ [])) is_last ∙ row_last)) are)
    ];
  }
