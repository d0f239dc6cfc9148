-- Methods that override final ones, by marks of their numbers.
use Rattle.std.proofs.Common.{◌≡◌, ◌≢◌, ℕ, ◌+◌, ◌<◌, ◌≤◌, ◌==◌, Bool, true, false, not, ◌&&◌, ◌||◌, List, [], ◌∷◌, Option, Some, None, length, take, position, slice_get, get_or, bytes_eq, inl, inr, refl, ap, sym, ◌∙◌, true≢false, arith}
use Rattle.std.specs.List.{list_any, IsDistinct}
use Rattle.std.proofs.lemmas.Bool.{cases_lt}
use Rattle.std.proofs.lemmas.Bool.Decides.{Decides-eqb}
use Rattle.std.proofs.lemmas.List.{get_or-set_same, get_or-set_other, get_or-replicate, get_or_past, length-replicate, length-set, take_all}
use Rattle.std.proofs.lemmas.List.Folds.{list_any_more}
use Rattle.std.proofs.lemmas.List.Quantifiers.{position-Some}
use Rattle.std.proofs.lemmas.Map.Keys.{apart_from_distinct}
use Rattle.std.proofs.lemmas.Option.{slice_get_within, get_or_from_slice_get}
use Rattle.std.proofs.lemmas.Slice.Eq.{bytes_eq-Decides}
use Rattle.std.proofs.Math.ListN.{set, replicate}
use Rattle.std.specs.Prelude.{is_some, IfSome}
use Rattle.jv_model.specs.ClassData.{Const, Member}
use Rattle.jv_model.specs.ConstantPool.{units_at}
use Rattle.jv_model.specs.Partial.{passes}
use Rattle.world_model.specs.World.{World, has_flag, acc_static, acc_private}
use Rattle.world_model.specs.BootNames.{is_constructor_name}
use Rattle.jv_types.specs.ClassData.{member_of}
use Rattle.jv_types.specs.declared.class_data.Member as read
use Rattle.jv_types.specs.declared.number.ClassNo.{ClassNo}
use Rattle.class_graph.proofs.Passing.{and_left, and_right}
use Rattle.class_world.proofs.Places.{stands_inside, fails_inside}
use Rattle.use_faults.specs.Wrong.{overrides_at}
use Rattle.use_faults.specs.Finals.{is_named, same_named, has_number, numbers_at, is_final_by, DeclareUpwards, can_override_at, is_marked, has_mark}
use Rattle.use_faults.specs.declared.final_methods.NameAndType.{NameAndType}
use Rattle.use_faults.specs.declared.final_methods.FinalMethods.{FinalMethods}
use Rattle.use_faults.proofs.FinalNumbers.{or_without, and_false}

-- ---- tests of two lists

any_false : {A : Type 0} (xs : List A) → list_any (λ (x : A). false) xs ≡ false
any_false [] = refl
any_false (x ∷ xs) = any_false xs

or_pairs : (a b c d : Bool) → ((a || b) || (c || d)) ≡ ((a || c) || (b || d))
or_pairs true b c d = refl
or_pairs false true true d = refl
or_pairs false true false d = refl
or_pairs false false true d = refl
or_pairs false false false d = refl

any_or : {A : Type 0} (p q : A → Bool) (xs : List A) → (list_any p xs || list_any q xs) ≡ list_any (λ x. p x || q x) xs
any_or p q [] = refl
any_or p q (x ∷ xs) =
    or_pairs (p x) (list_any p xs) (q x) (list_any q xs) ∙ ap (λ (b : Bool). (p x || q x) || b) (any_or p q xs)

any_and : {A : Type 0} (b : Bool) (p : A → Bool) (xs : List A) → list_any (λ x. b && p x) xs ≡ (b && list_any p xs)
any_and true p xs = refl
any_and false p xs = any_false xs

-- whichever list comes first
any_swapped : {A B : Type 0} (r : A → B → Bool) (xs : List A) (ys : List B)
    → list_any (λ x. list_any (r x) ys) xs ≡ list_any (λ y. list_any (λ x. r x y) xs) ys
any_swapped r [] ys = sym (any_false ys)
any_swapped r (x ∷ xs) ys =
    ap (λ (b : Bool). list_any (r x) ys || b) (any_swapped r xs ys)
    ∙ any_or (r x) (λ y. list_any (λ z. r z y) xs) ys

-- ---- methods and classes

-- the method can override
abbrev pub can_override : List Const → Member → Bool
can_override pool member =
    not (has_flag acc_static member.flags) && not (has_flag acc_private member.flags)
    && not (is_constructor_name (units_at pool member.name))

module _ (world : World) (finals : FinalMethods) (superclass : Option ClassNo) (classes : List ClassNo) (pool : List Const)
    (methods : List read.Member) (declare : DeclareUpwards world finals superclass classes) where
  by_number : read.Member → Bool
  by_number m = can_override pool (member_of m)
      && list_any (is_final_by finals (units_at pool (member_of m).name) (units_at pool (member_of m).descriptor)) classes

  override_by_number : list_any by_number methods ≡ list_any (λ m. overrides_at world superclass pool (member_of m)) methods
  unfolding by_number
  override_by_number i = list_any (λ (m : read.Member). can_override pool (member_of m)
      && declare (units_at pool (member_of m).name) (units_at pool (member_of m).descriptor) i) methods

  -- where no class declares a final method, none overrides one
  pub none_overrides : length classes ≡ 0 → false ≡ list_any (λ m. overrides_at world superclass pool (member_of m)) methods
  unfolding by_number
  none_overrides none =
      sym ((λ i. list_any (λ (m : read.Member). and_false (can_override pool (member_of m))
      (list_any (is_final_by finals (units_at pool (member_of m).name) (units_at pool (member_of m).descriptor)) classes)
      (nothing classes none (is_final_by finals (units_at pool (member_of m).name) (units_at pool (member_of m).descriptor))) i) methods)
      ∙ any_false methods)
      ∙ override_by_number
    where
      nothing : (some : List ClassNo) → length some ≡ 0 → (p : ClassNo → Bool) → list_any p some ≡ false
      nothing [] is p = refl
      nothing (class ∷ some) is p = absurd (omega arith)

  module _ (marks : List Bool) (are_marks : (number : ℕ) → is_marked marks number
      ≡ list_any (λ m. can_override_at finals.signatures.keys pool number (member_of m)) methods) where
    -- that some class has this method's number
    in_class : read.Member → ClassNo → Bool
    in_class m class = list_any (λ n. can_override_at finals.signatures.keys pool n (member_of m)) (numbers_at finals.declared.items class.0)

    class_is : (class : ClassNo) → has_mark finals.declared.items marks class ≡ list_any (λ m. in_class m class) methods
    unfolding in_class
    class_is class =
        (λ i. list_any (λ n. are_marks n i) (numbers_at finals.declared.items class.0))
        ∙ any_swapped (λ n (m : read.Member). can_override_at finals.signatures.keys pool n (member_of m))
        (numbers_at finals.declared.items class.0) methods

    method_is : (m : read.Member) → list_any (in_class m) classes ≡ by_number m
    unfolding in_class by_number
    method_is m =
        (λ i. list_any (λ (class : ClassNo). any_and (can_override pool (member_of m))
        (has_number finals.signatures.keys (units_at pool (member_of m).name) (units_at pool (member_of m).descriptor))
        (numbers_at finals.declared.items class.0) i) classes)
        ∙ any_and (can_override pool (member_of m))
        (is_final_by finals (units_at pool (member_of m).name) (units_at pool (member_of m).descriptor)) classes

    -- a method overrides a final one exactly where a class has a mark
    pub marked_overrides : list_any (has_mark finals.declared.items marks) classes
        ≡ list_any (λ m. overrides_at world superclass pool (member_of m)) methods
    marked_overrides =
        (λ i. list_any (λ (class : ClassNo). class_is class i) classes)
        ∙ any_swapped (λ (class : ClassNo) (m : read.Member). in_class m class) classes methods
        ∙ (λ i. list_any (λ (m : read.Member). method_is m i) methods)
        ∙ override_by_number

-- ---- one mark

named_same : (name descriptor : List ℕ) (a b : NameAndType) → is_named name descriptor a ≡ true → is_named name descriptor b ≡ true
    → same_named a b ≡ true
named_same name descriptor a b is_a is_b =
    let name_a = (bytes_eq-Decides name a.name.now).0 (and_left (bytes_eq name a.name.now) (bytes_eq descriptor a.descriptor.now) is_a) in
    let name_b = (bytes_eq-Decides name b.name.now).0 (and_left (bytes_eq name b.name.now) (bytes_eq descriptor b.descriptor.now) is_b) in
    let type_a = (bytes_eq-Decides descriptor a.descriptor.now).0 (and_right (bytes_eq name a.name.now) (bytes_eq descriptor a.descriptor.now) is_a) in
    let type_b = (bytes_eq-Decides descriptor b.descriptor.now).0 (and_right (bytes_eq name b.name.now) (bytes_eq descriptor b.descriptor.now) is_b) in
    let names = (bytes_eq-Decides a.name.now b.name.now).1 (sym name_a ∙ name_b) in
    let types = (bytes_eq-Decides a.descriptor.now b.descriptor.now).1 (sym type_a ∙ type_b) in
    λ i. names i && types i

module _ (entries : List NameAndType) (name descriptor : List ℕ) where
  -- what isn't among some has no number
  pub no_number : list_any (is_named name descriptor) entries ≡ false → (n : ℕ) → has_number entries name descriptor n ≡ false
  no_number none n = by (slice_get entries n) refl
    where
      by : (at : Option NameAndType) → slice_get entries n ≡ at → has_number entries name descriptor n ≡ false
      by None is = ap (passes (is_named name descriptor)) is
      by (Some entry) is =
          ap (passes (is_named name descriptor)) is
          ∙ ap (is_named name descriptor) (sym (get_or_from_slice_get entries n entry entry is))
          ∙ fails_inside (is_named name descriptor) entries n entry none (slice_get_within entries n entry is)

  module _ (distinct : IsDistinct same_named entries) (number : ℕ) (found : position (is_named name descriptor) entries ≡ Some number) where
    found_at : (d : NameAndType) → (number < length entries) × (is_named name descriptor (get_or entries number d) ≡ true)
    found_at d = let at = position-Some (is_named name descriptor) entries number d found in (at.0, at.1)

    -- no other entry is that of the name and the descriptor
    other_fails : (n : ℕ) (entry : NameAndType) → slice_get entries n ≡ Some entry → n ≢ number
        → is_named name descriptor entry ≡ true → ⊥
    other_fails n entry is differs named =
        let there = slice_get_within entries n entry is in
        let here = ap (is_named name descriptor) (get_or_from_slice_get entries n entry entry is) ∙ named in
        let at = found_at entry in
        elim (cases_lt n number) [
          | inl before ↦ true≢false (sym (named_same name descriptor (get_or entries n entry) (get_or entries number entry) here at.1)
              ∙ apart_from_distinct same_named entries n number entry distinct before at.0)
          | inr behind ↦
              let after : number < n = omega arith in
              true≢false (sym (named_same name descriptor (get_or entries number entry) (get_or entries n entry) at.1 here)
              ∙ apart_from_distinct same_named entries number n entry distinct after there)
        ]

    other_number : (n : ℕ) → n ≢ number → has_number entries name descriptor n ≡ false
    other_number n differs = by (slice_get entries n) refl
      where
        by_test : (entry : NameAndType) (b : Bool) → slice_get entries n ≡ Some entry → is_named name descriptor entry ≡ b → b ≡ false
        by_test entry false is named = refl
        by_test entry true is named = absurd (other_fails n entry is differs named)

        by : (at : Option NameAndType) → slice_get entries n ≡ at → has_number entries name descriptor n ≡ false
        by None is = ap (passes (is_named name descriptor)) is
        by (Some entry) is =
            ap (passes (is_named name descriptor)) is ∙ by_test entry (is_named name descriptor entry) is refl

    -- the number at which it's found is its only one
    pub own_number : number < length entries → has_number entries name descriptor number ≡ true
    own_number inside =
        let there = stands_inside entries number inside in
        ap (passes (is_named name descriptor)) there.1
        ∙ ap (is_named name descriptor) (sym (get_or_from_slice_get entries number there.0 there.0 there.1))
        ∙ (found_at there.0).1

    -- the number at which it's found is its only one
    pub one_number : number < length entries → (n : ℕ) → has_number entries name descriptor n ≡ (n == number)
    one_number inside n = by (n == number) refl
      where
        by : (b : Bool) → (n == number) ≡ b → has_number entries name descriptor n ≡ (n == number)
        by true same =
            ap (has_number entries name descriptor) ((Decides-eqb n number).0 same) ∙ own_number inside ∙ sym same
        by false other = other_number n (λ is. true≢false (sym ((Decides-eqb n number).1 is) ∙ other)) ∙ sym other

  -- what a look-up gives is that number
  pub number_told : IsDistinct same_named entries → (found : Option ℕ) → found ≡ position (is_named name descriptor) entries
      → is_some found ≡ list_any (is_named name descriptor) entries → IfSome found (λ number. number < length entries)
      → (n : ℕ) → has_number entries name descriptor n ≡ passes (λ number. n == number) found
  number_told distinct None at some within n = no_number (sym some) n
  number_told distinct (Some number) at some within n = one_number distinct number (sym at) within n

-- ---- the marks of several methods

or_true : (a : Bool) → true ≡ (a || true)
or_true true = refl
or_true false = refl

-- one mark more
mark_set : (marks : List Bool) (number : ℕ) → number < length marks → (n : ℕ)
    → is_marked (set marks number true) n ≡ (is_marked marks n || (n == number))
mark_set marks number inside n = by (n == number) refl
  where
    by : (b : Bool) → (n == number) ≡ b → is_marked (set marks number true) n ≡ (is_marked marks n || (n == number))
    by true same =
        ap (is_marked (set marks number true)) ((Decides-eqb n number).0 same) ∙ get_or-set_same marks number true false inside
        ∙ or_true (is_marked marks n) ∙ ap (λ (b : Bool). is_marked marks n || b) (sym same)
    by false other =
        get_or-set_other marks number n true false (λ is. true≢false (sym ((Decides-eqb n number).1 is) ∙ other))
        ∙ or_without (is_marked marks n) (n == number) other

module _ (entries : List NameAndType) (pool : List Const) (methods : List read.Member) where
  -- the marks are those of the first so many
  pub record MarksSoFar (i : ℕ) (marks : List Bool) : Type 0 where
    pub count : length marks ≡ length entries
    pub each_number : (number : ℕ) → is_marked marks number
        ≡ list_any (λ (m : read.Member). can_override_at entries pool number (member_of m)) (take i methods)

  pub no_marks : (marks : List Bool) → marks ≡ replicate (length entries) false → MarksSoFar 0 marks
  no_marks marks is = record {
    count = ap (λ (l : List Bool). length l) is ∙ length-replicate (length entries) false;
    each_number = λ number. ap (λ (l : List Bool). get_or l number false) is ∙ all_false (length entries) number;
  }
    where
      all_false : (count number : ℕ) → get_or (replicate count false) number false ≡ false
      all_false count number = elim (cases_lt number count) [
        | inl inside ↦ get_or-replicate count number false false inside
        | inr past ↦ get_or_past (replicate count false) number false (omega (arith, past, length-replicate count false))
      ]

  module _ (i : ℕ) (marks : List Bool) (so_far : MarksSoFar i marks) (member : read.Member) (inside : i < length methods)
      (is : member ≡ get_or methods i member) (found : Option ℕ)
      (told : (n : ℕ) → can_override_at entries pool n (member_of member) ≡ passes (λ number. n == number) found) where
    one_more : (n : ℕ) → list_any (λ (m : read.Member). can_override_at entries pool n (member_of m)) (take (i + 1) methods)
        ≡ (is_marked marks n || passes (λ number. n == number) found)
    one_more n =
        list_any_more (λ (m : read.Member). can_override_at entries pool n (member_of m)) methods i member inside
        ∙ (λ j. sym (so_far.each_number n) j || can_override_at entries pool n (member_of (sym is j)))
        ∙ ap (λ (b : Bool). is_marked marks n || b) (told n)

    pub unmarked : found ≡ None → MarksSoFar (i + 1) marks
    unmarked none = record {
      count = so_far.count;
      each_number = λ n. or_without (is_marked marks n) (passes (λ number. n == number) found) (ap (passes (λ number. n == number)) none)
          ∙ sym (one_more n);
    }

    pub marked : (number : ℕ) → found ≡ Some number → number < length entries → MarksSoFar (i + 1) (set marks number true)
    marked number some within = record {
      count = length-set marks number true ∙ so_far.count;
      each_number = λ n.
          mark_set marks number (omega (arith, within, so_far.count)) n
          ∙ ap (λ (o : Option ℕ). is_marked marks n || passes (λ k. n == k) o) (sym some)
          ∙ sym (one_more n);
    }

  pub all_marked : (i : ℕ) (marks : List Bool) → length methods ≤ i → MarksSoFar i marks → (number : ℕ) → is_marked marks number
      ≡ list_any (λ (m : read.Member). can_override_at entries pool number (member_of m)) methods
  all_marked i marks end so_far number =
      so_far.each_number number
      ∙ ap (list_any (λ (m : read.Member). can_override_at entries pool number (member_of m))) (take_all i methods end)
