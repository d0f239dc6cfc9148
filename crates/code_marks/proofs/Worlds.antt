-- The codes of the classes of a world, and one class more.
use Rattle.std.proofs.Common.{◌≡◌, ℕ, zero, suc, ◌+◌, ◌<◌, List, [], ◌∷◌, ◌++◌, Option, Some, None, inl, inr, is_some, length, filter, filter_map, take, slice_get, option_map, option_and_then, if◌then◌else◌, ap, sym, subst, ◌∙◌, refl, arith}
use Rattle.std.specs.List.{cons_option}
use Rattle.std.proofs.lemmas.Bool.{cases_lt}
use Rattle.std.proofs.lemmas.List.{length-append, take_more, append-nil}
use Rattle.std.proofs.lemmas.List.Concat.{flat_map-append}
use Rattle.std.proofs.lemmas.Option.{slice_get_within, get_or_from_slice_get}
use Rattle.jv_model.specs.Operand.{Operand}
use Rattle.jv_model.specs.Code.{Body}
use Rattle.world_model.specs.World.{World, Class, Method}
use Rattle.world_model.specs.LookUp.{Found}
use Rattle.class_world.specs.World.{class_of_origin}
use Rattle.class_world.specs.declared.class_info.Origin.{Origin}
use Rattle.class_world.specs.declared.class_info.Origin.TheVariants.{Boot, Program}
use Rattle.class_world.proofs.Places.{stands_inside}
use Rattle.code_store.specs.declared.mark.CodeMark.{CodeMark}
use Rattle.code_marks.specs.Marks.{methods_in, is_coded, code_count, mark_if, AreMarks, AddsMarks, Rows, mark_at, class_codes, codes_of, codes_before, AreWorldMarks, shown, ShowCodes}
use Rattle.code_marks.proofs.Codes.{still_there, last_there}

pub methods_are : (names : List (List ℕ)) (origin : Origin) → methods_in origin ≡ (class_of_origin names origin).methods
methods_are names (Boot class) = refl
methods_are names (Program loaded) = refl

-- ---- codes of one class

abbrev code_in : Method → Option (Body Operand)
code_in m = m.code

pub count_codes : (methods : List Method) → code_count methods ≡ length (filter_map code_in methods)
count_codes [] = refl
count_codes (m ∷ methods) = by m.code (count_codes methods)
  where
    by : (o : Option (Body Operand)) → code_count methods ≡ length (filter_map code_in methods)
        → length (if is_some o then m ∷ filter is_coded methods else filter is_coded methods)
        ≡ length (cons_option o (filter_map code_in methods))
    by None rest = rest
    by (Some code) rest = ap suc rest

none_before : (methods : List Method) → code_count (take 0 methods) ≡ 0
none_before [] = refl
none_before (m ∷ methods) = refl

-- the code of a method stands at the place of its number
own_code : (methods : List Method) (i : ℕ) (m : Method) (code : Body Operand) → slice_get methods i ≡ Some m → m.code ≡ Some code
    → slice_get (filter_map code_in methods) (code_count (take i methods)) ≡ Some code
own_code [] i m code at is = absurd cc
own_code (x ∷ methods) zero m code at is =
    let same : x ≡ m = cc in
    ap (λ (o : Option (Body Operand)). slice_get (cons_option o (filter_map code_in methods)) 0) (ap code_in same ∙ is)
own_code (x ∷ methods) (suc i) m code at is = by x.code (own_code methods i m code at is)
  where
    by : (o : Option (Body Operand)) → slice_get (filter_map code_in methods) (code_count (take i methods)) ≡ Some code
        → slice_get (cons_option o (filter_map code_in methods))
        (length (if is_some o then x ∷ filter is_coded (take i methods) else filter is_coded (take i methods))) ≡ Some code
    by None rest = rest
    by (Some own) rest = rest

-- ---- codes of classes

behind : {A : Type 0} (xs ys : List A) (n : ℕ) (y : A) → slice_get ys n ≡ Some y → slice_get (xs ++ ys) (length xs + n) ≡ Some y
behind [] ys n y at = subst (λ (p : ℕ). slice_get ys p ≡ Some y) (omega arith) at
behind (x ∷ xs) ys n y at =
    let one : suc (length xs + n) ≡ length (x ∷ xs) + n = omega arith in
    subst (λ (p : ℕ). slice_get (x ∷ (xs ++ ys)) p ≡ Some y) one (behind xs ys n y at)

code_there : (classes : List Class) (k : ℕ) (class : Class) (i : ℕ) (m : Method) (code : Body Operand) → slice_get classes k ≡ Some class
    → slice_get class.methods i ≡ Some m → m.code ≡ Some code
    → slice_get (codes_of classes) (length (codes_of (take k classes)) + code_count (take i class.methods)) ≡ Some code
code_there [] k class i m code there at is = absurd cc
code_there (c ∷ classes) zero class i m code there at is =
    let same : c ≡ class = cc in
    let n = code_count (take i class.methods) in
    let first : n ≡ 0 + n = omega arith in
    subst (λ (d : Class). slice_get (class_codes d ++ codes_of classes) (0 + n) ≡ Some code) (sym same)
    (subst (λ (p : ℕ). slice_get (class_codes class ++ codes_of classes) p ≡ Some code) first
    (still_there (class_codes class) (codes_of classes) n code (own_code class.methods i m code at is)))
code_there (c ∷ classes) (suc k) class i m code there at is =
    let n = code_count (take i class.methods) in
    let before = length (codes_of (take k classes)) in
    let sums : length (class_codes c) + (before + n) ≡ length (class_codes c ++ codes_of (take k classes)) + n =
    omega (arith, length-append (class_codes c) (codes_of (take k classes))) in
    subst (λ (p : ℕ). slice_get (class_codes c ++ codes_of classes) p ≡ Some code) sums
    (behind (class_codes c) (codes_of classes) (before + n) code (code_there classes k class i m code there at is))

-- one class more
pub codes_next : (world : World) (k : ℕ) (class : Class) → slice_get world.classes k ≡ Some class
    → codes_before world (k + 1) ≡ codes_before world k + code_count class.methods
codes_next world k class there =
    let inside = slice_get_within world.classes k class there in
    ap (λ (l : List Class). length (codes_of l))
    (take_more world.classes k class inside
    ∙ ap (λ (c : Class). take k world.classes ++ c ∷ []) (get_or_from_slice_get world.classes k class class there))
    ∙ ap (λ (l : List (Body Operand)). length l) (flat_map-append class_codes (take k world.classes) (class ∷ [])
    ∙ ap (λ (l : List (Body Operand)). codes_of (take k world.classes) ++ l) (append-nil (class_codes class)))
    ∙ length-append (codes_of (take k world.classes)) (class_codes class)
    ∙ ap (λ (n : ℕ). codes_before world k + n) (sym (count_codes class.methods))

pub codes_begin : (world : World) → codes_before world 0 ≡ 0
codes_begin world = by world.classes
  where
    by : (classes : List Class) → length (codes_of (take 0 classes)) ≡ 0
    by [] = refl
    by (c ∷ classes) = refl

-- ---- the marks of the first so many classes

pub record WorldSoFar (world : World) (k : ℕ) (rows : Rows) : Type 0 where
  pub count : length rows ≡ k
  pub each : (class : ℕ) (c : Class) (row : List (Option CodeMark)) → slice_get world.classes class ≡ Some c
      → slice_get rows class ≡ Some row → AreMarks c.methods (codes_before world class) 0 row

pub none_so_far : (world : World) (rows : Rows) → rows ≡ [] → WorldSoFar world 0 rows
none_so_far world rows none = record {
  count = ap (λ (l : Rows). length l) none;
  each = λ class c row there at. absurd (missing class row (ap (λ (l : Rows). slice_get l class) (sym none) ∙ at));
}
  where
    missing : (class : ℕ) (row : List (Option CodeMark)) → slice_get [] class ≡ Some row → ⊥
    missing class row at = cc

-- a row stands before the last one, or is it
row_before : (rows : Rows) (last row : List (Option CodeMark)) (class k : ℕ) → length rows ≡ k → class < k
    → slice_get (rows ++ last ∷ []) class ≡ Some row → slice_get rows class ≡ Some row
row_before rows last row class k count before at =
    let there = stands_inside rows class (omega arith) in
    let both : Some there.0 ≡ Some row = sym (still_there rows (last ∷ []) class there.0 there.1) ∙ at in
    there.1 ∙ both

pub next_class : (world : World) (k : ℕ) (class : Class) (methods : List Method) (base : ℕ) (old new : Rows) → slice_get world.classes k ≡ Some class
    → methods ≡ class.methods → base ≡ codes_before world k → AddsMarks methods base 0 old new → WorldSoFar world k old → WorldSoFar world (k + 1) new
next_class world k class methods base old new there is_methods is_base adds so_far = record {
  count = ap (λ (l : Rows). length l) adds.added ∙ length-append old (adds.row ∷ []) ∙ ap (λ (n : ℕ). n + 1) so_far.count;
  each = λ n c row c_there at.
      let inside : n < k + 1 = omega (arith, slice_get_within new n row at, ap (λ (l : Rows). length l) adds.added, length-append old (adds.row ∷ []), so_far.count) in
      let at_old = ap (λ (l : Rows). slice_get l n) (sym adds.added) ∙ at in
      (elim (cases_lt n k) [
        | inl earlier ↦ so_far.each n c row c_there (row_before old adds.row row n k so_far.count earlier at_old)
        | inr later ↦
            let same : n ≡ k = omega arith in
            let both : Some class ≡ Some c = sym there ∙ ap (slice_get world.classes) (sym same) ∙ c_there in
            let is_class : class ≡ c = cc in
            let last : Some adds.row ≡ Some row = sym (last_there old adds.row n (so_far.count ∙ sym same)) ∙ at_old in
            let is_row : adds.row ≡ row = cc in
            subst (λ (r : List (Option CodeMark)). AreMarks c.methods (codes_before world n) 0 r) is_row
            (subst (λ (b : ℕ). AreMarks c.methods b 0 adds.row) (is_base ∙ ap (codes_before world) (sym same))
            (subst (λ (ms : List Method). AreMarks ms base 0 adds.row) (is_methods ∙ ap (λ (d : Class). d.methods) is_class) adds.marks))
      ]);
}

pub world_marks : (world : World) (k : ℕ) (rows : Rows) → k ≡ length world.classes → WorldSoFar world k rows → AreWorldMarks world rows
world_marks world k rows end so_far = record { count = so_far.count ∙ end; each = so_far.each }

-- ---- what they show

mark_shows : (codes : List (Body Operand)) (place : ℕ) (own : Option (Body Operand))
    → ((code : Body Operand) → own ≡ Some code → slice_get codes place ≡ Some code)
    → shown codes (mark_if (is_some own) place 0) ≡ own
mark_shows codes place None there = refl
mark_shows codes place (Some code) there = there code refl

pub show_codes : (world : World) (rows : Rows) → AreWorldMarks world rows → ShowCodes world rows
show_codes world rows marks method found at = of_class (slice_get world.classes method.class.0) refl at
  where
    member : Class → Option (Found Method)
    member c = option_map (λ (m : Method). record { class = c.name; member = m }) (slice_get c.methods method.index)

    of_method : (c : Class) → slice_get world.classes method.class.0 ≡ Some c → (o : Option Method) → slice_get c.methods method.index ≡ o
        → option_map (λ (m : Method). record { class = c.name; member = m }) o ≡ Some found
        → shown (codes_of world.classes) (mark_at rows method) ≡ found.member.code
    of_method c there None none is = absurd cc
    of_method c there (Some m) here is =
        let class_inside = slice_get_within world.classes method.class.0 c there in
        let row = stands_inside rows method.class.0 (omega (arith, class_inside, marks.count)) in
        let inside = slice_get_within c.methods method.index m here in
        let place = codes_before world method.class.0 + code_count (take method.index c.methods) in
        let mark = (marks.each method.class.0 c row.0 there row.1).each method.index inside in
        let found_is : record { class = c.name; member = m } ≡ found = cc in
        ap (λ (o : Option (List (Option CodeMark))). shown (codes_of world.classes)
        (option_and_then (λ (o : Option CodeMark). o) (option_and_then (λ (r : List (Option CodeMark)). slice_get r method.index) o))) row.1
        ∙ ap (λ (o : Option (Option CodeMark)). shown (codes_of world.classes) (option_and_then (λ (o : Option CodeMark). o) o)) mark
        ∙ ap (λ (o : Option Method). shown (codes_of world.classes)
        (option_and_then (λ (n : Method). mark_if (is_coded n) place 0) o)) here
        ∙ mark_shows (codes_of world.classes) place m.code
        (λ code is. code_there world.classes method.class.0 c method.index m code there here is)
        ∙ ap (λ (f : Found Method). f.member.code) found_is

    of_class : (o : Option Class) → slice_get world.classes method.class.0 ≡ o → option_and_then member o ≡ Some found
        → shown (codes_of world.classes) (mark_at rows method) ≡ found.member.code
    of_class None none is = absurd cc
    of_class (Some c) there is = of_method c there (slice_get c.methods method.index) refl is
