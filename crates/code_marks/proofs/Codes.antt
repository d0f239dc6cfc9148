-- Codes of methods, one more.
use Rattle.std.proofs.Common.{◌≡◌, ℕ, zero, suc, ◌+◌, ◌<◌, Bool, true, false, if◌then◌else◌, List, [], ◌∷◌, ◌++◌, Option, Some, None, inl, inr, is_some, length, map, filter, take, slice_get, option_map, option_and_then, ap, sym, ◌∙◌, refl, arith}
use Rattle.std.proofs.lemmas.Bool.{cases_lt}
use Rattle.std.proofs.lemmas.List.{length-append, length-map, take_more}
use Rattle.std.proofs.lemmas.List.Elements.{filter-append}
use Rattle.std.proofs.lemmas.Option.{slice_get_within, get_or_from_slice_get}
use Rattle.jv_model.specs.ClassData.{Const, Member}
use Rattle.jv_model.specs.Code.{Body}
use Rattle.world_model.specs.World.{Method}
use Rattle.link_model.specs.WorldOf.{method_of, methods_of}
use Rattle.jv_types.specs.Boot.{boot_method_of}
use Rattle.jv_types.specs.Loaded.{code_of}
use Rattle.jv_types.specs.ClassData.{pool_of, members_of}
use Rattle.jv_types.specs.declared.boot.BootMethod.{BootMethod}
use Rattle.jv_types.specs.declared.boot.BootClass.{BootClass}
use Rattle.jv_types.specs.declared.loaded.Loaded.{Loaded}
use Rattle.jv_types.specs.declared.code.CodeBody.{CodeBody}
use Rattle.class_world.specs.declared.class_info.Origin.TheVariants.{Boot, Program}
use Rattle.code_store.specs.declared.mark.CodeMark.{CodeMark}
use Rattle.code_marks.specs.Marks.{methods_in, is_coded, code_count, count_of, mark_if, mark_for, AreMarks}

-- ---- which methods have code

abbrev code_at : {A : Type 0} → List (Option A) → ℕ → Option A
code_at {A} codes index = option_and_then (λ (code : Option A). code) (slice_get codes index)

is_some-map : {A B : Type 0} (f : A → B) (o : Option A) → is_some o ≡ is_some (option_map f o)
is_some-map f None = refl
is_some-map f (Some x) = refl

pub length-methods : (pool : List Const) (members : List Member) (bodies : List (Option (Body ℕ)))
    → length (methods_of pool members bodies) ≡ length members
unfolding methods_of
length-methods pool [] bodies = refl
length-methods pool (member ∷ members) [] = ap suc (length-methods pool members [])
length-methods pool (member ∷ members) (body ∷ bodies) = ap suc (length-methods pool members bodies)

abbrev CodeThere : List Method → List (Option (Body ℕ)) → ℕ → Type 0
CodeThere methods bodies index = (m : Method) × (slice_get methods index ≡ Some m) × (is_some (code_at bodies index) ≡ is_some m.code)

code_there : (pool : List Const) (members : List Member) (bodies : List (Option (Body ℕ))) (index : ℕ) → index < length members
    → CodeThere (methods_of pool members bodies) bodies index
unfolding methods_of
code_there pool [] bodies index inside = absurd (omega arith)
code_there pool (member ∷ members) [] zero inside = (method_of pool member None, refl, refl)
code_there pool (member ∷ members) [] (suc index) inside = code_there pool members [] index (omega arith)
code_there pool (member ∷ members) (body ∷ bodies) zero inside = (method_of pool member body, refl, is_some-map _ body)
code_there pool (member ∷ members) (body ∷ bodies) (suc index) inside = code_there pool members bodies index (omega arith)

code_read : (codes : List (Option CodeBody)) (index : ℕ)
    → is_some (code_at codes index) ≡ is_some (code_at (map code_of codes) index)
code_read [] index = refl
code_read (code ∷ codes) zero = is_some-map _ code
code_read (code ∷ codes) (suc index) = code_read codes index

pub count_boot : (class : BootClass) → length class.methods.items ≡ length (methods_in (Boot class))
count_boot class = sym (length-map class.methods.items boot_method_of)

pub count_read : (loaded : Loaded) → length loaded.file.methods.items ≡ length (methods_in (Program loaded))
count_read loaded =
    sym (length-methods (pool_of loaded.file.pool.items) (members_of loaded.file.methods.items) (map code_of loaded.codes.items)
    ∙ length-map loaded.file.methods.items _)

pub boot_code : (class : BootClass) (index : ℕ) → index < length (methods_in (Boot class))
    → (m : Method) × (slice_get (methods_in (Boot class)) index ≡ Some m) × (false ≡ is_some m.code)
boot_code class index inside = by class.methods.items index (omega (arith, inside, length-map class.methods.items boot_method_of))
  where
    by : (methods : List BootMethod) (k : ℕ) → k < length methods
        → (m : Method) × (slice_get (map boot_method_of methods) k ≡ Some m) × (false ≡ is_some m.code)
    by [] k there = absurd (omega arith)
    by (method ∷ methods) zero there = (boot_method_of method, refl, refl)
    by (method ∷ methods) (suc k) there = by methods k (omega arith)

pub read_code : (loaded : Loaded) (index : ℕ) → index < length (methods_in (Program loaded))
    → (m : Method) × (slice_get (methods_in (Program loaded)) index ≡ Some m)
    × (is_some (option_and_then (λ (code : Option CodeBody). code) (slice_get loaded.codes.items index)) ≡ is_some m.code)
read_code loaded index inside =
    let pool = pool_of loaded.file.pool.items in
    let members = members_of loaded.file.methods.items in
    let bodies = map code_of loaded.codes.items in
    let there = code_there pool members bodies index (omega (arith, inside, length-methods pool members bodies)) in
    (there.0, there.1, code_read loaded.codes.items index ∙ there.2)

-- ---- one method more

filter_one : (m : Method) (b : Bool) → b ≡ is_some m.code → length (filter is_coded (m ∷ [])) ≡ count_of b
filter_one m b is = ap (λ (t : Bool). length (if t then m ∷ [] else [])) (sym is) ∙ by b
  where
    by : (b : Bool) → length (if b then m ∷ [] else []) ≡ count_of b
    by true = refl
    by false = refl

module _ (methods : List Method) (index : ℕ) (m : Method) (there : slice_get methods index ≡ Some m) (b : Bool) (is : b ≡ is_some m.code) where
  pub inside : index < length methods
  inside = slice_get_within methods index m there

  taken : take (index + 1) methods ≡ take index methods ++ m ∷ []
  taken =
      take_more methods index m inside
      ∙ ap (λ (n : Method). take index methods ++ n ∷ []) (get_or_from_slice_get methods index m m there)

  pub one_code : code_count (take (index + 1) methods) ≡ code_count (take index methods) + count_of b
  one_code =
      ap code_count taken ∙ ap (λ (l : List Method). length l) (filter-append is_coded (take index methods) (m ∷ []))
      ∙ length-append (filter is_coded (take index methods)) (filter is_coded (m ∷ []))
      ∙ ap (λ (n : ℕ). code_count (take index methods) + n) (filter_one m b is)

  marked : (base version : ℕ) → mark_if b (base + code_count (take index methods)) version ≡ mark_for methods base version index
  marked base version =
      ap (λ (t : Bool). mark_if t (base + code_count (take index methods)) version) is
      ∙ sym (ap (option_and_then (λ (n : Method). mark_if (is_coded n) (base + code_count (take index methods)) version)) there)

-- ---- rows

-- those of the first so many methods
pub record MarksSoFar (methods : List Method) (base version i : ℕ) (row : List (Option CodeMark)) (body : ℕ) : Type 0 where
  pub count : length row ≡ i
  pub body_is : body ≡ base + code_count (take i methods)
  pub each : (index : ℕ) → index < i → slice_get row index ≡ Some (mark_for methods base version index)

pub marks_begin : (methods : List Method) (base version : ℕ) (row : List (Option CodeMark)) (body : ℕ) → row ≡ [] → body ≡ base
    → MarksSoFar methods base version 0 row body
marks_begin methods base version row body none is = record {
  count = ap (λ (l : List (Option CodeMark)). length l) none;
  body_is = omega (arith, is, first_none methods);
  each = λ index before. absurd (omega arith);
}
  where
    first_none : (methods : List Method) → code_count (take 0 methods) ≡ 0
    first_none [] = refl
    first_none (m ∷ ms) = refl

pub still_there : {A : Type 0} (xs ys : List A) (i : ℕ) (x : A) → slice_get xs i ≡ Some x → slice_get (xs ++ ys) i ≡ Some x
still_there [] ys i x at = absurd cc
still_there (y ∷ xs) ys zero x at = at
still_there (y ∷ xs) ys (suc i) x at = still_there xs ys i x at

pub last_there : {A : Type 0} (xs : List A) (x : A) (i : ℕ) → length xs ≡ i → slice_get (xs ++ x ∷ []) i ≡ Some x
last_there [] x zero is = refl
last_there [] x (suc i) is = absurd (omega arith)
last_there (y ∷ xs) x zero is = absurd (omega arith)
last_there (y ∷ xs) x (suc i) is = last_there xs x i (omega arith)

pub next_mark : (methods : List Method) (base version i : ℕ) (row longer : List (Option CodeMark)) (body next : ℕ)
    → MarksSoFar methods base version i row body
    → (m : Method) (b : Bool) → slice_get methods i ≡ Some m → b ≡ is_some m.code → (mark : Option CodeMark)
    → mark ≡ mark_if b body version
    → longer ≡ row ++ mark ∷ [] → next ≡ body + count_of b
    → MarksSoFar methods base version (i + 1) longer next
next_mark methods base version i row longer body next so_far m b there is mark is_mark is_longer is_next = record {
  count = ap (λ (l : List (Option CodeMark)). length l) is_longer ∙ length-append row (mark ∷ []) ∙ ap (λ (n : ℕ). n + 1) so_far.count;
  body_is = omega (arith, is_next, so_far.body_is, one_code methods i m there b is);
  each = λ index before. ap (λ (l : List (Option CodeMark)). slice_get l index) is_longer ∙ (elim (cases_lt index i) [
    | inl earlier ↦ still_there row (mark ∷ []) index (mark_for methods base version index) (so_far.each index earlier)
    | inr last ↦
        let same : index ≡ i = omega arith in
        last_there row mark index (so_far.count ∙ sym same)
        ∙ ap Some (is_mark
        ∙ ap (λ (n : ℕ). mark_if b n version) so_far.body_is
        ∙ marked methods i m there b is base version
        ∙ ap (mark_for methods base version) (sym same))
  ]);
}

pub all_marks : (methods : List Method) (base version i : ℕ) (row : List (Option CodeMark)) (body : ℕ) → i ≡ length methods
    → MarksSoFar methods base version i row body → AreMarks methods base version row
all_marks methods base version i row body is so_far = record {
  count = so_far.count ∙ is;
  each = λ index inside. so_far.each index (omega (arith, inside, is));
}
