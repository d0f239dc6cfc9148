-- What the laws of code say of an answer that is what reading gives.
use Rattle.std.proofs.Common.{◌≡◌, ℕ, zero, suc, ◌+◌, ◌≤◌, Bool, true, false, List, [], ◌∷◌, ◌++◌, length, drop, Option, Some, None, option_map, find, Result, Ok, Err, refl, sym, ap, subst, ◌∙◌, inl, inr}
use Rattle.std.specs.Prelude.{IfOk}
use Rattle.std.specs.List.{slice_get, AllByRecursion, AllZip}
use Rattle.std.proofs.lemmas.Bool.{cases_Bool}
use Rattle.std.proofs.Math.ListN.{drop_of_length-le}
use Rattle.std.proofs.lemmas.List.{append-nil}
use Rattle.jv_model.specs.Refusal.{Cause, wrong_shape}
use Rattle.jv_model.specs.ClassData.{Const, gap, Attr, Member, ClassData}
use Rattle.jv_model.specs.ConstantPool.{const_at}
use Rattle.jv_model.specs.Profile.{IsU1, IsAttr, IsMethod, BeginsWithGap, IsInProfile}
use Rattle.jv_model.specs.Code.{Body}
use Rattle.code_model.specs.CodeShape.{code_bytes, parts_at, parts_of}
use Rattle.code_model.specs.CodeReading.{body_at, code_of, code_or_none, codes_from, load_of}
use Rattle.code_model.specs.SpellsCode.{HasCode, SpellsCode}
use Rattle.code_model.specs.Laws.{AreBytes}
use Rattle.code_laws.proofs.Bodies.{code_read}
use Rattle.code_laws.proofs.Loading.{codes_are_loaded}
use Rattle.jv_types.specs.Reading.{Refuses}
use Rattle.jv_types.specs.Code.{body_of}
use Rattle.jv_types.specs.declared.code.CodeBody.{CodeBody}
use Rattle.code_reader.specs.declared.error.CodeError.{CodeError}
use Rattle.code_reader.specs.Gives.{GivesCode}
use Rattle.code_reader.specs.Method.{IsCodeOf, GivesCodes}
use Rattle.class_reader.proofs.Loops.InFront.{Refuses-first}
use Rattle.code_reader.proofs.Starts.{drop_item}
use Rattle.code_reader.proofs.InstructionLists.{items_in_front, first_in_front}

-- ---- what the profile says

begins : (pool : List Const) → BeginsWithGap pool → const_at pool 0 ≡ gap
begins [] first = absurd first
begins (gap ∷ entries) first = refl
begins (other ∷ entries) first = absurd first

attributes_are_bytes : (pool : List Const) (attributes : List Attr)
    → AllByRecursion (IsAttr pool) attributes
    → AllByRecursion (λ (a : Attr). AllByRecursion IsU1 a.bytes) attributes
attributes_are_bytes pool [] all = tt
attributes_are_bytes pool (attribute ∷ attributes) all =
    (all.0.bytes.1, attributes_are_bytes pool attributes all.1)

methods_are_bytes : (pool : List Const) (methods : List Member)
    → AllByRecursion (IsMethod pool) methods → AllByRecursion AreBytes methods
methods_are_bytes pool [] all = tt
methods_are_bytes pool (method ∷ methods) all = (
  attributes_are_bytes pool method.attributes all.0.member.attributes,
  methods_are_bytes pool methods all.1,
)

some_same : {A : Type 0} (x y : A) → Some x ≡ Some y → x ≡ y
some_same x y e = cc

method_at : (methods : List Member) (index : ℕ) (method : Member)
    → slice_get methods index ≡ Some method → AllByRecursion AreBytes methods → AreBytes method
method_at [] index method is all = absurd cc
method_at (first ∷ methods) zero method is all =
    subst (λ (m : Member). AreBytes m) (some_same first method is) all.0
method_at (first ∷ methods) (suc index) method is all = method_at methods index method is all.1

found_bytes : (test : Attr → Bool) (attributes : List Attr) (bytes : List ℕ)
    → AllByRecursion (λ (a : Attr). AllByRecursion IsU1 a.bytes) attributes
    → option_map (λ (a : Attr). a.bytes) (find test attributes) ≡ Some bytes
    → AllByRecursion IsU1 bytes
found_bytes test [] bytes all e = absurd cc
found_bytes test (attribute ∷ attributes) bytes all e =
    elim (cases_Bool (test attribute)) [
      | inl is ↦ subst (λ (b : List ℕ). AllByRecursion IsU1 b)
          (some_same attribute.bytes bytes (rw is at e)) all.0
      | inr not ↦ found_bytes test attributes bytes all.1 (rw not at e)
    ]

-- ---- one method

module _ (file : ClassData) (index : ℕ) (method : Member)
    (here : slice_get file.methods index ≡ Some method) where
  pub code_is : (bytes : List ℕ) → Some bytes ≡ code_bytes file method
      → code_of file index ≡ body_at file index method bytes
  unfolding code_of
  code_is bytes found = rw (here, ← found) refl

  pub no_code : None ≡ code_bytes file method → code_of file index ≡ Err (wrong_shape index 0)
  unfolding code_of body_at parts_of parts_at
  no_code none = rw (here, ← none) refl

  pub code_found : (bytes : List ℕ) (answer : Result CodeBody CodeError) → IsInProfile file
      → Some bytes ≡ code_bytes file method
      → GivesCode index body_of answer (body_at file index method bytes)
      → IfOk answer (λ body. IsCodeOf file index (body_of body))
  code_found bytes (Err error) profile found gives = tt
  code_found bytes (Ok body) profile found gives =
      let fits = found_bytes _ method.attributes bytes
      (method_at file.methods index method here
      (methods_are_bytes file.pool file.methods profile.methods)) (sym found) in (
        method,
        here,
        (
          bytes,
          sym found,
          (code_read file index method bytes (body_of body) (begins file.pool profile.pool.entries)
              fits).0 gives,
        ),
      )

  pub code_only : (bytes : List ℕ) (answer : Result CodeBody CodeError) (body : Body ℕ)
      → IsInProfile file → Some bytes ≡ code_bytes file method → IsCodeOf file index body
      → GivesCode index body_of answer (body_at file index method bytes)
      → GivesCode index body_of answer (Ok body)
  code_only bytes answer body profile found (other, there, (run, is, spells)) gives =
      let same : other ≡ method = some_same other method (sym there ∙ here) in
      let its : code_bytes file method ≡ Some run =
      ap (λ (m : Member). code_bytes file m) (sym same) ∙ is in
      let runs : run ≡ bytes = some_same run bytes (sym its ∙ sym found) in
      let fits = found_bytes _ method.attributes bytes
      (method_at file.methods index method here
      (methods_are_bytes file.pool file.methods profile.methods)) (sym found) in
      let spelled : SpellsCode file method bytes body =
      subst (λ (m : Member). SpellsCode file m bytes body) same
      (subst (λ (b : List ℕ). SpellsCode file other b body) runs spells) in
      subst (λ (read : Result (Body ℕ) Cause). GivesCode index body_of answer read)
      ((code_read file index method bytes body (begins file.pool profile.pool.entries) fits).1
      spelled) gives

  pub no_body : (body : Body ℕ) → None ≡ code_bytes file method → IsCodeOf file index body → ⊥
  no_body body none (other, there, (run, is, spells)) =
      let same : other ≡ method = some_same other method (sym there ∙ here) in
      none_some run (none ∙ ap (λ (m : Member). code_bytes file m) (sym same) ∙ is)
    where
      none_some : (run : List ℕ) → None ≡ Some run → ⊥
      none_some run e = cc

-- ---- all methods

pub codes_found : {X : Type 0} (view : X → List (Option (Body ℕ))) (file : ClassData)
    (answer : Result X (ℕ × CodeError)) → IsInProfile file
    → GivesCodes view answer (load_of file)
    → IfOk answer (λ x. AllZip (HasCode file) file.methods (view x))
codes_found view file (Err error) profile gives = tt
codes_found view file (Ok x) profile gives =
    (codes_are_loaded file (view x) (begins file.pool profile.pool.entries)
    (methods_are_bytes file.pool file.methods profile.methods)).0 gives

pub codes_only : {X : Type 0} (view : X → List (Option (Body ℕ))) (file : ClassData)
    (answer : Result X (ℕ × CodeError)) (codes : List (Option (Body ℕ))) → IsInProfile file
    → AllZip (HasCode file) file.methods codes → GivesCodes view answer (load_of file)
    → GivesCodes view answer (Ok codes)
codes_only view file answer codes profile spelled gives =
    subst (λ (read : Result (List (Option (Body ℕ))) Cause). GivesCodes view answer read)
    ((codes_are_loaded file codes (begins file.pool profile.pool.entries)
    (methods_are_bytes file.pool file.methods profile.methods)).1 spelled) gives

module _ (file : ClassData) (methods : List Member) (i : ℕ) (front : List (Option (Body ℕ)))
    (method : Member) (is : slice_get methods i ≡ Some method) where
  pub code_more : (code : Option (Body ℕ))
      → code_or_none file i method (code_bytes file method) ≡ Ok code
      → items_in_front front (codes_from file i (drop i methods))
      ≡ items_in_front (front ++ code ∷ []) (codes_from file (i + 1) (drop (i + 1) methods))
  unfolding codes_from
  code_more code read =
      rw (drop_item methods i method is, read)
      (first_in_front front code (codes_from file (i + 1) (drop (i + 1) methods)))

  pub code_refused : (refusal : Option Cause)
      → Refuses refusal (code_or_none file i method (code_bytes file method))
      → Refuses refusal (items_in_front front (codes_from file i (drop i methods)))
  unfolding codes_from
  code_refused refusal refused =
      rw (drop_item methods i method is)
      (Refuses-first refusal _ _ (Refuses-first refusal
      (code_or_none file i method (code_bytes file method)) _ refused))

pub codes_done : (file : ClassData) (methods : List Member) (i : ℕ)
    (front : List (Option (Body ℕ))) → length methods ≤ i
    → items_in_front front (codes_from file i (drop i methods)) ≡ Ok front
unfolding codes_from
codes_done file methods i front past =
    rw (drop_of_length-le methods past) (ap Ok (append-nil front))

-- ---- the attribute with the code

pub found_here : (test : Attr → Bool) (attributes : List Attr) (i : ℕ) (attribute : Attr)
    → slice_get attributes i ≡ Some attribute → test attribute ≡ true
    → find test (drop i attributes) ≡ Some attribute
found_here test attributes i attribute is passes = rw (drop_item attributes i attribute is, passes) refl

pub found_later : (test : Attr → Bool) (attributes : List Attr) (i : ℕ) (attribute : Attr)
    → slice_get attributes i ≡ Some attribute → test attribute ≡ false
    → find test (drop i attributes) ≡ find test (drop (i + 1) attributes)
found_later test attributes i attribute is fails = rw (drop_item attributes i attribute is, fails) refl

pub found_nowhere : (test : Attr → Bool) (attributes : List Attr) (i : ℕ)
    → length attributes ≤ i → find test (drop i attributes) ≡ None
found_nowhere test attributes i past = rw (drop_of_length-le attributes past) refl
