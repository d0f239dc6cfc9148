-- The first method that is wrong, looked for one by one.
use Rattle.std.proofs.Common.{◌≡◌, ℕ, zero, suc, ◌+◌, ◌<◌, Bool, true, false, not, nat_lt, List, [], ◌∷◌, Option, Some, None, length, map, slice_get, position, option_map, ap, sym, ◌∙◌, refl, arith, below_more}
use Rattle.std.specs.Prelude.{option_and_then}
use Rattle.std.specs.List.{prefix_len}
use Rattle.std.proofs.lemmas.Bool.{lt-ltb, le-ltb}
use Rattle.std.proofs.lemmas.List.{length-map}
use Rattle.std.proofs.lemmas.Option.{slice_get-map, slice_get_within}
use Rattle.jv_model.specs.ClassData.{Const, Member}
use Rattle.jv_model.specs.Code.{Body}
use Rattle.link_model.specs.WorldOf.{method_of, methods_of, class_of}
use Rattle.jv_types.specs.ClassData.{member_of, pool_of}
use Rattle.jv_types.specs.Loaded.{loaded_of, code_of}
use Rattle.jv_types.specs.declared.class_data.Member as loaded
use Rattle.jv_types.specs.declared.loaded.Loaded.{Loaded}

-- ---- places

module _ {A : Type 0} (test : A → Bool) where
  -- none before a place passes
  abbrev pub NoneBefore : ℕ → List A → Type 0
  NoneBefore i items = (k : ℕ) → k < i → (x : A) → slice_get items k ≡ Some x → test x ≡ false

  abbrev before : List A → ℕ
  before items = prefix_len (λ x. not (test x)) items

  stops : (items : List A) (i : ℕ) (x : A) → slice_get items i ≡ Some x → test x ≡ true → NoneBefore i items
      → before items ≡ i
  stops [] i x is passes none = absurd (let inside = slice_get_within [] i x is in omega arith)
  stops (y ∷ items) zero x is passes none =
      let same : y ≡ x = cc in
      let here : test y ≡ true = ap test same ∙ passes in
      rw here refl
  stops (y ∷ items) (suc i) x is passes none =
      rw (none zero (omega arith) y refl)
      (let rest = stops items i x is passes (λ k below z at. none (suc k) (omega arith) z at) in omega (arith, rest))

  ends : (items : List A) → NoneBefore (length items) items → before items ≡ length items
  ends [] none = refl
  ends (y ∷ items) none =
      rw (none zero (omega arith) y refl)
      (let rest = ends items (λ k below z at. none (suc k) (omega arith) z at) in omega (arith, rest))

  pub one_more : (items : List A) (i : ℕ) (x : A) → slice_get items i ≡ Some x → test x ≡ false
      → NoneBefore i items → NoneBefore (i + 1) items
  one_more items i x is fails none =
      below_more _ i none (λ y at.
      let there : Some x ≡ Some y = sym is ∙ at in
      let equal : x ≡ y = cc in
      ap test (sym equal) ∙ fails)

  -- the place of the first that passes
  pub position_here : (items : List A) (i : ℕ) (x : A) → slice_get items i ≡ Some x → test x ≡ true
      → NoneBefore i items → Some i ≡ position test items
  position_here items i x is passes none =
      let within : nat_lt i (length items) ≡ true = lt-ltb i (length items) (slice_get_within items i x is) in
      let first : before items ≡ i = stops items i x is passes none in
      rw (first, within) refl

  pub position_none : (items : List A) → NoneBefore (length items) items → None ≡ position test items
  position_none items none =
      let all : before items ≡ length items = ends items none in
      let beyond : nat_lt (length items) (length items) ≡ false = le-ltb (length items) (length items) (omega arith) in
      rw (all, beyond) refl

-- ---- the methods of a class

method_at : (pool : List Const) (members : List Member) (bodies : List (Option (Body ℕ))) (k : ℕ)
    → slice_get (methods_of pool members bodies) k
    ≡ option_map (λ m. method_of pool m (option_and_then (λ b. b) (slice_get bodies k))) (slice_get members k)
unfolding methods_of
method_at pool [] bodies k = refl
method_at pool (member ∷ members) [] zero = refl
method_at pool (member ∷ members) [] (suc k) = method_at pool members [] k
method_at pool (member ∷ members) (body ∷ bodies) zero = refl
method_at pool (member ∷ members) (body ∷ bodies) (suc k) = method_at pool members bodies k

length_methods : (pool : List Const) (members : List Member) (bodies : List (Option (Body ℕ)))
    → length (methods_of pool members bodies) ≡ length members
unfolding methods_of
length_methods pool [] bodies = refl
length_methods pool (member ∷ members) [] = ap suc (length_methods pool members [])
length_methods pool (member ∷ members) (body ∷ bodies) = ap suc (length_methods pool members bodies)

-- what is read of a method is what the class has
pub method_read : (class : Loaded) (k : ℕ) (member : loaded.Member) (code : Option (Body ℕ))
    → slice_get class.file.methods.items k ≡ Some member
    → code ≡ option_and_then (λ b. b) (slice_get (map code_of class.codes.items) k)
    → slice_get (class_of (loaded_of class)).methods k
    ≡ Some (method_of (pool_of class.file.pool.items) (member_of member) code)
method_read class k member code is is_code =
    let pool = pool_of class.file.pool.items in
    method_at pool (map member_of class.file.methods.items) (map code_of class.codes.items) k
    ∙ ap (λ (o : Option Member). option_map (λ (m : Member). method_of pool m (option_and_then (λ b. b) (slice_get (map code_of class.codes.items) k))) o)
    (slice_get-map member_of class.file.methods.items k ∙ ap (option_map member_of) is)
    ∙ ap (λ (body : Option (Body ℕ)). Some (method_of pool (member_of member) body)) (sym is_code)

-- a class has as many methods as its file
pub method_count : (class : Loaded) → length (class_of (loaded_of class)).methods ≡ length class.file.methods.items
method_count class =
    length_methods (pool_of class.file.pool.items) (map member_of class.file.methods.items) (map code_of class.codes.items)
    ∙ length-map class.file.methods.items member_of
