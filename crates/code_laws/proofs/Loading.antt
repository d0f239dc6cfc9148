-- The code of a class's methods is loaded as it is spelled.
use Rattle.std.proofs.Common.{◌≡◌, ℕ, ◌+◌, Bool, List, [], ◌∷◌, Option, Some, None, Result, Ok, refl, ap, subst, ◌∙◌, inl, inr}
use Rattle.std.specs.Prelude.{find, option_map}
use Rattle.std.specs.List.{AllByRecursion, AllZip}
use Rattle.std.proofs.lemmas.Bool.{cases_Bool}
use Rattle.jv_model.specs.Refusal.{Cause}
use Rattle.jv_model.specs.Fallible.{◌>>=◌}
use Rattle.jv_model.specs.ClassData.{gap, Attr, Member, ClassData}
use Rattle.jv_model.specs.Profile.{IsU1}
use Rattle.jv_model.specs.Code.{Body}
use Rattle.code_model.specs.CodeShape.{code_bytes}
use Rattle.code_model.specs.CodeReading.{body_at, code_or_none, codes_from}
use Rattle.code_model.specs.SpellsCode.{HasCode}
use Rattle.code_model.specs.Laws.{AreBytes, CodesAreLoaded}
use Rattle.class_laws.proofs.Numbers.{bind_ok, ok_is}
use Rattle.code_laws.proofs.Options.{some_is}
use Rattle.code_laws.proofs.Bodies.{code_read}
use Rattle.jv_model.specs.ConstantPool.{const_at}

-- the bytes of an attribute that was found are bytes
found_bytes :
    (test : Attr → Bool) (attributes : List Attr) (bytes : List ℕ)
    → AllByRecursion (λ (a : Attr). AllByRecursion IsU1 a.bytes) attributes
    → option_map (λ (a : Attr). a.bytes) (find test attributes) ≡ Some bytes
    → AllByRecursion IsU1 bytes
found_bytes test [] bytes all e = absurd cc
found_bytes test (attribute ∷ attributes) bytes all e =
    elim (cases_Bool (test attribute)) [
      | inl is ↦
          let same : attribute.bytes ≡ bytes = some_is _ _ (rw is at e) in
          subst (λ (b : List ℕ). AllByRecursion IsU1 b) same all.0
      | inr not ↦ found_bytes test attributes bytes all.1 (rw not at e)
    ]

module _ (file : ClassData) (gapped : const_at file.pool 0 ≡ gap) where
  -- what is read of a method's attribute is its code
  method_taken :
      (index : ℕ) (method : Member) (found : Option (List ℕ)) (its : Option (Body ℕ))
      → AreBytes method → code_bytes file method ≡ found
      → code_or_none file index method found ≡ Ok its → HasCode file method its
  method_taken index method None its are_bytes is e =
      subst (λ (its : Option (Body ℕ)). HasCode file method its) (ok_is _ its e) is
  method_taken index method (Some bytes) its are_bytes is e =
      let body = bind_ok (body_at file index method bytes) (λ body. Ok (Some body)) its e in
      let fits = found_bytes _ method.attributes bytes are_bytes is in
      subst (λ (its : Option (Body ℕ)). HasCode file method its) (ok_is _ its body.2)
      (bytes, is, (code_read file index method bytes body.0 gapped fits).0 body.1)

  -- its code is read
  method_found :
      (index : ℕ) (method : Member) (its : Option (Body ℕ)) → AreBytes method
      → HasCode file method its → code_or_none file index method (code_bytes file method) ≡ Ok its
  method_found index method None are_bytes has = rw has refl
  method_found index method (Some body) are_bytes (bytes, is, spells) =
      let fits = found_bytes _ method.attributes bytes are_bytes is in
      let read : body_at file index method bytes ≡ Ok body =
      (code_read file index method bytes body gapped fits).1 spells in
      let step : code_or_none file index method (Some bytes) ≡ Ok (Some body) =
      ap (λ (read : Result (Body ℕ) Cause). read >>= λ body. Ok (Some body)) read in
      ap (λ (found : Option (List ℕ)). code_or_none file index method found) is ∙ step

  -- what is read is the code of each method
  codes_taken :
      (index : ℕ) (methods : List Member) (codes : List (Option (Body ℕ)))
      → AllByRecursion AreBytes methods → codes_from file index methods ≡ Ok codes
      → AllZip (HasCode file) methods codes
  unfolding codes_from
  codes_taken index [] codes are_bytes e =
      subst (λ (cs : List (Option (Body ℕ))). AllZip (HasCode file) [] cs) (ok_is [] codes e) tt
  codes_taken index (method ∷ methods) codes are_bytes e =
      let first = bind_ok (code_or_none file index method (code_bytes file method)) _ codes e in
      let others = bind_ok (codes_from file (index + 1) methods) _ codes first.2 in
      subst (λ (cs : List (Option (Body ℕ))). AllZip (HasCode file) (method ∷ methods) cs)
      (ok_is (first.0 ∷ others.0) codes others.2) (
        method_taken index method (code_bytes file method) first.0 are_bytes.0 refl first.1,
        codes_taken (index + 1) methods others.0 are_bytes.1 others.1,
      )

  -- the code of each method is read
  codes_found :
      (index : ℕ) (methods : List Member) (codes : List (Option (Body ℕ)))
      → AllByRecursion AreBytes methods → AllZip (HasCode file) methods codes
      → codes_from file index methods ≡ Ok codes
  unfolding codes_from
  codes_found index [] [] are_bytes all = refl
  codes_found index [] (its ∷ codes) are_bytes all = absurd all
  codes_found index (method ∷ methods) [] are_bytes all = absurd all
  codes_found index (method ∷ methods) (its ∷ codes) are_bytes all =
      rw (
        method_found index method its are_bytes.0 all.0,
        codes_found
            (index + 1) methods codes are_bytes.1 all.1,
      ) refl

-- the code of a class is loaded as it's spelled
pub codes_are_loaded : CodesAreLoaded
codes_are_loaded file codes gapped are_bytes = (
  codes_taken file gapped 0 file.methods codes are_bytes,
  codes_found file gapped 0 file.methods codes are_bytes,
)
