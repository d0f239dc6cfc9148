-- The head of the first method's Code attribute, while the methods are read one behind another.
use Rattle.std.proofs.Common.{◌≡◌, ℕ, zero, suc, ◌<◌, ◌≤◌, List, [], ◌∷◌, length, Option, Some, option_and_then, Err, sym, ap, ◌∙◌, arith}
use Rattle.std.specs.List.{slice_get}
use Rattle.jv_model.specs.Refusal.{Cause}
use Rattle.jv_model.specs.ClassData.{Member, ClassData}
use Rattle.jv_model.specs.Input.{whole_of}
use Rattle.code_model.specs.CodeShape.{code_bytes}
use Rattle.code_reader.specs.Head.{head_at, first_bytes}

-- where the head of the attribute of the method with that index is refused, this holds
abbrev pub OnRefusal : ℕ → Option (List ℕ) → Type 0 → Type 0
OnRefusal index bytes P = (run : List ℕ) → bytes ≡ Some run
    → (cause : Cause) → head_at index (whole_of run) ≡ Err cause → P

-- the head of the first method isn't refused
abbrev pub FirstIsRight : ClassData → Type 0
FirstIsRight file = OnRefusal 0 (first_bytes file) ⊥

module _ (file : ClassData) where
  first_is : (method : Member) → slice_get file.methods 0 ≡ Some method
      → first_bytes file ≡ code_bytes file method
  first_is method here =
      ap (λ (found : Option Member). option_and_then (λ (m : Member). code_bytes file m) found) here

  -- what holds where the head of any method is refused does so for the first one
  pub first_refusal : (P : Type 0) (index : ℕ) (method : Member)
      → slice_get file.methods index ≡ Some method → (0 < index → FirstIsRight file)
      → OnRefusal index (code_bytes file method) P → OnRefusal 0 (first_bytes file) P
  first_refusal P zero method here before told =
      λ run its cause refused. told run (sym (first_is method here) ∙ its) cause refused
  first_refusal P (suc index) method here before told =
      λ run its cause refused. absurd (before (omega arith) run its cause refused)

  no_first : (methods : List Member) (run : List ℕ) → length methods ≤ 0
      → option_and_then (λ (m : Member). code_bytes file m) (slice_get methods 0) ≡ Some run → ⊥
  no_first [] run none its = cc
  no_first (first ∷ methods) run none its = omega (arith, none)

  -- all methods were read
  pub methods_read : (index : ℕ) → length file.methods ≤ index → (0 < index → FirstIsRight file)
      → FirstIsRight file
  methods_read zero done before = λ run its cause refused. no_first file.methods run done its
  methods_read (suc index) done before = before (omega arith)
