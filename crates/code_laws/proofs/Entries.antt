-- An index that is read of an entry that an instruction needs.
use Rattle.std.proofs.Common.{◌≡◌, ℕ, Bool, true, false, cond, eqb, leb, List, [], ◌∷◌, Result, Ok, refl, sym, subst, IsTrue, inl, inr}
use Rattle.std.specs.List.{AllByRecursion, list_any}
use Rattle.std.proofs.lemmas.Bool.{eqb-true, cases_Bool}
use Rattle.jv_model.specs.Refusal.{Cause}
use Rattle.jv_model.specs.Fallible.{◌>>=◌}
use Rattle.jv_model.specs.Input.{Input, number_at}
use Rattle.jv_model.specs.ClassData.{ClassData, Const}
use Rattle.jv_model.specs.ConstantPool.{const_at, tag_of, interface_methodref_tag}
use Rattle.code_model.specs.Entries.{EntryKind, a_loadable, a_long, a_field, a_method, a_method_of_any, a_method_of_interface, a_class, tags_of_kind, is_of_kind, unsupported_tags, is_unsupported}
use Rattle.code_model.specs.OperandReading.{Site, not_supported, operand_where, entry_at}
use Rattle.class_laws.proofs.Readers.{Spelling, Reads, Passing, Reads-kept, number_reads}
use Rattle.code_laws.proofs.Signed.{Number}

-- what each of some tags has, one of them has
one_of_tags :
    (Has : ℕ → Type 0) (tag : ℕ) (tags : List ℕ) → AllByRecursion Has tags
    → IsTrue (list_any (λ other. eqb tag other) tags) → Has tag
one_of_tags Has tag [] all is = absurd cc
one_of_tags Has tag (first ∷ tags) all is =
    elim (cases_Bool (eqb tag first)) [
      | inl here ↦ subst Has (sym (eqb-true tag first here)) all.0
      | inr not ↦ one_of_tags Has tag tags all.1 (rw not at is)
    ]

-- a tag of no entry that isn't supported
abbrev IsSupported : EntryKind → ℕ → Type 0
IsSupported kind tag = list_any (λ other. eqb tag other) (unsupported_tags kind) ≡ false

-- what is of a kind that is needed is supported
kind_is_supported :
    (major : ℕ) (kind : EntryKind) → AllByRecursion (IsSupported kind) (tags_of_kind major kind)
kind_is_supported major a_loadable = (refl, (refl, tt))
kind_is_supported major a_long = (refl, tt)
kind_is_supported major a_field = (refl, tt)
kind_is_supported major a_method = (refl, tt)
kind_is_supported major a_method_of_any = (refl, of_interfaces (leb 52 major))
  where
    of_interfaces :
        (too : Bool)
        → AllByRecursion (IsSupported a_method_of_any) (cond too (interface_methodref_tag ∷ []) [])
    of_interfaces true = (refl, tt)
    of_interfaces false = tt
kind_is_supported major a_method_of_interface = (refl, tt)
kind_is_supported major a_class = (refl, tt)

-- an entry of a kind that is needed is supported
entry_is_supported :
    (major : ℕ) (kind : EntryKind) (entry : Const) → IsTrue (is_of_kind major kind entry)
    → is_unsupported kind entry ≡ false
entry_is_supported major kind entry is =
    one_of_tags (IsSupported kind) (tag_of entry) (tags_of_kind major kind)
    (kind_is_supported major kind) is

-- ---- the index

abbrev kept_entry : Site → Bool → Bool → ℕ × Input → Result (ℕ × Input) Cause
kept_entry site unsupported right index =
    cond unsupported (not_supported site) (Ok index) >>= operand_where site right

-- an index that is kept is of the right kind
entry_taken :
    (site : Site) (unsupported right : Bool) (x y : ℕ × Input)
    → kept_entry site unsupported right x ≡ Ok y → IsTrue right × (x ≡ y)
entry_taken site true right x y e = absurd cc
entry_taken site false true x y e = (refl, cc)
entry_taken site false false x y e = absurd cc

-- one of the right kind is kept
entry_kept :
    (site : Site) (unsupported right : Bool) (x : ℕ × Input) → unsupported ≡ false → IsTrue right
    → kept_entry site unsupported right x ≡ Ok x
entry_kept site true right x supported is = absurd cc
entry_kept site false true x supported is = refl
entry_kept site false false x supported is = absurd cc

abbrev pub Index : ClassData → EntryKind → ℕ → Spelling ℕ
Index file kind count =
    Passing (λ index. IsTrue (is_of_kind file.major kind (const_at file.pool index))) (Number count)

-- an index is read where it names an entry of its kind
pub entry_reads :
    (site : Site) (kind : EntryKind) (count : ℕ)
    → Reads (entry_at site kind count) (Index site.file kind count)
unfolding entry_at
entry_reads site kind count =
    Reads-kept (number_at count) (Number count)
    (λ index.
    kept_entry site (is_unsupported kind (const_at site.file.pool index.0))
    (is_of_kind site.file.major kind (const_at site.file.pool index.0)) index)
    _ (number_reads count)
    (record {
      taken = λ x y e. entry_taken site _ _ x y e;
      kept = λ x is.
          entry_kept site _ _ x
          (entry_is_supported site.file.major kind (const_at site.file.pool x.0) is) is;
    })
