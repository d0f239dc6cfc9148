-- Indices that name entries of a kind, and lists behind their counts.
use Rattle.std.proofs.Common.{◌≡◌, ℕ, ◌+◌, List, ◌++◌, length, Result, refl, sym, ap, subst, append_assoc, length-append, arith, IsTrue, ◌∙◌}
use Rattle.std.specs.List.{flat_map}
use Rattle.jv_model.specs.Refusal.{Cause}
use Rattle.jv_model.specs.Fallible.{◌>>=◌}
use Rattle.jv_model.specs.Input.{Input, number_at}
use Rattle.jv_model.specs.ClassData.{Const}
use Rattle.jv_model.specs.ConstantPool.{names, class_tag}
use Rattle.jv_model.specs.ClassBytes.{u2, table}
use Rattle.jv_model.specs.Profile.{IsU2}
use Rattle.jv_model.specs.ClassReading.{index_at, classes_at}
use Rattle.class_laws.proofs.Readers.{Spelling, Reads, Reads-as, Then, Reads-then, Reads-kept, where_keeps, Spelt, u2_reads, spelt_then, AreRight, Reads-list}

-- ---- indices

abbrev pub IsIndex : List Const → ℕ → ℕ → Type 0
IsIndex pool tag index = IsU2 index × IsTrue (names pool tag index)

pub index_reads : (pool : List Const) (tag : ℕ)
    → Reads (index_at pool tag) (Spelt u2 (IsIndex pool tag))
unfolding index_at
index_reads pool tag =
    Reads-as (Reads-kept (number_at 2) (Spelt u2 IsU2) _
    (λ index. IsTrue (names pool tag index)) u2_reads (where_keeps (names pool tag) _))
    (λ at text index spelled. record
    { text_is = spelled.0.text_is; right = (spelled.0.right, spelled.1) })
    (λ at text index spelled. (
      record { text_is = spelled.text_is; right = spelled.right.0 },
      spelled.right.1,
    ))

pub classes_read : (pool : List Const) (count : ℕ)
    → Reads (classes_at pool count) (Spelt (flat_map u2) (AreRight (IsIndex pool class_tag) count))
unfolding classes_at
classes_read pool = Reads-list u2 (IsIndex pool class_tag) (index_at pool class_tag)
    (classes_at pool) (index_reads pool class_tag) (record { none = refl; more = λ count. refl })

-- ---- lists behind their counts

-- a list of these, of which there are no more than the count can say
abbrev pub IsTable : {A : Type 0} → (ℕ → List A → Type 0) → List A → Type 0
IsTable AreSo items = IsU2 (length items) × AreSo (length items) items

module _ {A B : Type 0} (spell : A → List ℕ) {AreSo : ℕ → List A → Type 0}
    {many : ℕ → Input → Result (List A × Input) Cause} {Others : List A → Spelling B}
    (others : List A × Input → Result (B × Input) Cause)
    (counts : (count : ℕ) (items : List A) → AreSo count items → length items ≡ count)
    (reads : (count : ℕ) → Reads (many count) (Spelt (flat_map spell) (AreSo count)))
    (go : (items : List A) → Reads (λ rest. others (items, rest)) (Others items)) where
  table_to : (at : ℕ) (text : List ℕ) (y : B)
      → Then (Spelt u2 IsU2) (λ count. Then (Spelt (flat_map spell) (AreSo count)) Others) at text y
      → Then (Spelt (table spell) (IsTable AreSo)) Others at text y
  table_to at text y spelled =
      let count = spelled.first in
      let list = spelled.others in
      let same : length list.first ≡ count = counts count list.first list.spelled.right in
      let text_is : spelled.front ++ list.front ≡ table spell list.first =
      rw (spelled.spelled.text_is, list.spelled.text_is, same) refl in
      let place : (at + length spelled.front) + length list.front
      ≡ at + length (spelled.front ++ list.front) =
      omega (arith, length-append spelled.front list.front) in
      record {
        first = list.first;
        front = spelled.front ++ list.front;
        rest = list.rest;
        parts = spelled.parts ∙ ap (λ (t : List ℕ). spelled.front ++ t) list.parts
            ∙ sym (append_assoc spelled.front list.front list.rest);
        spelled = record {
          text_is = text_is;
          right = (
            rw same spelled.spelled.right,
            subst (λ (n : ℕ). AreSo n list.first) (sym same) list.spelled.right,
          );
        };
        others = subst (λ (p : ℕ). Others list.first p list.rest y) place list.others;
      }

  table_from : (at : ℕ) (text : List ℕ) (y : B)
      → Then (Spelt (table spell) (IsTable AreSo)) Others at text y
      → Then (Spelt u2 IsU2) (λ count. Then (Spelt (flat_map spell) (AreSo count)) Others) at text y
  table_from at text y spelled =
      let items = spelled.first in
      let count = u2 (length items) in
      let place : at + length spelled.front ≡ (at + length count) + length (flat_map spell items) =
      omega (
        arith,
        length-append count (flat_map spell items),
        ap (λ (t : List ℕ). length t) spelled.spelled.text_is,
      ) in
      record {
        first = length items;
        front = count;
        rest = flat_map spell items ++ spelled.rest;
        parts = spelled.parts ∙ ap (λ (t : List ℕ). t ++ spelled.rest) spelled.spelled.text_is
            ∙ append_assoc count (flat_map spell items) spelled.rest;
        spelled = record { text_is = refl; right = spelled.spelled.right.0 };
        others = spelt_then items spelled.rest spelled.spelled.right.1
            (subst (λ (p : ℕ). Others items p spelled.rest y) place spelled.others);
      }

  pub Reads-table : Reads (λ input. number_at 2 input >>= λ count. many count.0 count.1 >>= others)
      (Then (Spelt (table spell) (IsTable AreSo)) Others)
  Reads-table = Reads-as (Reads-then _ u2_reads (λ count. Reads-then _ (reads count) go)) table_to
      table_from
