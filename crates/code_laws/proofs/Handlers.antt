-- The rows of the exception table.
use Rattle.std.proofs.Common.{◌≡◌, ℕ, eqb, List, Option, refl, sym, ap, inl, inr}
use Rattle.std.specs.Prelude.{unwrap_or}
use Rattle.std.specs.List.{flat_map}
use Rattle.std.proofs.lemmas.Bool.{eqb-true, cases_Bool}
use Rattle.jv_model.specs.Input.{number_at}
use Rattle.jv_model.specs.Code.{Handler}
use Rattle.code_model.specs.CodeShape.{catch_of, handler_at, handlers_at}
use Rattle.code_model.specs.SpellsCode.{handler_bytes, FitsRow}
use Rattle.class_laws.proofs.Readers.{Spelling, Reads, Reads-as, Then, Reads-then, Made, Reads-map, Spelt, number_reads, spelt_then, AreRight, Reads-list}
use Rattle.code_laws.proofs.Signed.{Number}

-- a row that is read: its catch type isn't an index of 0
abbrev pub IsRow : Handler ℕ → Type 0
IsRow row = FitsRow row × (catch_of (unwrap_or row.catch 0) ≡ row.catch)

abbrev row_of : ℕ → ℕ → ℕ → ℕ → Handler ℕ
row_of from to target catch = record {
  from = from;
  to = to;
  target = target;
  catch = catch_of catch;
}

abbrev FourNumbers : Spelling (Handler ℕ)
FourNumbers =
    Then (Number 2) (λ from. Then (Number 2) (λ to.
    Then (Number 2) (λ target. Made (row_of from to target) (Number 2))))

-- a catch type is spelled as the index that it's read of
caught_back : (catch : ℕ) → unwrap_or (catch_of catch) 0 ≡ catch
caught_back catch =
    elim (cases_Bool (eqb catch 0)) [
      | inl is ↦ rw is (sym (eqb-true catch 0 is))
      | inr not ↦ rw not refl
    ]

-- a row that was read is spelled
row_spelled :
    (at : ℕ) (text : List ℕ) (row : Handler ℕ) → FourNumbers at text row
    → Spelt handler_bytes IsRow at text row
row_spelled at text row from =
    let to = from.others in
    let target = to.others in
    let catch = target.others in
    let back = caught_back catch.0 in
    rw catch.2 (record {
      text_is =
          rw (
            from.parts,
            to.parts,
            target.parts,
            from.spelled.text_is,
            to.spelled.text_is,
            target.spelled.text_is,
            catch.1.text_is,
            back,
          ) refl;
      right = (
        (from.spelled.right, to.spelled.right, target.spelled.right, rw back catch.1.right),
        ap (λ (n : ℕ). catch_of n) back,
      );
    })

-- a row that is spelled is read
spelled_row :
    (at : ℕ) (text : List ℕ) (row : Handler ℕ) → Spelt handler_bytes IsRow at text row
    → FourNumbers at text row
spelled_row at text row is =
    rw is.text_is (
    spelt_then row.from _ is.right.0.0 (
    spelt_then row.to _ is.right.0.1 (
    spelt_then row.target _ is.right.0.2 (
      unwrap_or row.catch 0,
      record { text_is = refl; right = is.right.0.3 },
      ap (λ (catch : Option ℕ). record {
        from = row.from;
        to = row.to;
        target = row.target;
        catch = catch;
      })
          (sym is.right.1),
    ))))

-- a row is read as it's spelled
row_reads : Reads handler_at (Spelt handler_bytes IsRow)
unfolding handler_at
row_reads =
    Reads-as (Reads-then _ (number_reads 2) (λ from.
    Reads-then _ (number_reads 2) (λ to.
    Reads-then _ (number_reads 2) (λ target.
    Reads-map (number_at 2) (Number 2) (row_of from to target) (number_reads 2)))))
    row_spelled spelled_row

abbrev pub Rows : ℕ → Spelling (List (Handler ℕ))
Rows count = Spelt (flat_map handler_bytes) (AreRight IsRow count)

-- so many rows are read as they're spelled
pub rows_reads : (count : ℕ) → Reads (handlers_at count) (Rows count)
unfolding handlers_at
rows_reads =
    Reads-list handler_bytes IsRow handler_at handlers_at row_reads (record {
      none = refl;
      more = λ count. refl;
    })
