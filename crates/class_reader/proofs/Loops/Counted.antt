-- A count of items, one after the other. What is known before each of them may change from item to
-- item.
use Rattle.std.proofs.Common.{◌≡◌, ℕ, suc, ◌+◌, ◌-◌, ◌<◌, ◌≤◌, List, [], ◌∷◌, ◌++◌, Option, Some, None, Result, Ok, Err, refl, sym, ap, ◌∙◌, arith}
use Rattle.jv_model.specs.Refusal.{Cause}
use Rattle.jv_model.specs.Fallible.{◌>>=◌, unless}
use Rattle.jv_model.specs.Input.{Input, in_front}
use Rattle.jv_types.specs.Reading.{Refuses}
use Rattle.class_reader.proofs.Loops.InFront as lists

-- how such a list is read: an item, what is known behind it, so many items, and what is wrong
-- behind the last
pub record Kind (S A : Type 0) : Type 0 where
  pub item_at : S → Input → Result (A × Input) Cause
  pub behind : S → A → S
  pub items_at : S → ℕ → Input → Result (List A × Input) Cause
  pub fault : S → Option Cause

pub record IsCounted {S A : Type 0} (kind : Kind S A) : Type 0 where
  pub none : (known : S) (input : Input)
      → kind.items_at known 0 input ≡ unless (kind.fault known) ([], input)
  pub more : (known : S) (count : ℕ) (input : Input) → kind.items_at known (suc count) input
      ≡ (kind.item_at known input >>= λ first.
      in_front (first.0 ∷ []) (kind.items_at (kind.behind known first.0) count first.1))

module _ {S A : Type 0} (kind : Kind S A) (counted : IsCounted kind) (front : List A) (known : S)
    (count at : ℕ) (input : Input) (whole : Result (List A × Input) Cause)
    (so_far : in_front front (kind.items_at known (count - at) input) ≡ whole) where
  pub goes_on : (item : A) (rest : Input) → at < count → kind.item_at known input ≡ Ok (item, rest)
      → in_front (front ++ item ∷ [])
      (kind.items_at (kind.behind known item) (count - (at + 1)) rest) ≡ whole
  goes_on item rest more first =
      let left : count - at ≡ suc (count - (at + 1)) = omega arith in
      lists.goes_on front (item ∷ []) (kind.items_at known (count - at) input) _ whole
      (rw (left, counted.more, first) refl) so_far

  pub is_refused : (refusal : Option Cause) → at < count
      → Refuses refusal (kind.item_at known input) → Refuses refusal whole
  is_refused refusal more first =
      let left : count - at ≡ suc (count - (at + 1)) = omega arith in
      lists.is_refused refusal front (kind.items_at known (count - at) input) whole
      (rw (left, counted.more) (lists.Refuses-first refusal (kind.item_at known input) _ first))
      so_far

  at_the_end : count ≤ at → kind.items_at known (count - at) input
      ≡ unless (kind.fault known) ([], input)
  at_the_end all =
      let left : count - at ≡ 0 = omega arith in
      rw left (counted.none known input)

  pub is_done : count ≤ at → None ≡ kind.fault known → whole ≡ Ok (front, input)
  is_done all none =
      lists.is_done front input (kind.items_at known (count - at) input) whole
      (at_the_end all ∙ ap (λ fault. unless fault ([], input)) (sym none)) so_far

  pub is_faulty : (cause : Cause) → count ≤ at → Some cause ≡ kind.fault known → whole ≡ Err cause
  is_faulty cause all some =
      lists.is_refused (Some cause) front (kind.items_at known (count - at) input) whole
      (at_the_end all ∙ ap (λ fault. unless fault ([], input)) (sym some)) so_far
