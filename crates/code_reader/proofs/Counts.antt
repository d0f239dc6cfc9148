-- The lists of code that are read by a count.
use Rattle.std.proofs.Common.{◌≡◌, ℕ, Bool, true, false, List, [], ◌∷◌, Option, Some, None, Result, Ok, Err, ℤ, refl, ◌∙◌, arith}
use Rattle.jv_model.specs.Refusal.{Cause}
use Rattle.jv_model.specs.Fallible.{◌>>=◌}
use Rattle.jv_model.specs.Input.{Input, in_front}
use Rattle.code_model.specs.OperandReading.{Site, signed_at, operand_where, is_above, target_at, targets_at, pairs_at}
use Rattle.jv_model.specs.Code.{Handler}
use Rattle.code_model.specs.CodeShape.{handler_at, handlers_at}
use Rattle.code_model.specs.StackMapEntries.{EntryType, entry_type_at, entry_types_at}
use Rattle.class_reader.proofs.Loops.Counted.{Kind, IsCounted}
use Rattle.code_reader.specs.Switch.{pair_at}
use Rattle.code_reader.specs.Behind.{IsBehind}

-- of lists whose items have nothing to do with each other
abbrev pub plain : {A : Type 0} → (Input → Result (A × Input) Cause)
    → (ℕ → Input → Result (List A × Input) Cause) → Kind (Unit {0}) A
plain item_at items_at = record {
  item_at = λ known. item_at;
  behind = λ known item. known;
  items_at = λ known. items_at;
  fault = λ known. None;
}

abbrev pub targets_kind : Site → Kind (Unit {0}) ℕ
targets_kind site = plain (target_at site 4) (targets_at site)

pub targets : (site : Site) → IsCounted (targets_kind site)
unfolding targets_at
targets site = record { none = λ known input. refl; more = λ known count input. refl }

-- a key is above the one before it
abbrev pub pairs_kind : Site → Kind (Option ℤ) (ℤ × ℕ)
pairs_kind site = record {
  item_at = pair_at site;
  behind = λ before pair. Some pair.0;
  items_at = pairs_at site;
  fault = λ before. None;
}

module _ (site : Site) (before : Option ℤ) (count : ℕ) where
  -- the others behind a pair
  abbrev others : (ℤ × ℕ) × Input → Result (List (ℤ × ℕ) × Input) Cause
  others pair = in_front (pair.0 ∷ []) (pairs_at site (Some pair.0.0) count pair.1)

  target_step : (key : ℤ) (read : Result (ℕ × Input) Cause)
      → (read >>= λ target. (pairs_at site (Some key) count target.1 >>= λ more.
      Ok ((key, target.0) ∷ more.0, more.1)))
      ≡ ((read >>= λ target. Ok ((key, target.0), target.1)) >>= others)
  target_step key (Ok target) = refl
  target_step key (Err cause) = refl

  where_step : (key : ℤ × Input) (rises : Bool)
      → (operand_where site rises key >>= λ rising. (target_at site 4 rising.1 >>= λ target.
      (pairs_at site (Some key.0) count target.1 >>= λ more.
      Ok ((key.0, target.0) ∷ more.0, more.1))))
      ≡ ((operand_where site rises key >>= λ rising. (target_at site 4 rising.1 >>= λ target.
      Ok ((key.0, target.0), target.1))) >>= others)
  where_step key true = target_step key.0 (target_at site 4 key.1)
  where_step key false = refl

  key_step : (read : Result (ℤ × Input) Cause)
      → (read >>= λ key. (operand_where site (is_above before key.0) key >>= λ rising.
      (target_at site 4 rising.1 >>= λ target.
      (pairs_at site (Some key.0) count target.1 >>= λ more.
      Ok ((key.0, target.0) ∷ more.0, more.1)))))
      ≡ ((read >>= λ key. (operand_where site (is_above before key.0) key >>= λ rising.
      (target_at site 4 rising.1 >>= λ target. Ok ((key.0, target.0), target.1)))) >>= others)
  key_step (Ok key) = where_step key (is_above before key.0)
  key_step (Err cause) = refl

pub pairs : (site : Site) → IsCounted (pairs_kind site)
unfolding pairs_at
pairs site = record {
  none = λ before input. refl;
  more = λ before count input. key_step site before count (signed_at 4 input);
}

-- ---- how far a reading came

pub behind_itself : (input : Input) → IsBehind input input
behind_itself input = record { on = omega arith; whole = refl }

pub behind_both : (first second third : Input) → IsBehind first second → IsBehind second third
    → IsBehind first third
behind_both first second third one two =
    record { on = omega arith; whole = two.whole ∙ one.whole }

-- ---- rows of the exception table, types of an entry

abbrev pub handlers_kind : Kind (Unit {0}) (Handler ℕ)
handlers_kind = plain handler_at handlers_at

pub handlers : IsCounted handlers_kind
unfolding handlers_at
handlers = record { none = λ known input. refl; more = λ known count input. refl }

abbrev pub types_kind : Cause → Kind (Unit {0}) EntryType
types_kind unknown = plain (entry_type_at unknown) (entry_types_at unknown)

pub types : (unknown : Cause) → IsCounted (types_kind unknown)
unfolding entry_types_at
types unknown = record { none = λ known input. refl; more = λ known count input. refl }
