-- Laws of journals.
use Rattle.std.proofs.Common.{◌≡◌, List, [], ◌∷◌, ◌++◌, Option, Some, None, refl, sym, ap, ◌∙◌}
use Rattle.jv_model.specs.Partial.{◌>>=◌}
use Rattle.jv_model.specs.Journal.{Entry}
use Rattle.machine_model.specs.Machine.{Machine, Program}
use Rattle.machine_model.specs.Start.{start}
use Rattle.journal_model.specs.Journal.{made, replayed, replay}
use Rattle.run_laws.proofs.Fronts.{bind_some}

then_both : {A : Type 0} (found : Option A) (both first second : A → Option A)
    → ((x : A) → both x ≡ (first x >>= second)) → (found >>= both) ≡ ((found >>= first) >>= second)
then_both None both first second each = refl
then_both (Some x) both first second each = each x

-- The entries of two journals, one behind the other.
pub replayed-append : (front rest : List Entry) (machine : Machine)
    → replayed (front ++ rest) machine ≡ (replayed front machine >>= λ next. replayed rest next)
unfolding replayed
replayed-append [] rest machine = refl
replayed-append (entry ∷ front) rest machine =
    then_both (made entry machine) (replayed (front ++ rest)) (replayed front) (replayed rest) (replayed-append front rest)

-- A front of a legal journal is legal, and the rest is legal behind it.
pub journal_front : (front rest : List Entry) (machine end : Machine)
    → replayed (front ++ rest) machine ≡ Some end
    → (middle : Machine) × (replayed front machine ≡ Some middle) × (replayed rest middle ≡ Some end)
journal_front front rest machine end e =
    bind_some (replayed front machine) (replayed rest) end (sym (replayed-append front rest machine) ∙ e)

pub replay_front : (program : Program) (front rest : List Entry) (end : Machine)
    → replay program (front ++ rest) ≡ Some end
    → (middle : Machine) × (replay program front ≡ Some middle) × (replayed rest middle ≡ Some end)
replay_front program front rest end e = journal_front front rest (start program) end e

-- Two legal journals, one after the other, are one.
pub journals_are_one : (front rest : List Entry) (machine middle end : Machine) → replayed front machine ≡ Some middle
    → replayed rest middle ≡ Some end → replayed (front ++ rest) machine ≡ Some end
journals_are_one front rest machine middle end first second =
    replayed-append front rest machine ∙ ap (λ (o : Option _). o >>= λ next. replayed rest next) first ∙ second

-- one entry more
pub replayed_more : (front : List Entry) (entry : Entry) (machine middle end : Machine)
    → replayed front machine ≡ Some middle → made entry middle ≡ Some end
    → replayed (front ++ entry ∷ []) machine ≡ Some end
unfolding replayed
replayed_more front entry machine middle end e f =
    replayed-append front (entry ∷ []) machine ∙ ap (λ (o : Option _). o >>= λ next. replayed (entry ∷ []) next) e ∙ ap (λ (o : Option _). o >>= λ next. replayed [] next) f
