-- The labels are the same, in whatever order.
use Rattle.std.proofs.Common.{refl}
use Rattle.std.proofs.lemmas.Result.{on_ok_weaker}
use Rattle.asm_code.proofs.PlaceLemmas.{word_more}
use Rattle.asm_code.proofs.place.set_label.Goals as goal

pub returns-clause-place : goal.returns-clause-place
returns-clause-place c =
    on_ok_weaker c.set.result
    (λ is. record {
      pc = refl;
      framed = refl;
      labels = λ other. word_more c.args.place.now.labels.entries c.set.new.labels.entries
          (record { label = c.args.label.now; pc = c.args.place.now.pc }) other is;
    })
    c.set.ensures
