-- The parts, each behind those before it.
use Rattle.std.proofs.Common.{◌≡◌, ◌++◌, ◌∷◌, [], codes}
use Rattle.std.specs.Prelude.{decimal}
use Rattle.jv_model.specs.Utf16.{printed_units}
use Rattle.jv_types.specs.Refusal.{rule_of}
use Rattle.text_model.specs.CauseWords.{rule_word}
use Rattle.run_text.specs.Following.{following}
use Rattle.run_text.proofs.WordLemmas.{following-three}
use Rattle.run_text.proofs.cause_text.push_broken_rule.Goals as goal

pub returns : goal.returns
returns c =
    let is : c.push_number.new.text.items ++ 32 ∷ c.rule_word.result.now ≡ c.args.text.now.items
    ++ following (codes "41 not verified" ∷ printed_units c.args.class.now.items ∷ printed_units c.args.name.now.items
    ∷ printed_units c.args.descriptor.now.items ∷ decimal c.args.pc ∷ rule_word (rule_of c.args.rule) ∷ []) =
    rw (c.in_ok-push_number.ensures, c.from.ensures, c.in_ok-push_name.ensures, c.in_ok-push_names.ensures, c.rule_word.ensures)
    (following-three c.args.text.now.items (codes "41 not verified") _ _ _ _ _) in
    rw is at c.push_word.ensures
