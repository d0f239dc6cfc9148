-- The longest texts, which `search` gives up at.
use Rattle.text_model.specs.CauseWords.{cause_words}
use Rattle.run_text.proofs.cause_text.push_cause.Goals as goal

pub returns-in-Unsupported : goal.returns-in-Unsupported
unfolding cause_words
returns-in-Unsupported c = rw c.in-Unsupported.is c.push_two-in-Unsupported.ensures

pub returns-in-Descriptor : goal.returns-in-Descriptor
unfolding cause_words
returns-in-Descriptor c = rw c.in-Descriptor.is c.push_in_class-in-Descriptor.ensures

pub returns-in-Transformer : goal.returns-in-Transformer
unfolding cause_words
returns-in-Transformer c = rw c.in-Transformer.is c.push_class-in-Transformer.ensures

pub returns-in-NotVerified : goal.returns-in-NotVerified
unfolding cause_words
returns-in-NotVerified c = rw c.in-NotVerified.is c.push_broken_rule.ensures
