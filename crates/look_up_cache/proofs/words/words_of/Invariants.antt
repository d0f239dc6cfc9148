use Rattle.std.proofs.Common.{take}
use Rattle.look_up_cache.specs.Words.{AreWordsOf}
use Rattle.look_up_cache.proofs.words.words_of.Given as goal

-- the places of the fields so far
abbrev pub invariant-loop-word : goal.invariant-loop-word
invariant-loop-word l = AreWordsOf l.class l.count (take l.word l.layout.items) l.words.items
