use Rattle.std.proofs.Common.{arith}
use Rattle.look_up_cache.proofs.Rows.{words_begin, words_more, words_end}
use Rattle.look_up_cache.proofs.words.words_of.Goals as goal

pub note_word-requires : goal.note_word-requires
note_word-requires c own =
    let inside = c.requires c.loop-word.word c.get.result.now c.get.ensures own in
    omega (arith, inside, c.loop-word.invariant.length_is)

pub loop-word-init : goal.loop-word-init
loop-word-init c = words_begin c.args.class c.args.count c.args.layout.now.items c.in_ok-words.words.items c.in_ok-words.ensures

pub loop-word-preserved : goal.loop-word-preserved
loop-word-preserved c =
    words_more c.args.class c.args.count c.args.layout.now.items c.loop-word.words.items c.note_word.new.words.items c.loop-word.word c.get.result.now
    c.get.ensures c.note_word.ensures c.loop-word.invariant

pub returns : goal.returns
returns c =
    words_end c.args.class c.args.count c.args.layout.now.items c.loop-word.words.items c.loop-word.word (omega (arith, c.len-word-end.ensures)) c.loop-word.invariant
