-- The text is cut at its first space.
use Rattle.std.proofs.Common.{lit<, Some, None}
use Rattle.std.proofs.lemmas.Str.Pattern.{split_once_first}
use Rattle.jv_types.proofs.WordLemmas.{words_of_first, words_of_only}
use Rattle.jv_types.proofs.lines.first_word.Goals as goal

pub returns-in-Some : goal.returns-in-Some
returns-in-Some c =
    let cut = Some (c.in-Some.word, c.in-Some.rest) in
    let parts = split_once_first 32 c.args.text.now cut c.in-Some.ensures.cases (lit< tt) in
    words_of_first c.args.text.now c.in-Some.word.now c.in-Some.rest.now parts.0 parts.1 parts.2

pub returns-in-None : goal.returns-in-None
returns-in-None c =
    let lacks = split_once_first 32 c.args.text.now None c.in-None.ensures.cases (lit< tt) in
    words_of_only c.args.text.now lacks
