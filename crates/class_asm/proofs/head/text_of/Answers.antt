-- Whether the bytes are UTF-8, as a test.
use Rattle.std.proofs.Common.{◌≡◌, true, false}
use Rattle.std.specs.Str.{is_utf8}
use Rattle.std.proofs.lemmas.Str.{is_utf8-from_IsUtf8}
use Rattle.asm_lines.proofs.WordLemmas.{is_utf8-not}
use Rattle.class_asm.proofs.head.text_of.Goals as goal

pub returns-in-Ok : goal.returns-in-Ok
returns-in-Ok c =
    let text : is_utf8 c.args.line.bytes.now ≡ true = is_utf8-from_IsUtf8 c.args.line.bytes.now c.in-Ok.ensures.cases.1 in
    (rw (c.if-not-line.false, text), c.in-Ok.ensures.cases.0)

pub returns-in-Err : goal.returns-in-Err
returns-in-Err c =
    let text : is_utf8 c.args.line.bytes.now ≡ false = is_utf8-not c.args.line.bytes.now c.in-Err.ensures.cases.0 in
    rw (c.if-not-line.false, text)
