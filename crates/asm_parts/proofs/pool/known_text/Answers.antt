-- What is known of any text.
use Rattle.std.proofs.lemmas.Str.{is_utf8-from_IsUtf8}
use Rattle.asm_parts.proofs.pool.known_text.Goals as goal

pub returns : goal.returns
returns c = is_utf8-from_IsUtf8 c.args.text.now c.utf8.text
