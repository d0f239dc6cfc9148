use Rattle.std.proofs.Common.{◌≡◌, drop}
use denote.Text.{Utf8}
use denote.Shadow.{shadow}
use Rattle.jv_model.specs.Lines.{words_of}
use Rattle.asm_lines.proofs.words.text_behind.Given as goal

-- the words that are left
abbrev pub invariant-loop-place : goal.invariant-loop-place
invariant-loop-place l = shadow (Utf8 l.left) × (drop l._place (words_of l.line) ≡ words_of l.left)
