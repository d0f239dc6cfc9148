use Rattle.std.proofs.Common.{◌≡◌, take, map}
use Rattle.assembler_model.specs.AssemblerLines.{frame_type}
use Rattle.asm_lines.specs.Terms.{types_of}
use Rattle.asm_lines.specs.Words.{texts}
use Rattle.asm_lines.proofs.frame.frame_types.Given as goal

-- the types so far
abbrev pub invariant-loop-word : goal.invariant-loop-word
invariant-loop-word l = types_of l.types ≡ map frame_type (texts (take l.word-index l.words))
