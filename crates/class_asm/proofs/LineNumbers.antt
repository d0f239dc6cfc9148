-- Lines behind a text's first have numbers from 2 on.
use Rattle.std.proofs.Common.{◌≡◌, ℕ, ◌+◌, List, [], ◌∷◌, Bool, true, false, Option, Some, None, map, refl, arith}
use Rattle.std.specs.Prelude.{◌&&◌, if◌then◌else◌, nat_le, bytes_eq}
use Rattle.std.specs.List.{list_all}
use Rattle.std.proofs.lemmas.Bool.{leb-true, le-leb}
use Rattle.jv_model.specs.Lines.{Line}
use Rattle.assembler_model.specs.AssemblerLines.{NumberedLine, line_form, numbered_from}
use Rattle.assembler_model.specs.AssemblerOrder.{Part, method_end, part_of, parts_of}
use Rattle.assembler_model.specs.Blocks.{Chunk, Cut, chunks_of, cut}
use Rattle.asm_parts.proofs.UnitLemmas.{both}

abbrev pub is_behind : NumberedLine → Bool
is_behind line = nat_le 2 line.number

abbrev pub is_part_behind : Part → Bool
is_part_behind part = is_behind part.line && list_all is_behind part.block

pub next : (number : ℕ) → nat_le 2 number ≡ true → nat_le 2 (number + 1) ≡ true
next number from = le-leb 2 (number + 1) (omega (arith, leb-true 2 number from))

lines_behind : (number : ℕ) (lines : List Line) → nat_le 2 number ≡ true → list_all is_behind (numbered_from number lines) ≡ true
unfolding numbered_from
lines_behind number [] from = refl
lines_behind number (line ∷ lines) from = rw (from, lines_behind (number + 1) lines (next number from)) refl

abbrev chunk_behind : Chunk → Bool
chunk_behind chunk = nat_le 2 chunk.number

by_end : (test : Bool) (line : Line) (shut left : Cut) → list_all chunk_behind shut.chunks ≡ true → list_all chunk_behind left.chunks ≡ true
    → list_all chunk_behind (if test then record shut { block = []; is_closed = true } else record left { block = line ∷ left.block }).chunks ≡ true
by_end true line shut left first second = first
by_end false line shut left first second = second

chunks_behind : (opens : Line → Option (List ℕ)) (end : Option (List ℕ)) (number : ℕ) (lines : List Line) → nat_le 2 number ≡ true
    → list_all chunk_behind (cut opens end number lines).chunks ≡ true
unfolding cut
chunks_behind opens None number [] from = refl
chunks_behind opens (Some end) number [] from = refl
chunks_behind opens None number (line ∷ lines) from =
    rw (from, chunks_behind opens (opens line) (number + 1) lines (next number from)) refl
chunks_behind opens (Some end) number (line ∷ lines) from =
    by_end (line.is_ended && bytes_eq line.bytes end) line (cut opens None (number + 1) lines) (cut opens (Some end) (number + 1) lines)
    (chunks_behind opens None (number + 1) lines (next number from))
    (chunks_behind opens (Some end) (number + 1) lines (next number from))

parts_from : (chunks : List Chunk) → list_all chunk_behind chunks ≡ true → list_all is_part_behind (map part_of chunks) ≡ true
parts_from [] all = refl
parts_from (chunk ∷ chunks) all =
    let here = both (chunk_behind chunk) (list_all chunk_behind chunks) all in
    rw (here.0, lines_behind (chunk.number + 1) chunk.block (next chunk.number here.0), parts_from chunks here.1) refl

pub parts_behind : (lines : List Line) → list_all is_part_behind (parts_of lines) ≡ true
unfolding parts_of
parts_behind lines =
    parts_from (chunks_of (λ line. method_end (line_form line)) lines)
    (chunks_behind (λ line. method_end (line_form line)) None 2 lines refl)
