-- A text, cut into parts.
use Rattle.std.proofs.Common.{◌≡◌, ℕ, ◌+◌, ◌≤◌, List, [], ◌∷◌, ◌++◌, Bool, true, false, Option, Some, None, length, map, refl, ap, sym, ◌∙◌, append_assoc, arith}
use Rattle.std.specs.Prelude.{◌&&◌, bytes_eq, codes, ◌==◌, if◌then◌else◌}
use Rattle.std.proofs.lemmas.Bool.{eqb-true}
use Rattle.std.proofs.lemmas.List.{append-nil}
use Rattle.jv_model.specs.Lines.{Line, lines_of}
use Rattle.assembler_model.specs.AssemblerLines.{NumberedLine, numbered, numbered_from, line_form}
use Rattle.assembler_model.specs.AssemblerOrder.{Part, method_end, part_of, parts_of}
use Rattle.assembler_model.specs.Blocks.{Chunk, Cut, cut, chunks_of}
use Rattle.asm_parts.specs.Parts.{opens, chunks_from, block_cut}

-- the line that ends a method
abbrev pub ends : Line → Bool
ends line = line.is_ended && bytes_eq line.bytes (codes "end")

abbrev pub method_cut : ℕ → List Line → Cut
method_cut number lines = block_cut (Some (codes "end")) number lines

-- the lines of a method so far, of all, and the lines that are left
pub record InBlock (number : ℕ) (all : List Line) (lines : List NumberedLine) (next : ℕ) (left : List Line) : Type 0 where
  pub lines_are : lines ++ numbered_from next (method_cut next left).block ≡ numbered_from number (method_cut number all).block
  pub is_closed : (method_cut next left).is_closed ≡ (method_cut number all).is_closed
  pub chunks : (method_cut next left).chunks ≡ (method_cut number all).chunks

pub block-none : (number : ℕ) (all : List Line) → InBlock number all [] number all
block-none number all = record { lines_are = refl; is_closed = refl; chunks = refl }

cut-within : (number : ℕ) (line : Line) (lines : List Line) → ends line ≡ false
    → method_cut number (line ∷ lines) ≡ record (method_cut (number + 1) lines) { block = line ∷ (method_cut (number + 1) lines).block }
unfolding cut
cut-within number line lines goes_on = rw goes_on

cut-end : (number : ℕ) (line : Line) (lines : List Line) → ends line ≡ true
    → method_cut number (line ∷ lines) ≡ record (block_cut None (number + 1) lines) { block = []; is_closed = true }
unfolding cut
cut-end number line lines is = rw is

cut-nil : (number : ℕ) → method_cut number [] ≡ record { block = []; is_closed = false; chunks = [] }
unfolding cut
cut-nil number = refl

chunks-nil : (number : ℕ) → chunks_from number [] ≡ []
unfolding cut
chunks-nil number = refl

numbered_from-more : (number : ℕ) (line : Line) (lines : List Line)
    → numbered_from number (line ∷ lines) ≡ numbered number line ∷ numbered_from (number + 1) lines
unfolding numbered_from
numbered_from-more number line lines = refl

numbered_from-nil : (number : ℕ) → numbered_from number [] ≡ []
unfolding numbered_from
numbered_from-nil number = refl

-- one line more
pub block-next : (number : ℕ) (all : List Line) (lines : List NumberedLine) (next : ℕ) (line : Line) (left : List Line)
    → InBlock number all lines next (line ∷ left) → ends line ≡ false
    → InBlock number all (lines ++ numbered next line ∷ []) (next + 1) left
block-next number all lines next line left before goes_on =
    let is = cut-within next line left goes_on in
    let rest = numbered_from (next + 1) (method_cut (next + 1) left).block in
    record {
      lines_are =
          append_assoc lines (numbered next line ∷ []) rest
          ∙ ap (λ more. lines ++ more) (sym (numbered_from-more next line (method_cut (next + 1) left).block))
          ∙ ap (λ cut. lines ++ numbered_from next cut.block) (sym is) ∙ before.lines_are;
      is_closed = ap (λ cut. cut.is_closed) (sym is) ∙ before.is_closed;
      chunks = ap (λ cut. cut.chunks) (sym is) ∙ before.chunks;
    }

-- what a block comes to
pub record Ends (number : ℕ) (all : List Line) (lines : List NumberedLine) (closed : Bool) (next : ℕ) (left : List Line) : Type 0 where
  pub lines_are : lines ≡ numbered_from number (method_cut number all).block
  pub is_closed : closed ≡ (method_cut number all).is_closed
  pub chunks : (method_cut number all).chunks ≡ chunks_from next left

pub block-end : (number : ℕ) (all : List Line) (lines : List NumberedLine) (next : ℕ) (line : Line) (left : List Line)
    → InBlock number all lines next (line ∷ left) → ends line ≡ true → Ends number all lines true (next + 1) left
block-end number all lines next line left before is_end =
    let is = cut-end next line left is_end in
    record {
      lines_are =
          sym (append-nil lines) ∙ ap (λ more. lines ++ more) (sym (numbered_from-nil next))
          ∙ ap (λ cut. lines ++ numbered_from next cut.block) (sym is) ∙ before.lines_are;
      is_closed = ap (λ cut. cut.is_closed) (sym is) ∙ before.is_closed;
      chunks = sym before.chunks ∙ ap (λ cut. cut.chunks) is;
    }

pub block-open : (number : ℕ) (all : List Line) (lines : List NumberedLine) (next : ℕ)
    → InBlock number all lines next [] → Ends number all lines false next []
block-open number all lines next before =
    let is = cut-nil next in
    record {
      lines_are =
          sym (append-nil lines) ∙ ap (λ more. lines ++ more) (sym (numbered_from-nil next))
          ∙ ap (λ cut. lines ++ numbered_from next cut.block) (sym is) ∙ before.lines_are;
      is_closed = ap (λ cut. cut.is_closed) (sym is) ∙ before.is_closed;
      chunks = sym before.chunks ∙ ap (λ cut. cut.chunks) is ∙ sym (chunks-nil next);
    }

-- no lines
pub lines-none : (text : List ℕ) → true ≡ (length text == 0) → lines_of text ≡ []
lines-none [] none = refl
lines-none (byte ∷ text) none =
    let empty : length (byte ∷ text) ≡ 0 = eqb-true (length (byte ∷ text)) 0 (sym none) in absurd (omega arith)

-- ---- a line that opens no block

pub no_block-lines : (number : ℕ) (lines : List Line) → [] ≡ numbered_from number (block_cut None number lines).block
unfolding cut numbered_from
no_block-lines number [] = refl
no_block-lines number (line ∷ lines) = refl

pub no_block-closed : (number : ℕ) (lines : List Line) → true ≡ (block_cut None number lines).is_closed
unfolding cut
no_block-closed number [] = refl
no_block-closed number (line ∷ lines) = refl

-- ---- parts

-- the parts so far, of all, and the lines that are left
pub record InText (all : List Line) (parts : List Part) (next : ℕ) (left : List Line) : Type 0 where
  pub parts_are : parts ++ map part_of (chunks_from next left) ≡ parts_of all

pub text-none : (all : List Line) → InText all [] 2 all
unfolding parts_of
text-none all = record { parts_are = refl }

chunks_from-more : (number : ℕ) (line : Line) (lines : List Line)
    → map part_of (chunks_from number (line ∷ lines))
    ≡ record {
      line = numbered number line;
      block = numbered_from (number + 1) (block_cut (opens line) (number + 1) lines).block;
      is_closed = (block_cut (opens line) (number + 1) lines).is_closed;
    } ∷ map part_of (block_cut (opens line) (number + 1) lines).chunks
unfolding cut
chunks_from-more number line lines = refl

text-next : (all : List Line) (parts : List Part) (next : ℕ) (line : Line) (left : List Line) (part : Part) (next' : ℕ) (left' : List Line)
    → InText all parts next (line ∷ left)
    → part ≡ record {
      line = numbered next line;
      block = numbered_from (next + 1) (block_cut (opens line) (next + 1) left).block;
      is_closed = (block_cut (opens line) (next + 1) left).is_closed;
    }
    → (block_cut (opens line) (next + 1) left).chunks ≡ chunks_from next' left'
    → InText all (parts ++ part ∷ []) next' left'
text-next all parts next line left part next' left' before is chunks =
    record {
      parts_are =
          append_assoc parts (part ∷ []) (map part_of (chunks_from next' left'))
          ∙ ap (λ more. parts ++ more) (ap (λ first. first ∷ map part_of (chunks_from next' left')) is
          ∙ ap (λ chunks. record {
            line = numbered next line;
            block = numbered_from (next + 1) (block_cut (opens line) (next + 1) left).block;
            is_closed = (block_cut (opens line) (next + 1) left).is_closed;
          } ∷ map part_of chunks) (sym chunks)
          ∙ sym (chunks_from-more next line left))
          ∙ before.parts_are;
    }

-- the same, by what a line and its block are
pub text-more : (all : List Line) (parts : List Part) (next : ℕ) (line : Line) (left : List Line) (first : NumberedLine)
    (block : List NumberedLine) (closed : Bool) (number next' : ℕ) (left' : List Line)
    → InText all parts next (line ∷ left) → first ≡ numbered next line → number ≡ next + 1
    → block ≡ numbered_from number (block_cut (method_end first.form) number left).block
    → closed ≡ (block_cut (method_end first.form) number left).is_closed
    → (block_cut (method_end first.form) number left).chunks ≡ chunks_from next' left'
    → InText all (parts ++ record { line = first; block = block; is_closed = closed } ∷ []) next' left'
text-more all parts next line left first block closed number next' left' before first-is number-is block-is closed-is chunks-are =
    let b = rw (first-is, number-is) at block-is in
    let d = rw (first-is, number-is) at closed-is in
    let e = rw (first-is, number-is) at chunks-are in
    text-next all parts next line left (record { line = first; block = block; is_closed = closed }) next' left' before
    (rw (first-is, b, d) refl) e

pub text-end : (all : List Line) (parts : List Part) (next : ℕ) → InText all parts next [] → parts ≡ parts_of all
text-end all parts next before =
    sym (append-nil parts) ∙ ap (λ chunks. parts ++ map part_of chunks) (sym (chunks-nil next)) ∙ before.parts_are
