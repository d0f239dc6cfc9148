-- Statements, one after another.
use Rattle.std.proofs.Common.{◌≡◌, ℕ, ◌+◌, ◌-◌, ◌≤◌, ◌<◌, List, [], ◌∷◌, ◌++◌, Bool, true, false, Option, Some, None, Result, Ok, Err, length, map, refl, ap, sym, ◌∙◌, append_assoc, arith}
use Rattle.std.specs.Prelude.{nat_lt, count_by, filter_map, option_map, option_to_list, codes}
use Rattle.std.specs.Str.{chars, is_utf8}
use Rattle.jv_model.specs.Lines.{Line, lines_of, words_of}
use Rattle.jv_model.specs.Refusal.{LineKind, not_text, open_block, too_many, wrong_main}
use Rattle.jv_model.specs.Limits.{most_classes, most_updates}
use Rattle.text_model.specs.LineFaults.{Fault, at_line, first_fault, is_text, rank, text_faults, unless_true, where_true}
use Rattle.manifest_model.specs.Items.{of_file, of_lines}
use Rattle.manifest_model.specs.ManifestLines.{ManifestLine, brings_update, manifest_line_of, names_class, names_main, names_update}
use Rattle.manifest_model.specs.Manifest.{block_end, is_class, is_main, is_update, line_faults, read_line}
use Rattle.manifest_laws.specs.Blocks.{block_faults, has_end, lines_before, lines_behind}
use Rattle.manifest_laws.specs.Faults.{chunks_from, faults_from, opens}
use Rattle.manifest_laws.proofs.KindLemmas.{IsLow, line_low}
use Rattle.manifest_laws.proofs.StatementLemmas.{block_fault_told, closed_not_before, goes_on, goes_on_behind, line_told, low_not_before, no_text_told}
use Rattle.std.specs.Prelude.{IsErrAnd}
use Rattle.assembler_model.specs.Blocks.{Chunk, block_text}
use Rattle.manifest_model.specs.Manifest as model
use Rattle.manifest_laws.proofs.StatementLemmas.{chunk_alone, chunk_around}
use Rattle.manifest_laws.proofs.TextLemmas.{lines_around}
use Rattle.jv_types.specs.Refusal.{line_kind_of}
use Rattle.asm_lines.specs.Told.{Tells}
use Rattle.asm_lines.specs.declared.error.ReadError.{ReadError}
use Rattle.asm_lines.specs.declared.error.ReadError.TheVariants as read_errors
use Rattle.asm_parts.specs.Faults.{fault_of}
use Rattle.asm_parts.specs.declared.first_fault.LineFault.{LineFault}
use Rattle.manifest_reader.specs.declared.error.ManifestError.{ManifestError}
use Rattle.manifest_reader.specs.declared.error.ManifestError.TheVariants as errors
use Rattle.manifest_reader.specs.declared.block.Block.{Block}
use Rattle.manifest_reader.specs.declared.line.ManifestLine as declared
use Rattle.manifest_reader.specs.declared.seen.Seen.{Seen}
use Rattle.manifest_reader.specs.declared.statement.Admitted.{Admitted}
use Rattle.manifest_reader.specs.declared.statement.Statement.{Statement}
use Rattle.manifest_reader.specs.Blocks.{CutsBlock, IsBlock}
use Rattle.manifest_reader.specs.Opened.{IsNoBlock, OpensBlock, error_at}
use Rattle.manifest_reader.specs.Items.{item_of as view, line_of}
use Rattle.manifest_reader.specs.Statements.{AdmitsBehind, IsAdmitted, IsSeen, IsSeenWith, IsStatement, IsToldAt, Reading, ReadsBehind, item_said, main_said, mains}

-- ---- the fault of a line

-- a line that is no text
pub no_text_at : (before : List Reading) (line : Line) → is_text line ≡ false → IsToldAt before line not_text
no_text_at before line text number last rest end = no_text_told last before number line rest end text

low_of : (read : Reading) (kind : LineKind) → IsLow read → read ≡ Err kind → rank kind ≤ 9
low_of (Ok line) kind low is = absurd cc
low_of (Err other) kind low is =
    let same : other ≡ kind = cc in
    rw (← same) low

-- one that is faulty by itself
pub alone_at : (before : List Reading) (line : Line) (kind : LineKind) → is_text line ≡ true → read_line line ≡ Err kind
    → IsToldAt before line kind
alone_at before line kind text is number last rest end =
    let low : rank kind ≤ 9 = low_of (read_line line) kind (line_low (words_of line.bytes)) is in
    line_told last before number line rest kind end text (rw is) (omega arith)
    (closed_not_before (number, kind) last number line rest (rw is))

unless_is : (test : Bool) (kind told : LineKind) → unless_true test kind ≡ told ∷ [] → kind ≡ told
unless_is true kind told is = absurd cc
unless_is false kind told is = cc

where_is : (test : Bool) (kind told : LineKind) → where_true test kind ≡ told ∷ [] → kind ≡ told
where_is true kind told is = cc
where_is false kind told is = absurd cc

main_at : (before : List Reading) (line : Line) (class : List ℕ) → is_text line ≡ true → read_line line ≡ Ok (names_main class)
    → line_faults before (Ok (names_main class)) ≡ wrong_main ∷ [] → IsToldAt before line wrong_main
main_at before line class text is fault number last rest end =
    line_told last before number line rest wrong_main end text (rw is fault) (omega arith)
    (closed_not_before (number, wrong_main) last number line rest (rw is))

many_at : (before : List Reading) (line : Line) (said : ManifestLine) → is_text line ≡ true → read_line line ≡ Ok said
    → line_faults before (Ok said) ≡ too_many ∷ [] → IsToldAt before line too_many
many_at before line said text is fault number last rest end =
    line_told last before number line rest too_many end text (rw is fault) (omega arith)
    (low_not_before (number, too_many) last number line rest (omega arith) (omega arith))

-- one that is faulty behind the lines before it
pub behind_at : (before : List Reading) (line : Line) (said : ManifestLine) (kind : LineKind) → is_text line ≡ true
    → read_line line ≡ Ok said → line_faults before (Ok said) ≡ kind ∷ [] → IsToldAt before line kind
behind_at before line (names_main class) kind text is fault =
    let same = where_is (nat_lt 0 (count_by is_main before)) wrong_main kind fault in
    rw (← same) (main_at before line class text is (rw (← same) at fault))
behind_at before line (names_class class) kind text is fault =
    let same = unless_is (nat_lt (count_by is_class before) most_classes) too_many kind fault in
    rw (← same) (many_at before line (names_class class) text is (rw (← same) at fault))
behind_at before line (names_update file when) kind text is fault =
    let same = unless_is (nat_lt (count_by is_update before) most_updates) too_many kind fault in
    rw (← same) (many_at before line (names_update file when) text is (rw (← same) at fault))
behind_at before line (brings_update when) kind text is fault =
    let same = unless_is (nat_lt (count_by is_update before) most_updates) too_many kind fault in
    rw (← same) (many_at before line (brings_update when) text is (rw (← same) at fault))

-- what was read of a line by itself, where that is an error
alone_error : (before : List Reading) (seen : Seen) (line : Line) (error : ReadError) → is_text line ≡ true
    → Tells line_of (Err error) (read_line line) → AdmitsBehind before seen line (Err error)
alone_error before seen line (read_errors.Line kind) text tells = alone_at before line (line_kind_of kind) text tells
alone_error before seen line read_errors.NoMemory text tells = tt

pub alone_told : (before : List Reading) (seen : Seen) (line : Line) (error : ReadError) (result : Result Admitted ReadError)
    → IsErrAnd result (λ other. other ≡ error) → is_text line ≡ true → Tells line_of (Err error) (read_line line)
    → AdmitsBehind before seen line result
alone_told before seen line error (Ok admitted) is text tells = absurd is
alone_told before seen line error (Err other) is text tells = rw is (alone_error before seen line error text tells)

-- ---- the block of a line

end_utf8 : (said : ManifestLine) (end : List ℕ) → block_end (Ok said) ≡ Some end → is_utf8 end ≡ true
unfolding is_utf8 chars lib.Utf8.encode
end_utf8 (names_main class) end is = absurd cc
end_utf8 (names_class (of_file class file)) end is = absurd cc
end_utf8 (names_class (of_lines class)) end is =
    let same : codes ".end" ≡ end = cc in
    rw (← same) refl
end_utf8 (names_update file when) end is = absurd cc
end_utf8 (brings_update when) end is =
    let same : codes ".done" ≡ end = cc in
    rw (← same) refl

-- a statement, and what is left of the text behind it
record IsFirst (end : ℕ) (before : List Reading) (number : ℕ) (line : Line) (rest : List Line) (block : List Line) (next : ℕ)
    (left : List Line) : Type 0 where
  faults :
      faults_from end before number (line ∷ rest) ≡ faults_from end (before ++ read_line line ∷ []) next left
  chunks :
      chunks_from number (line ∷ rest)
      ≡ record { number = number; line = line; block = block; is_closed = true } ∷ chunks_from next left
  count : next + length left ≡ number + 1 + length rest

filter_map-by : {A B : Type 0} (f : A → Option B) (x : A) (xs : List A) (o : Option B) → f x ≡ o
    → filter_map f (x ∷ xs) ≡ option_to_list o ++ filter_map f xs
filter_map-by f x xs None is = rw is
filter_map-by f x xs (Some y) is = rw is

first_alone : (end : ℕ) (before : List Reading) (number : ℕ) (line : Line) (rest : List Line) → is_text line ≡ true
    → line_faults before (read_line line) ≡ [] → opens line ≡ None → IsFirst end before number line rest [] (number + 1) rest
first_alone end before number line rest text none alone =
    record {
      faults = goes_on end before number line rest text none alone;
      chunks = chunk_alone number line rest alone;
      count = refl;
    }

first_around : (end : ℕ) (before : List Reading) (number : ℕ) (line : Line) (rest : List Line) (ends : List ℕ)
    → is_text line ≡ true → line_faults before (read_line line) ≡ [] → is_utf8 ends ≡ true → opens line ≡ Some ends
    → has_end ends rest ≡ true → text_faults (number + 1) (lines_before ends rest) ≡ []
    → IsFirst end before number line rest (lines_before ends rest) (number + 1 + length (lines_before ends rest) + 1) (lines_behind ends rest)
first_around end before number line rest ends text none utf8 some has texts =
    let count = lines_around ends rest has in
    record {
      faults = goes_on_behind end before number line rest ends utf8 text none some has texts;
      chunks = chunk_around number line rest ends some has;
      count = omega arith;
    }

-- the statement of a first line and its block
statement_is : (end : ℕ) (before : List Reading) (seen : Seen) (last : ℕ) (text : List ℕ) (line : Line) (rest block left : List Line)
    (said : ManifestLine) (statement : Statement) → end ≡ last + length (lines_of text) → lines_of text ≡ line ∷ rest
    → read_line line ≡ Ok said → IsSeenWith before seen statement.seen said
    → IsFirst end before (last + 1) line rest block (statement.last + 1) left → lines_of statement.left.now ≡ left
    → ((chunk : Chunk) → chunk.number ≡ last + 1 → chunk.block ≡ block
    → option_map view statement.item ≡ model.item_of chunk (Ok said))
    → IsStatement end before seen last text statement
statement_is end before seen last text line rest block left said statement is_end lines-are said-is with first left-is item =
    let chunk : Chunk = record { number = last + 1; line = line; block = block; is_closed = true } in
    let others = chunks_from (statement.last + 1) left in
    let main : main_said chunk ≡ model.main_of (Ok said) = rw said-is in
    let brought : item_said chunk ≡ option_map view statement.item = rw said-is (sym (item chunk refl refl)) in
    let count = rw lines-are at is_end in
    let total = first.count in
    record {
      line = said;
      seen_are = with.seen_are;
      faults_are = rw (lines-are, left-is) (ap first_fault first.faults ∙ rw said-is);
      mains_are =
          rw (lines-are, left-is, first.chunks) (ap (λ more. mains seen ++ more) (filter_map-by main_said chunk others _ main)
          ∙ sym (append_assoc (mains seen) _ (filter_map main_said others))
          ∙ ap (λ front. front ++ filter_map main_said others) (sym with.mains_are));
      items_are = rw (lines-are, left-is, first.chunks) (filter_map-by item_said chunk others _ brought);
      end_is = rw left-is (omega arith);
    }

plus : (last k : ℕ) → last + 1 + k + 1 + 1 ≡ last + 1 + 1 + k + 1
plus last k = omega arith

-- by the line that ends the block
by_end : (end : ℕ) (before : List Reading) (seen : Seen) (last : ℕ) (text : List ℕ) (line : Line) (behind : List ℕ) (block : Block)
    (said : ManifestLine) (statement : Statement) (ends : Option (List ℕ)) → block_end (Ok said) ≡ ends
    → end ≡ last + length (lines_of text) → lines_of text ≡ line ∷ lines_of behind → is_text line ≡ true
    → read_line line ≡ Ok said → IsSeenWith before seen statement.seen said → OpensBlock ends (last + 1) behind (Ok block)
    → statement.last ≡ block.last → statement.left.now ≡ block.left.now
    → ((chunk : Chunk) → chunk.number ≡ last + 1 → block_text chunk.block ≡ block.text.now
    → option_map view statement.item ≡ model.item_of chunk (Ok said))
    → IsStatement end before seen last text statement
by_end end before seen last text line behind block said statement None ends-is is_end lines-are text-is said-is with opened last-is left-is item =
    let opens-is : opens line ≡ None = rw said-is ends-is in
    let none : line_faults before (read_line line) ≡ [] = rw said-is with.no_fault in
    let at : statement.last + 1 ≡ last + 1 + 1 = ap (λ n. n + 1) (last-is ∙ opened.last_is) in
    statement_is end before seen last text line (lines_of behind) [] (lines_of behind) said statement is_end lines-are said-is with
    (rw at (first_alone end before (last + 1) line (lines_of behind) text-is none opens-is))
    (ap lines_of (left-is ∙ opened.left_is))
    (λ chunk number-is block-is. item chunk number-is (ap block_text block-is ∙ sym opened.text_is))
by_end end before seen last text line behind block said statement (Some ends) ends-is is_end lines-are text-is said-is with opened last-is left-is item =
    let opens-is : opens line ≡ Some ends = rw said-is ends-is in
    let none : line_faults before (read_line line) ≡ [] = rw said-is with.no_fault in
    let lines = lines_of behind in
    let at : statement.last + 1 ≡ last + 1 + 1 + length (lines_before ends lines) + 1 =
    ap (λ n. n + 1) (last-is ∙ opened.last_is) ∙ plus last (length (lines_before ends lines)) in
    statement_is end before seen last text line lines (lines_before ends lines) (lines_behind ends lines) said statement is_end lines-are said-is with
    (rw at (first_around end before (last + 1) line lines ends text-is none (end_utf8 said ends ends-is) opens-is opened.ends opened.are_text))
    (ap lines_of left-is ∙ opened.left_is)
    (λ chunk number-is block-is. item chunk number-is (ap block_text block-is ∙ sym opened.text_is))

pub read_is : (end : ℕ) (before : List Reading) (seen : Seen) (last : ℕ) (text : List ℕ) (line : Line) (behind : List ℕ)
    (admitted : Admitted) (block : Block) (statement : Statement) → end ≡ last + length (lines_of text)
    → lines_of text ≡ line ∷ lines_of behind → IsAdmitted before seen line admitted
    → OpensBlock (block_end (Ok (line_of admitted.said))) (last + 1) behind (Ok block)
    → statement.seen ≡ admitted.seen → statement.last ≡ block.last → statement.left.now ≡ block.left.now
    → ((chunk : Chunk) → chunk.number ≡ last + 1 → block_text chunk.block ≡ block.text.now
    → option_map view statement.item ≡ model.item_of chunk (Ok (line_of admitted.said)))
    → IsStatement end before seen last text statement
read_is end before seen last text line behind admitted block statement is_end lines-are is opened seen-is last-is left-is item =
    by_end end before seen last text line behind block (line_of admitted.said) statement (block_end (Ok (line_of admitted.said))) refl
    is_end lines-are is.is_text is.said_is (rw seen-is is.with_it) opened last-is left-is item

-- ---- faults of a statement

line_error : (end : ℕ) (before : List Reading) (seen : Seen) (last : ℕ) (text : List ℕ) (line : Line) (rest : List Line)
    (kind : LineKind) → end ≡ last + length (lines_of text) → lines_of text ≡ line ∷ rest → IsToldAt before line kind
    → first_fault (faults_from end before (last + 1) (lines_of text)) ≡ Some (last + 1, kind)
line_error end before seen last text line rest kind is_end lines-are told =
    let count = rw lines-are at is_end in
    rw lines-are (told (last + 1) end rest (omega arith))

pub admit_error : (end : ℕ) (before : List Reading) (seen : Seen) (last : ℕ) (text : List ℕ) (line : Line) (rest : List Line)
    (error : ReadError) → end ≡ last + length (lines_of text) → lines_of text ≡ line ∷ rest
    → AdmitsBehind before seen line (Err error) → ReadsBehind end before seen last text (Err (error_at (last + 1) error))
admit_error end before seen last text line rest (read_errors.Line kind) is_end lines-are told =
    line_error end before seen last text line rest (line_kind_of kind) is_end lines-are told
admit_error end before seen last text line rest read_errors.NoMemory is_end lines-are told = tt

block_error-by : (end : ℕ) (before : List Reading) (seen : Seen) (last : ℕ) (text : List ℕ) (line : Line) (behind : List ℕ)
    (said : ManifestLine) (fault : LineFault) (ends : Option (List ℕ)) → block_end (Ok said) ≡ ends
    → end ≡ last + length (lines_of text) → lines_of text ≡ line ∷ lines_of behind → is_text line ≡ true
    → read_line line ≡ Ok said → line_faults before (Ok said) ≡ [] → OpensBlock ends (last + 1) behind (Err fault)
    → first_fault (faults_from end before (last + 1) (lines_of text)) ≡ Some (fault_of fault)
block_error-by end before seen last text line behind said fault None ends-is is_end lines-are text-is said-is none told = absurd told
block_error-by end before seen last text line behind said fault (Some ends) ends-is is_end lines-are text-is said-is none told =
    let opens-is : opens line ≡ Some ends = rw said-is ends-is in
    let none' : line_faults before (read_line line) ≡ [] = rw said-is none in
    let count = rw lines-are at is_end in
    let same : end ≡ last + 1 + length (lines_of behind) = omega arith in
    rw lines-are (block_fault_told end before (last + 1) line (lines_of behind) ends (fault_of fault) same
    (end_utf8 said ends ends-is) text-is none' opens-is (rw same told))

pub block_error : (end : ℕ) (before : List Reading) (seen : Seen) (last : ℕ) (text : List ℕ) (line : Line) (behind : List ℕ)
    (admitted : Admitted) (fault : LineFault) (result : Result Statement ManifestError)
    → IsErrAnd result (λ other. other ≡ errors.Line fault) → end ≡ last + length (lines_of text)
    → lines_of text ≡ line ∷ lines_of behind → IsAdmitted before seen line admitted
    → OpensBlock (block_end (Ok (line_of admitted.said))) (last + 1) behind (Err fault)
    → ReadsBehind end before seen last text result
block_error end before seen last text line behind admitted fault (Ok statement) is is_end lines-are admits told = absurd is
block_error end before seen last text line behind admitted fault (Err other) is is_end lines-are admits told =
    rw is (block_error-by end before seen last text line behind (line_of admitted.said) fault
    (block_end (Ok (line_of admitted.said))) refl is_end lines-are admits.is_text admits.said_is admits.with_it.no_fault told)
