-- The lines of an assembler text behind its first, each by itself: what it says, or the kind of its least fault.
use Rattle.std.specs.Prelude.{ℕ, ◌+◌, List, [], ◌∷◌, Bool, ◌&&◌, ◌||◌, if◌then◌else◌, ◌==◌, nat_lt, nat_le, Option, Some, None, Result, Ok, Err, length, take, drop, codes, bytes_eq, map, option_map, count_by}
use Rattle.std.specs.List.{list_any, before_first, after_first}
use Rattle.jv_model.specs.Fallible.{◌>>=◌}
use Rattle.jv_model.specs.Refusal.{LineKind, not_text, unknown_word, wrong_order, wrong_count, wrong_number}
use Rattle.jv_model.specs.Lines.{Line, words_of}
use Rattle.jv_model.specs.Utf16.{units_of_utf8}
use Rattle.text_model.specs.LineFaults.{is_text}
use Rattle.text_model.specs.Words.{says, are_words, word_at, is_one_of, text_behind, provided, present}
use Rattle.text_model.specs.Numerals.{u2_in, int_in, long_in, hex_bytes}
use Rattle.assembler_model.specs.Mnemonics.{OperandForm, mnemonic_of}
use Rattle.assembler_model.specs.AssemblerTerms.{AssemblerLine, ConstantText, FrameType, at_label, attribute, catch, end_line, field, flags_are, frame, implements, int_type, long_type, method, new_type, null_type, object_type, of_int, of_long, of_string, operation, stack_is, this_type, top_type}
use Rattle.assembler_model.specs.OperationLines.{are_whole, counted, operation_of}

-- `flags N`
abbrev pub flags_read : List (List ℕ) → Result AssemblerLine LineKind
flags_read words = counted 2 words (u2_in (word_at words 1) >>= λ flags. Ok (flags_are flags))

-- the descriptors of fields that an int is the constant of
abbrev pub int_descriptors : List (List ℕ)
int_descriptors = codes "Z" ∷ codes "B" ∷ codes "C" ∷ codes "S" ∷ codes "I" ∷ []

-- the constant that a line begins to name is of a kind that the field's descriptor takes (JVMS 4.7.2)
abbrev pub takes_constant : List ℕ → List ℕ → Bool
takes_constant kind descriptor =
    if says kind "int" then list_any (bytes_eq descriptor) int_descriptors
    else if says kind "long" then says descriptor "J"
    else says descriptor "Ljava/lang/String;"

-- the constant of a field line with so many words
abbrev pub constant_of : List (List ℕ) → Result (Option ConstantText) LineKind
constant_of words =
    if length words == 4 then Ok None
    else if says (word_at words 5) "int" then (int_in (word_at words 6) >>= λ n. Ok (Some (of_int n)))
    else if says (word_at words 5) "long" then (long_in (word_at words 6) >>= λ n. Ok (Some (of_long n)))
    else Ok (Some (of_string (units_of_utf8 (text_behind 6 words))))

-- four words, and behind them none or `const`, its kind and a value; a text may have spaces and be empty
abbrev pub has_field_count : List (List ℕ) → Bool
has_field_count words =
    are_words 4 words || are_words 7 words
    || (nat_le 7 (length words) && says (word_at words 5) "string" && are_whole (take 6 words))

-- `field FLAGS NAME DESC`, with a constant or without
abbrev pub field_read : List (List ℕ) → Result AssemblerLine LineKind
field_read words =
    provided (is_one_of words 4 (codes "const" ∷ [])) unknown_word
    (provided (is_one_of words 5 (codes "int" ∷ codes "string" ∷ codes "long" ∷ [])) unknown_word
    (provided (nat_lt (length words) 6 || takes_constant (word_at words 5) (word_at words 3)) wrong_order
    (provided (has_field_count words) wrong_count
    (u2_in (word_at words 1) >>= λ flags. constant_of words >>= λ constant.
    Ok (field flags (units_of_utf8 (word_at words 2)) (units_of_utf8 (word_at words 3)) constant)))))

-- `method FLAGS NAME DESC`
abbrev pub method_read : List (List ℕ) → Result AssemblerLine LineKind
method_read words =
    counted 4 words (u2_in (word_at words 1) >>= λ flags.
    Ok (method flags (units_of_utf8 (word_at words 2)) (units_of_utf8 (word_at words 3))))

-- `stack N locals N`
abbrev pub stack_read : List (List ℕ) → Result AssemblerLine LineKind
stack_read words =
    provided (is_one_of words 2 (codes "locals" ∷ [])) unknown_word
    (counted 4 words (u2_in (word_at words 1) >>= λ stack. u2_in (word_at words 3) >>= λ locals.
    Ok (stack_is stack locals)))

abbrev pub is_bar : List ℕ → Bool
is_bar word = says word "|"

-- a word of a frame
abbrev pub frame_type : List ℕ → FrameType
frame_type word =
    if says word "top" then top_type
    else if says word "int" then int_type
    else if says word "long" then long_type
    else if says word "null" then null_type
    else if says word "this" then this_type
    else if bytes_eq (take 4 word) (codes "new:") then new_type (drop 4 word)
    else object_type (units_of_utf8 word)

-- `frame`, types, a bar, and types
abbrev pub frame_read : List (List ℕ) → Result AssemblerLine LineKind
frame_read words =
    provided (count_by is_bar words == 1) unknown_word
    (provided (are_whole words) wrong_count
    (Ok (frame (map frame_type (before_first is_bar (drop 1 words))) (map frame_type (after_first is_bar words)))))

-- the class that a handler catches, or any
abbrev pub caught : List ℕ → Option (List ℕ)
caught word = if says word "any" then None else Some (units_of_utf8 word)

-- `catch FROM TO TARGET NAME`
abbrev pub catch_read : List (List ℕ) → Result AssemblerLine LineKind
catch_read words =
    counted 5 words (Ok (catch (word_at words 1) (word_at words 2) (word_at words 3) (caught (word_at words 4))))

-- `attr NAME HEX`
abbrev pub attribute_read : List (List ℕ) → Result AssemblerLine LineKind
attribute_read words =
    counted 3 words (present (hex_bytes (word_at words 2)) wrong_number >>= λ bytes.
    Ok (attribute (units_of_utf8 (word_at words 1)) bytes))

-- ---- a line

-- The first word's form, which also tells where a line may stand.
pub data LineForm : Type 0 where
  class_form : LineForm
  flags_form : LineForm
  implements_form : LineForm
  field_form : LineForm
  method_form : LineForm
  attribute_form : LineForm
  stack_form : LineForm
  end_form : LineForm
  at_form : LineForm
  frame_form : LineForm
  catch_form : LineForm
  operation_form : ℕ → OperandForm → LineForm

-- the form of a first word: one of these, or a mnemonic
unfoldable pub form_of : List ℕ → Option LineForm
form_of word =
    if says word "class" then Some class_form
    else if says word "flags" then Some flags_form
    else if says word "implements" then Some implements_form
    else if says word "field" then Some field_form
    else if says word "method" then Some method_form
    else if says word "attr" then Some attribute_form
    else if says word "stack" then Some stack_form
    else if says word "end" then Some end_form
    else if says word "at" then Some at_form
    else if says word "frame" then Some frame_form
    else if says word "catch" then Some catch_form
    else option_map (λ mnemonic. operation_form mnemonic.opcode mnemonic.form) (mnemonic_of word)

-- A class line stands first alone.
unfoldable pub read_form : LineForm → List (List ℕ) → Result AssemblerLine LineKind
read_form class_form words = provided (is_one_of words 2 (codes "extends" ∷ [])) unknown_word (Err wrong_order)
read_form flags_form words = flags_read words
read_form implements_form words = counted 2 words (Ok (implements (units_of_utf8 (word_at words 1))))
read_form field_form words = field_read words
read_form method_form words = method_read words
read_form attribute_form words = attribute_read words
read_form stack_form words = stack_read words
read_form end_form words = counted 1 words (Ok end_line)
read_form at_form words = counted 2 words (Ok (at_label (word_at words 1)))
read_form frame_form words = frame_read words
read_form catch_form words = catch_read words
read_form (operation_form opcode form) words = operation_of opcode form words >>= λ said. Ok (operation said)

-- a line with an unknown first word says nothing
abbrev pub read_words : Option LineForm → List (List ℕ) → Result AssemblerLine LineKind
read_words None words = Err unknown_word
read_words (Some form) words = read_form form words

-- A line with its number: the form of its first word, and what it says or its least fault by itself.
pub record NumberedLine : Type 0 where
  pub number : ℕ
  pub form : Option LineForm
  pub said : Result AssemblerLine LineKind

-- the form of a line's first word
abbrev pub line_form : Line → Option LineForm
line_form line = form_of (word_at (words_of line.bytes) 0)

-- what a line says by itself
abbrev pub line_said : Line → Result AssemblerLine LineKind
line_said line = if is_text line then read_words (line_form line) (words_of line.bytes) else Err not_text

abbrev pub numbered : ℕ → Line → NumberedLine
numbered number line = record { number = number; form = line_form line; said = line_said line }

-- lines numbered on from this one
unfoldable pub numbered_from : ℕ → List Line → List NumberedLine
numbered_from number [] = []
numbered_from number (line ∷ lines) = numbered number line ∷ numbered_from (number + 1) lines
