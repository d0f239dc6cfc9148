-- A line says no more items than it has room for.
use Rattle.std.proofs.Common.{◌≡◌, ℕ, ℤ, ◌+◌, ◌-◌, ◌*◌, ◌≤◌, List, [], ◌∷◌, Bool, true, false, drop, map, Option, Some, None, Result, Ok, Err, length, length-drop, length-take, refl, arith}
use Rattle.std.specs.Prelude.{◌&&◌, ◌||◌, ◌==◌, ◌-ℤ◌, pos, IfOk, IfSome, bytes_eq, codes, count_by, find, if◌then◌else◌, nat_le, nat_lt, option_and_then, option_map}
use Rattle.std.specs.List.{after_first, before_first, list_all, list_any, position_or_len}
use Rattle.std.proofs.lemmas.List.{length-map}
use Rattle.jv_model.specs.Fallible.{◌>>=◌}
use Rattle.jv_model.specs.Lines.{Line, words_of}
use Rattle.jv_model.specs.Refusal.{LineKind, not_text, unknown_word, wrong_count, wrong_number, wrong_order}
use Rattle.jv_model.specs.Utf16.{units_of_utf8}
use Rattle.text_model.specs.LineFaults.{is_text}
use Rattle.text_model.specs.Numerals.{hex_bytes, hex_pair, int_in, integer_in, least_int, long_in, most_int, u2_in}
use Rattle.text_model.specs.Words.{are_words, is_one_of, present, provided, says, text_behind, word_at}
use Rattle.assembler_model.specs.Mnemonics.{OperandForm, a_branch, a_byte, a_class, a_constant, a_field, a_local, a_long, a_lookup, a_method, a_short, a_table, a_wide_branch, an_array_type, an_increment, an_interface_method, array_types, no_operand}
use Rattle.assembler_model.specs.AssemblerTerms.{AssemblerLine, ConstantText, Label, Operation, ReferenceKind, at_label, attribute, branch, catch, end_line, field, flags_are, frame, implements, increment, load_constant, load_long, lookupswitch, method, newarray, of_byte, of_class, of_int, of_local, of_member, of_short, of_string, operation, plain, stack_is, tableswitch, to_field, to_interface_method, to_method, wide_branch}
use Rattle.assembler_model.specs.AssemblerLines.{LineForm, at_form, attribute_form, attribute_read, catch_form, caught, class_form, constant_of, end_form, field_form, field_read, flags_form, flags_read, frame_form, frame_read, frame_type, has_field_count, implements_form, is_bar, line_form, line_said, method_form, method_read, operation_form, read_form, read_words, stack_form, stack_read, takes_constant}
use Rattle.assembler_model.specs.OperationLines.{are_whole, array_operation, byte_in, constant_operation, counted, front, has_default, increment_operation, is_colon, key_row, key_rows, long_operation, lookup_operation, lookup_rows, member_operation, operation_of, reference_of, rises, short_in, table_operation}
use Rattle.assembler_laws.proofs.NumberLemmas.{present_if}
use Rattle.assembler_laws.proofs.RoomLemmas.{part_within, parts_within, room, room_of, words_room}
use Rattle.assembler_laws.proofs.WordLemmas.{provided_if, then_any, then_if}

-- the labels of an instruction, where it has many
abbrev pub operands_of : Operation → ℕ
operands_of (tableswitch low labels default) = length labels
operands_of (lookupswitch rows default) = length rows
operands_of other = 0

-- what a line says many of
abbrev pub items_of : AssemblerLine → ℕ
items_of (operation said) = operands_of said
items_of (frame locals stack) = length locals + length stack
items_of (attribute name bytes) = length bytes
items_of other = 0

abbrev OperandsWithin : ℕ → Operation → Type 0
OperandsWithin most said = operands_of said ≤ most

abbrev pub ItemsWithin : ℕ → AssemblerLine → Type 0
ItemsWithin most said = items_of said ≤ most

-- ---- instructions

counted_if : (most count : ℕ) (words : List (List ℕ)) (read : Result Operation LineKind) → IfOk read (OperandsWithin most)
    → IfOk (counted count words read) (OperandsWithin most)
counted_if most count words read is = provided_if (OperandsWithin most) (are_words count words) wrong_count read (λ _. is)

-- an instruction without operands of this sort, behind a number
after_if : {A : Type 0} (most count : ℕ) (words : List (List ℕ)) (read : Result A LineKind) (said : A → Operation)
    → ((x : A) → operands_of (said x) ≡ 0) → IfOk (counted count words (read >>= λ x. Ok (said x))) (OperandsWithin most)
after_if most count words read said none =
    counted_if most count words (read >>= λ x. Ok (said x))
    (then_any (OperandsWithin most) read (λ x. Ok (said x)) (λ x. omega (arith, none x)))

none_if : (most count : ℕ) (words : List (List ℕ)) (said : Operation) → operands_of said ≡ 0
    → IfOk (counted count words (Ok said)) (OperandsWithin most)
none_if most count words said none = counted_if most count words (Ok said) (omega (arith, none))

member_within : (most opcode : ℕ) (kind : ReferenceKind) (words : List (List ℕ))
    → IfOk (member_operation opcode kind words) (OperandsWithin most)
member_within most opcode kind words =
    let whole = none_if most 3 words (of_member opcode kind (reference_of (word_at words 1) (word_at words 2))) refl in
    provided_if (OperandsWithin most) _ unknown_word _ (λ _. whole)

by_kind : (most : ℕ) (test : Bool) (words : List (List ℕ))
    → IfOk (if test then counted 3 words (int_in (word_at words 2) >>= λ n. Ok (load_constant (of_int n)))
    else Ok (load_constant (of_string (units_of_utf8 (text_behind 2 words))))) (OperandsWithin most)
by_kind most true words = after_if most 3 words (int_in (word_at words 2)) (λ n. load_constant (of_int n)) (λ n. refl)
by_kind most false words = omega arith

constant_within : (most : ℕ) (words : List (List ℕ)) → IfOk (constant_operation words) (OperandsWithin most)
constant_within most words =
    provided_if (OperandsWithin most) (is_one_of words 1 (codes "int" ∷ codes "string" ∷ [])) unknown_word _
    (λ _. provided_if (OperandsWithin most) (nat_le 3 (length words)) wrong_count _
    (λ _. by_kind most (says (word_at words 1) "int") words))

long_within : (most : ℕ) (words : List (List ℕ)) → IfOk (long_operation words) (OperandsWithin most)
long_within most words =
    let whole = after_if most 3 words (long_in (word_at words 2)) load_long (λ n. refl) in
    provided_if (OperandsWithin most) (is_one_of words 1 (codes "long" ∷ [])) unknown_word _ (λ _. whole)

row_within : (most : ℕ) (row : Option (List ℕ × ℕ)) → IfSome (option_map (λ row. newarray row.1) row) (OperandsWithin most)
row_within most None = tt
row_within most (Some row) = omega arith

array_within : (most : ℕ) (words : List (List ℕ)) → IfOk (array_operation words) (OperandsWithin most)
array_within most words =
    let found = find (λ row. bytes_eq row.0 (word_at words 1)) array_types in
    let read = present (option_map (λ row. newarray row.1) found) unknown_word in
    provided_if (OperandsWithin most) (is_one_of words 1 (map (λ row. row.0) array_types)) unknown_word (counted 2 words read)
    (λ _. counted_if most 2 words read
    (present_if (OperandsWithin most) (option_map (λ row. newarray row.1) found) unknown_word (row_within most found)))

front_within : {A : Type 0} (count before : ℕ) (xs : List A) → length (front count (drop before xs)) ≤ length xs
front_within count before xs =
    omega (arith, length-take (length (drop before xs) - count) (drop before xs), length-drop before xs)

table_within : (most : ℕ) (words : List (List ℕ)) → length words ≤ most → IfOk (table_operation words) (OperandsWithin most)
table_within most words fits =
    let low = integer_in least_int (most_int -ℤ pos (length words - 5)) (word_at words 1) in
    let said = λ (low : ℤ). tableswitch low (front 2 (drop 2 words)) (word_at words (length words - 1)) in
    provided_if (OperandsWithin most) (has_default 5 words) unknown_word _
    (λ _. provided_if (OperandsWithin most) (nat_le 5 (length words) && are_whole words) wrong_count _
    (λ _. then_any (OperandsWithin most) low (λ low. Ok (said low)) (λ low. omega (arith, front_within 2 2 words))))

abbrev AsMany : ℕ → List (ℤ × Label) → Type 0
AsMany count rows = length rows ≡ count

rows_within : (before : Option ℤ) (words : List (List ℕ)) → IfOk (key_rows before words) (AsMany (length words))
unfolding key_rows
rows_within before [] = refl
rows_within before (word ∷ words) =
    then_any (AsMany (length (word ∷ words))) (key_row word) _
    (λ row. provided_if (AsMany (length (word ∷ words))) (rises before row.0) wrong_number _
    (λ _. then_if (AsMany (length words)) (AsMany (length (word ∷ words))) (key_rows (Some row.0) words) (λ rows. Ok (row ∷ rows))
    (rows_within (Some row.0) words) (λ rows is. omega (arith, is))))

lookup_within : (most : ℕ) (words : List (List ℕ)) → length words ≤ most → IfOk (lookup_operation words) (OperandsWithin most)
lookup_within most words fits =
    let said = λ (rows : List (ℤ × Label)). lookupswitch rows (word_at words (length words - 1)) in
    provided_if (OperandsWithin most) (has_default 3 words && list_all (λ word. list_any is_colon word) (lookup_rows words)) unknown_word _
    (λ _. provided_if (OperandsWithin most) (nat_le 3 (length words) && are_whole words) wrong_count _
    (λ _. then_if (AsMany (length (lookup_rows words))) (OperandsWithin most) (key_rows None (lookup_rows words)) (λ rows. Ok (said rows))
    (rows_within None (lookup_rows words)) (λ rows is. omega (arith, is, front_within 2 1 words))))

increment_within : (most : ℕ) (words : List (List ℕ)) → IfOk (increment_operation words) (OperandsWithin most)
increment_within most words =
    counted_if most 3 words _
    (then_any (OperandsWithin most) (u2_in (word_at words 1)) _
    (λ local. then_any (OperandsWithin most) (short_in (word_at words 2)) (λ constant. Ok (increment local constant))
    (λ constant. omega arith)))

operation_within : (most opcode : ℕ) (form : OperandForm) (words : List (List ℕ)) → length words ≤ most
    → IfOk (operation_of opcode form words) (OperandsWithin most)
unfolding operation_of
operation_within most opcode no_operand words fits = none_if most 1 words (plain opcode) refl
operation_within most opcode a_local words fits = after_if most 2 words (u2_in (word_at words 1)) (of_local opcode) (λ _. refl)
operation_within most opcode a_byte words fits = after_if most 2 words (byte_in (word_at words 1)) (of_byte opcode) (λ _. refl)
operation_within most opcode a_short words fits = after_if most 2 words (short_in (word_at words 1)) (of_short opcode) (λ _. refl)
operation_within most opcode a_branch words fits = none_if most 2 words (branch opcode (word_at words 1)) refl
operation_within most opcode a_wide_branch words fits = none_if most 2 words (wide_branch opcode (word_at words 1)) refl
operation_within most opcode a_field words fits = member_within most opcode to_field words
operation_within most opcode a_method words fits = member_within most opcode to_method words
operation_within most opcode an_interface_method words fits = member_within most opcode to_interface_method words
operation_within most opcode a_class words fits = none_if most 2 words (of_class opcode (units_of_utf8 (word_at words 1))) refl
operation_within most opcode a_constant words fits = constant_within most words
operation_within most opcode a_long words fits = long_within most words
operation_within most opcode an_array_type words fits = array_within most words
operation_within most opcode an_increment words fits = increment_within most words
operation_within most opcode a_table words fits = table_within most words fits
operation_within most opcode a_lookup words fits = lookup_within most words fits

-- ---- other lines

plain_if : (most : ℕ) (test : Bool) (kind : LineKind) (said : AssemblerLine) → items_of said ≡ 0
    → IfOk (provided test kind (Ok said)) (ItemsWithin most)
plain_if most test kind said none = provided_if (ItemsWithin most) test kind (Ok said) (λ _. omega (arith, none))

-- a line without many items, behind a number
after_one : {A : Type 0} (most : ℕ) (read : Result A LineKind) (said : A → AssemblerLine) → ((x : A) → items_of (said x) ≡ 0)
    → IfOk (read >>= λ x. Ok (said x)) (ItemsWithin most)
after_one most read said none = then_any (ItemsWithin most) read (λ x. Ok (said x)) (λ x. omega (arith, none x))

flags_within : (most : ℕ) (words : List (List ℕ)) → IfOk (flags_read words) (ItemsWithin most)
flags_within most words =
    provided_if (ItemsWithin most) (are_words 2 words) wrong_count _
    (λ _. after_one most (u2_in (word_at words 1)) flags_are (λ _. refl))

field_within : (most : ℕ) (words : List (List ℕ)) → IfOk (field_read words) (ItemsWithin most)
field_within most words =
    let said = λ (flags : ℕ) (value : Option ConstantText). field flags (units_of_utf8 (word_at words 2)) (units_of_utf8 (word_at words 3)) value in
    provided_if (ItemsWithin most) (is_one_of words 4 (codes "const" ∷ [])) unknown_word _
    (λ _. provided_if (ItemsWithin most) (is_one_of words 5 (codes "int" ∷ codes "string" ∷ codes "long" ∷ [])) unknown_word _
    (λ _. provided_if (ItemsWithin most) (nat_lt (length words) 6 || takes_constant (word_at words 5) (word_at words 3)) wrong_order _
    (λ _. provided_if (ItemsWithin most) (has_field_count words) wrong_count _
    (λ _. then_any (ItemsWithin most) (u2_in (word_at words 1)) _
    (λ flags. after_one most (constant_of words) (said flags) (λ _. refl))))))

method_within : (most : ℕ) (words : List (List ℕ)) → IfOk (method_read words) (ItemsWithin most)
method_within most words =
    let said = λ (flags : ℕ). method flags (units_of_utf8 (word_at words 2)) (units_of_utf8 (word_at words 3)) in
    provided_if (ItemsWithin most) (are_words 4 words) wrong_count _
    (λ _. after_one most (u2_in (word_at words 1)) said (λ _. refl))

stack_within : (most : ℕ) (words : List (List ℕ)) → IfOk (stack_read words) (ItemsWithin most)
stack_within most words =
    provided_if (ItemsWithin most) (is_one_of words 2 (codes "locals" ∷ [])) unknown_word _
    (λ _. provided_if (ItemsWithin most) (are_words 4 words) wrong_count _
    (λ _. then_any (ItemsWithin most) (u2_in (word_at words 1)) _
    (λ stack. after_one most (u2_in (word_at words 3)) (stack_is stack) (λ _. refl))))

types_within : (words : List (List ℕ))
    → length (map frame_type (before_first is_bar (drop 1 words))) + length (map frame_type (after_first is_bar words))
    ≤ 2 * length words
types_within words =
    omega (
      arith,
      length-map (before_first is_bar (drop 1 words)) frame_type,
      length-map (after_first is_bar words) frame_type,
      length-take (position_or_len is_bar (drop 1 words)) (drop 1 words),
      length-drop 1 words,
      length-drop (position_or_len is_bar words + 1) words,
    )

frame_within : (most : ℕ) (words : List (List ℕ)) → 2 * length words ≤ most → IfOk (frame_read words) (ItemsWithin most)
frame_within most words fits =
    provided_if (ItemsWithin most) (count_by is_bar words == 1) unknown_word _
    (λ _. provided_if (ItemsWithin most) (are_whole words) wrong_count
    (Ok (frame (map frame_type (before_first is_bar (drop 1 words))) (map frame_type (after_first is_bar words))))
    (λ _. omega (arith, types_within words)))

-- pairs of digits spell fewer bytes than they have
abbrev BytesWithin : ℕ → List ℕ → Type 0
BytesWithin most bytes = length bytes ≤ most

pair_within : (byte : Option ℕ) (rest : Option (List ℕ)) (most : ℕ) → IfSome rest (BytesWithin most)
    → IfSome (option_and_then (λ byte. option_map (λ bytes. byte ∷ bytes) rest) byte) (BytesWithin (most + 2))
pair_within None rest most is = tt
pair_within (Some byte) None most is = tt
pair_within (Some byte) (Some bytes) most is = omega arith

some_within : (bytes : Option (List ℕ)) (few many : ℕ) → few ≤ many → IfSome bytes (BytesWithin few) → IfSome bytes (BytesWithin many)
some_within None few many less is = tt
some_within (Some bytes) few many less is = omega arith

hex_within : (word : List ℕ) → IfSome (hex_bytes word) (BytesWithin (length word))
unfolding hex_bytes
hex_within [] = omega arith
hex_within (high ∷ []) = tt
hex_within (high ∷ low ∷ rest) =
    some_within _ (length rest + 2) (length (high ∷ low ∷ rest)) (omega arith)
    (pair_within (hex_pair high low) (hex_bytes rest) (length rest) (hex_within rest))

attribute_within : (most : ℕ) (words : List (List ℕ)) → length (word_at words 2) ≤ most → IfOk (attribute_read words) (ItemsWithin most)
attribute_within most words fits =
    let said = λ (bytes : List ℕ). attribute (units_of_utf8 (word_at words 1)) bytes in
    provided_if (ItemsWithin most) (are_words 3 words) wrong_count _
    (λ _. then_if (BytesWithin (length (word_at words 2))) (ItemsWithin most) (present (hex_bytes (word_at words 2)) wrong_number)
    (λ bytes. Ok (said bytes)) (present_if (BytesWithin (length (word_at words 2))) (hex_bytes (word_at words 2)) wrong_number
    (hex_within (word_at words 2))) (λ bytes is. omega (arith, is)))

-- ---- any line

form_within : (most : ℕ) (form : LineForm) (words : List (List ℕ)) → 2 * length words ≤ most → length (word_at words 2) ≤ most
    → IfOk (read_form form words) (ItemsWithin most)
unfolding read_form
form_within most class_form words fits word =
    provided_if (ItemsWithin most) (is_one_of words 2 (codes "extends" ∷ [])) unknown_word (Err wrong_order) (λ _. tt)
form_within most flags_form words fits word = flags_within most words
form_within most implements_form words fits word =
    plain_if most (are_words 2 words) wrong_count (implements (units_of_utf8 (word_at words 1))) refl
form_within most field_form words fits word = field_within most words
form_within most method_form words fits word = method_within most words
form_within most attribute_form words fits word = attribute_within most words word
form_within most stack_form words fits word = stack_within most words
form_within most end_form words fits word = plain_if most (are_words 1 words) wrong_count end_line refl
form_within most at_form words fits word = plain_if most (are_words 2 words) wrong_count (at_label (word_at words 1)) refl
form_within most frame_form words fits word = frame_within most words fits
form_within most catch_form words fits word =
    plain_if most (are_words 5 words) wrong_count
    (catch (word_at words 1) (word_at words 2) (word_at words 3) (caught (word_at words 4))) refl
form_within most (operation_form opcode form) words fits word =
    let few : length words ≤ most = omega arith in
    then_if (OperandsWithin most) (ItemsWithin most) (operation_of opcode form words) (λ said. Ok (operation said))
    (operation_within most opcode form words few) (λ said is. is)

by_form : (most : ℕ) (form : Option LineForm) (words : List (List ℕ)) → 2 * length words ≤ most → length (word_at words 2) ≤ most
    → IfOk (read_words form words) (ItemsWithin most)
by_form most None words fits word = tt
by_form most (Some form) words fits word = form_within most form words fits word

by_text : (most : ℕ) (text : Bool) (line : Line) → 2 * length (words_of line.bytes) ≤ most
    → length (word_at (words_of line.bytes) 2) ≤ most
    → IfOk (if text then read_words (line_form line) (words_of line.bytes) else Err not_text) (ItemsWithin most)
by_text most true line fits word = by_form most (line_form line) (words_of line.bytes) fits word
by_text most false line fits word = tt

-- a line has room for half of the items that it says
pub line_within : (line : Line) → IfOk (line_said line) (ItemsWithin (2 * room_of line))
line_within line =
    let words = words_of line.bytes in
    let all : room words ≡ room_of line = words_room line in
    let fits : 2 * length words ≤ 2 * room_of line = omega (arith, parts_within words, all) in
    let word : length (word_at words 2) ≤ 2 * room_of line = omega (arith, part_within words 2, all) in
    by_text (2 * room_of line) (is_text line) line fits word
