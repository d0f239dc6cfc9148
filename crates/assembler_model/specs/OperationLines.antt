-- Instructions as lines of an assembler text: what a line says, or the kind of its least fault.
use Rattle.std.specs.Prelude.{ℕ, ◌-◌, ℤ, pos, neg_ℤ, ◌-ℤ◌, int_lt, List, [], ◌∷◌, Bool, true, ◌&&◌, ◌||◌, if◌then◌else◌, ◌==◌, nat_lt, nat_le, Option, Some, None, Result, Ok, length, take, drop, codes, bytes_eq, map, find, option_map}
use Rattle.std.specs.List.{list_all, list_any, before_first, after_first, before_last, after_last}
use Rattle.jv_model.specs.Fallible.{◌>>=◌}
use Rattle.jv_model.specs.Refusal.{LineKind, unknown_word, wrong_count, wrong_number}
use Rattle.jv_model.specs.Utf16.{units_of_utf8}
use Rattle.jv_model.specs.Operand.{MemberReference}
use Rattle.text_model.specs.Words.{says, is_whole, are_words, word_at, is_one_of, text_behind, provided, present}
use Rattle.text_model.specs.Numerals.{u2_in, int_in, long_in, integer_in, most_int, least_int}
use Rattle.assembler_model.specs.Mnemonics.{OperandForm, no_operand, a_local, a_byte, a_short, a_branch, a_wide_branch, a_field, a_method, an_interface_method, a_class, a_constant, a_long, an_array_type, an_increment, a_table, a_lookup, array_types}
use Rattle.assembler_model.specs.AssemblerTerms.{Label, Operation, ReferenceKind, branch, increment, load_constant, load_long, lookupswitch, newarray, of_byte, of_class, of_int, of_local, of_member, of_short, of_string, plain, tableswitch, to_field, to_interface_method, to_method, wide_branch}

-- a form with so many words
abbrev pub counted : {A : Type 0} → ℕ → List (List ℕ) → Result A LineKind → Result A LineKind
counted count words read = provided (are_words count words) wrong_count read

abbrev pub are_whole : List (List ℕ) → Bool
are_whole words = list_all is_whole words

-- the operand of `bipush`
abbrev pub byte_in : List ℕ → Result ℤ LineKind
byte_in word = integer_in (neg_ℤ (pos 128)) (pos 127) word

-- the operand of `sipush`, and the constant of `iinc`
abbrev pub short_in : List ℕ → Result ℤ LineKind
short_in word = integer_in (neg_ℤ (pos 32768)) (pos 32767) word

abbrev pub is_dot : ℕ → Bool
is_dot byte = byte == 46

abbrev pub is_colon : ℕ → Bool
is_colon byte = byte == 58

-- a reference, split at its last dot, with a descriptor
abbrev pub reference_of : List ℕ → List ℕ → MemberReference
reference_of reference descriptor =
    record {
      class = units_of_utf8 (before_last is_dot reference);
      name = units_of_utf8 (after_last is_dot reference);
      descriptor = units_of_utf8 descriptor;
    }

-- `CLASS.NAME DESC`
abbrev pub member_operation : ℕ → ReferenceKind → List (List ℕ) → Result Operation LineKind
member_operation opcode kind words =
    provided (nat_lt (length words) 2 || list_any is_dot (word_at words 1)) unknown_word
    (counted 3 words (Ok (of_member opcode kind (reference_of (word_at words 1) (word_at words 2)))))

-- `ldc int N`, `ldc string TEXT`
abbrev pub constant_operation : List (List ℕ) → Result Operation LineKind
constant_operation words =
    provided (is_one_of words 1 (codes "int" ∷ codes "string" ∷ [])) unknown_word
    (provided (nat_le 3 (length words)) wrong_count
    (if says (word_at words 1) "int" then counted 3 words (int_in (word_at words 2) >>= λ n. Ok (load_constant
    (of_int n)))
    else Ok (load_constant (of_string (units_of_utf8 (text_behind 2 words))))))

-- `ldc2_w long N`
abbrev pub long_operation : List (List ℕ) → Result Operation LineKind
long_operation words =
    provided (is_one_of words 1 (codes "long" ∷ [])) unknown_word
    (counted 3 words (long_in (word_at words 2) >>= λ n. Ok (load_long n)))

-- `newarray` with a word for its type
abbrev pub array_operation : List (List ℕ) → Result Operation LineKind
array_operation words =
    provided (is_one_of words 1 (map (λ row. row.0) array_types)) unknown_word
    (counted 2 words
    (present (option_map (λ row. newarray row.1) (find (λ row. bytes_eq row.0
    (word_at words 1)) array_types)) unknown_word))

-- all but the last so many
abbrev pub front : {A : Type 0} → ℕ → List A → List A
front count xs = take (length xs - count) xs

-- the last word but one, where there are so many words
abbrev pub has_default : ℕ → List (List ℕ) → Bool
has_default count words = nat_lt (length words) count || says (word_at words (length words - 2)) "default"

-- The greatest key is a number of 32 bits too.
abbrev pub table_operation : List (List ℕ) → Result Operation LineKind
table_operation words =
    provided (has_default 5 words) unknown_word
    (provided (nat_le 5 (length words) && are_whole words) wrong_count
    (integer_in least_int (most_int -ℤ pos (length words - 5)) (word_at words 1) >>= λ low.
    Ok (tableswitch low (front 2 (drop 2 words)) (word_at words (length words - 1)))))

-- `K:L`, split at its first colon
abbrev pub key_row : List ℕ → Result (ℤ × Label) LineKind
key_row word = int_in (before_first is_colon word) >>= λ key. Ok (key, after_first is_colon word)

-- a key above the one before, where there is one
abbrev pub rises : Option ℤ → ℤ → Bool
rises None key = true
rises (Some before) key = int_lt before key

-- rows with rising keys, each above the one before
unfoldable pub key_rows : Option ℤ → List (List ℕ) → Result (List (ℤ × Label)) LineKind
key_rows before [] = Ok []
key_rows before (word ∷ words) =
    key_row word >>= λ row. provided (rises before row.0) wrong_number (key_rows (Some row.0) words >>= λ rows. Ok
    (row ∷ rows))

-- the words between the first and `default`
abbrev pub lookup_rows : List (List ℕ) → List (List ℕ)
lookup_rows words = front 2 (drop 1 words)

-- `lookupswitch K:L .. default L`
abbrev pub lookup_operation : List (List ℕ) → Result Operation LineKind
lookup_operation words =
    provided (has_default 3 words && list_all (λ word. list_any is_colon word) (lookup_rows words)) unknown_word
    (provided (nat_le 3 (length words) && are_whole words) wrong_count
    (key_rows None (lookup_rows words) >>= λ rows. Ok (lookupswitch rows (word_at words (length words - 1)))))

-- `iinc I N`
abbrev pub increment_operation : List (List ℕ) → Result Operation LineKind
increment_operation words =
    counted 3 words (u2_in (word_at words 1) >>= λ local. short_in (word_at words 2) >>= λ constant. Ok
    (increment local constant))

-- an instruction by the form of its operands
unfoldable pub operation_of : ℕ → OperandForm → List (List ℕ) → Result Operation LineKind
operation_of opcode no_operand words = counted 1 words (Ok (plain opcode))
operation_of opcode a_local words = counted 2 words (u2_in (word_at words 1) >>= λ local. Ok (of_local opcode local))
operation_of opcode a_byte words =
    counted 2 words (byte_in (word_at words 1) >>= λ constant. Ok (of_byte opcode constant))
operation_of opcode a_short words =
    counted 2 words (short_in (word_at words 1) >>= λ constant. Ok (of_short opcode constant))
operation_of opcode a_branch words = counted 2 words (Ok (branch opcode (word_at words 1)))
operation_of opcode a_wide_branch words = counted 2 words (Ok (wide_branch opcode (word_at words 1)))
operation_of opcode a_field words = member_operation opcode to_field words
operation_of opcode a_method words = member_operation opcode to_method words
operation_of opcode an_interface_method words = member_operation opcode to_interface_method words
operation_of opcode a_class words = counted 2 words (Ok (of_class opcode (units_of_utf8 (word_at words 1))))
operation_of opcode a_constant words = constant_operation words
operation_of opcode a_long words = long_operation words
operation_of opcode an_array_type words = array_operation words
operation_of opcode an_increment words = increment_operation words
operation_of opcode a_table words = table_operation words
operation_of opcode a_lookup words = lookup_operation words
