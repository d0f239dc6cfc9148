-- What an instruction's line says fits a class file.
use Rattle.std.proofs.Common.{◌≡◌, ℕ, ℤ, ◌-◌, drop, List, [], ◌∷◌, Bool, true, false, Option, Some, None, Result, Ok, refl, arith}
use Rattle.std.specs.Prelude.{◌&&◌, ◌-ℤ◌, pos, FitsSigned, IfOk, IfSome, bytes_eq, codes, find, if◌then◌else◌, map, nat_le, nat_lt, option_map, length}
use Rattle.std.specs.Int.{w32, w64}
use Rattle.std.specs.List.{AllByRecursion, list_all, list_any}
use Rattle.std.proofs.lemmas.Bool.{ltb-true}
use Rattle.jv_model.specs.Fallible.{◌>>=◌}
use Rattle.jv_model.specs.Profile.{IsU1}
use Rattle.jv_model.specs.Refusal.{LineKind, unknown_word, wrong_count}
use Rattle.jv_model.specs.Utf16.{units_of_utf8}
use Rattle.text_model.specs.Numerals.{int_in, integer_in, least_int, long_in, most_int, u2_in}
use Rattle.text_model.specs.Words.{are_words, is_one_of, present, says, text_behind, word_at}
use Rattle.assembler_model.specs.Mnemonics.{Mnemonic, OperandForm, a_branch, a_byte, a_class, a_constant, a_field, a_local, a_long, a_lookup, a_method, a_short, a_table, a_wide_branch, an_array_type, an_increment, an_interface_method, array_types, mnemonic_of, mnemonics, no_operand}
use Rattle.assembler_model.specs.AssemblerTerms.{Operation, ReferenceKind, branch, load_constant, load_long, newarray, of_byte, of_class, of_int, of_local, of_member, of_short, of_string, plain, tableswitch, to_field, to_interface_method, to_method, wide_branch}
use Rattle.assembler_model.specs.OperationLines.{are_whole, array_operation, front, byte_in, constant_operation, counted, has_default, increment_operation, is_colon, key_rows, long_operation, lookup_operation, lookup_rows, member_operation, operation_of, reference_of, short_in, table_operation}
use Rattle.assembler_laws.proofs.ListLemmas.{all_weaker, find_all, tests_all}
use Rattle.assembler_laws.proofs.NumberLemmas.{int_fits, long_fits, present_if}
use Rattle.assembler_laws.proofs.TermLemmas.{FitsOperation}
use Rattle.assembler_laws.proofs.WordLemmas.{AreWords, provided_if, reference_fits, text_units, then_any, then_if, word_fits, word_units}

-- ---- mnemonics

abbrev HasOpcode : Mnemonic → Type 0
HasOpcode mnemonic = IsU1 mnemonic.opcode

opcodes_fit : AllByRecursion HasOpcode mnemonics
unfolding mnemonics
opcodes_fit =
    all_weaker (λ mnemonic. nat_lt mnemonic.opcode 256 ≡ true) HasOpcode mnemonics
    (λ mnemonic is. omega (arith, ltb-true mnemonic.opcode 256 is))
    (tests_all (λ mnemonic. nat_lt mnemonic.opcode 256) mnemonics refl)

pub opcode_fits : (word : List ℕ) → IfSome (mnemonic_of word) HasOpcode
opcode_fits word = find_all HasOpcode (λ mnemonic. bytes_eq mnemonic.word word) mnemonics opcodes_fit

-- ---- forms

-- what a form that only counts its words says
counted_if : (count : ℕ) (words : List (List ℕ)) (read : Result Operation LineKind) → IfOk read FitsOperation
    → IfOk (counted count words read) FitsOperation
counted_if count words read is = provided_if FitsOperation (are_words count words) wrong_count read (λ _. is)

-- where nothing but the opcode is asked
after_if : {A : Type 0} (count : ℕ) (words : List (List ℕ)) (read : Result A LineKind) (said : A → Operation)
    → ((x : A) → FitsOperation (said x)) → IfOk (counted count words (read >>= λ x. Ok (said x))) FitsOperation
after_if count words read said each =
    counted_if count words (read >>= λ x. Ok (said x)) (then_any FitsOperation read (λ x. Ok (said x)) each)

member_fits : (opcode : ℕ) (kind : ReferenceKind) (words : List (List ℕ)) → IsU1 opcode → AreWords words
    → IfOk (member_operation opcode kind words) FitsOperation
member_fits opcode kind words fits bytes =
    let said : Result Operation LineKind = Ok (of_member opcode kind (reference_of (word_at words 1) (word_at words 2))) in
    let whole = counted_if 3 words said
    (fits, reference_fits (word_at words 1) (word_at words 2) (word_fits words 1 bytes) (word_fits words 2 bytes)) in
    provided_if FitsOperation _ unknown_word (counted 3 words said) (λ _. whole)

int_read : (words : List (List ℕ)) → IfOk (counted 3 words (int_in (word_at words 2) >>= λ n. Ok (load_constant (of_int n)))) FitsOperation
int_read words =
    counted_if 3 words (int_in (word_at words 2) >>= λ n. Ok (load_constant (of_int n)))
    (then_if (FitsSigned w32) FitsOperation (int_in (word_at words 2)) (λ n. Ok (load_constant (of_int n)))
    (int_fits (word_at words 2)) (λ n fits. fits))

by_kind : (test : Bool) (words : List (List ℕ)) → AreWords words
    → IfOk (if test then counted 3 words (int_in (word_at words 2) >>= λ n. Ok (load_constant (of_int n)))
    else Ok (load_constant (of_string (units_of_utf8 (text_behind 2 words))))) FitsOperation
by_kind true words bytes = int_read words
by_kind false words bytes = text_units words 2 bytes

constant_fits : (words : List (List ℕ)) → AreWords words → IfOk (constant_operation words) FitsOperation
constant_fits words bytes =
    provided_if FitsOperation (is_one_of words 1 (codes "int" ∷ codes "string" ∷ [])) unknown_word _
    (λ _. provided_if FitsOperation (nat_le 3 (length words)) wrong_count _
    (λ _. by_kind (says (word_at words 1) "int") words bytes))

long_fits_operation : (words : List (List ℕ)) → IfOk (long_operation words) FitsOperation
long_fits_operation words =
    provided_if FitsOperation (is_one_of words 1 (codes "long" ∷ [])) unknown_word _
    (λ _. counted_if 3 words (long_in (word_at words 2) >>= λ n. Ok (load_long n))
    (then_if (FitsSigned w64) FitsOperation (long_in (word_at words 2)) (λ n. Ok (load_long n)) (long_fits (word_at words 2))
    (λ n fits. fits)))

abbrev HasNumber : List ℕ × ℕ → Type 0
HasNumber row = IsU1 row.1

types_fit : AllByRecursion HasNumber array_types
types_fit =
    all_weaker (λ row. nat_lt row.1 256 ≡ true) HasNumber array_types
    (λ row is. omega (arith, ltb-true row.1 256 is)) (tests_all (λ row. nat_lt row.1 256) array_types refl)

row_fits : (row : Option (List ℕ × ℕ)) → IfSome row HasNumber → IfSome (option_map (λ row. newarray row.1) row) FitsOperation
row_fits None is = tt
row_fits (Some row) is = is

array_fits : (words : List (List ℕ)) → IfOk (array_operation words) FitsOperation
array_fits words =
    let found = find (λ row. bytes_eq row.0 (word_at words 1)) array_types in
    let read = present (option_map (λ row. newarray row.1) found) unknown_word in
    provided_if FitsOperation (is_one_of words 1 (map (λ row. row.0) array_types)) unknown_word (counted 2 words read)
    (λ _. counted_if 2 words read
    (present_if FitsOperation (option_map (λ row. newarray row.1) found) unknown_word
    (row_fits found (find_all HasNumber (λ row. bytes_eq row.0 (word_at words 1)) array_types types_fit))))

table_fits : (words : List (List ℕ)) → IfOk (table_operation words) FitsOperation
table_fits words =
    let low = integer_in least_int (most_int -ℤ pos (length words - 5)) (word_at words 1) in
    let said = λ (low : ℤ). tableswitch low (front 2 (drop 2 words)) (word_at words (length words - 1)) in
    provided_if FitsOperation (has_default 5 words) unknown_word _
    (λ _. provided_if FitsOperation (nat_le 5 (length words) && are_whole words) wrong_count _
    (λ _. then_any FitsOperation low (λ low. Ok (said low)) (λ low. tt)))

lookup_fits : (words : List (List ℕ)) → IfOk (lookup_operation words) FitsOperation
lookup_fits words =
    provided_if FitsOperation (has_default 3 words && list_all (λ word. list_any is_colon word) (lookup_rows words)) unknown_word _
    (λ _. provided_if FitsOperation (nat_le 3 (length words) && are_whole words) wrong_count _
    (λ _. then_any FitsOperation (key_rows None (lookup_rows words)) _ (λ rows. tt)))

increment_fits : (words : List (List ℕ)) → IfOk (increment_operation words) FitsOperation
increment_fits words =
    counted_if 3 words _
    (then_any FitsOperation (u2_in (word_at words 1)) _
    (λ local. then_any FitsOperation (short_in (word_at words 2)) _ (λ constant. tt)))

-- an instruction, by the form of its operands
pub operation_fits : (opcode : ℕ) (form : OperandForm) (words : List (List ℕ)) → IsU1 opcode → AreWords words
    → IfOk (operation_of opcode form words) FitsOperation
unfolding operation_of
operation_fits opcode no_operand words fits bytes = counted_if 1 words (Ok (plain opcode)) fits
operation_fits opcode a_local words fits bytes = after_if 2 words (u2_in (word_at words 1)) (of_local opcode) (λ _. fits)
operation_fits opcode a_byte words fits bytes = after_if 2 words (byte_in (word_at words 1)) (of_byte opcode) (λ _. fits)
operation_fits opcode a_short words fits bytes = after_if 2 words (short_in (word_at words 1)) (of_short opcode) (λ _. fits)
operation_fits opcode a_branch words fits bytes = counted_if 2 words (Ok (branch opcode (word_at words 1))) fits
operation_fits opcode a_wide_branch words fits bytes = counted_if 2 words (Ok (wide_branch opcode (word_at words 1))) fits
operation_fits opcode a_field words fits bytes = member_fits opcode to_field words fits bytes
operation_fits opcode a_method words fits bytes = member_fits opcode to_method words fits bytes
operation_fits opcode an_interface_method words fits bytes = member_fits opcode to_interface_method words fits bytes
operation_fits opcode a_class words fits bytes =
    counted_if 2 words (Ok (of_class opcode (units_of_utf8 (word_at words 1)))) (fits, word_units words 1 bytes)
operation_fits opcode a_constant words fits bytes = constant_fits words bytes
operation_fits opcode a_long words fits bytes = long_fits_operation words
operation_fits opcode an_array_type words fits bytes = array_fits words
operation_fits opcode an_increment words fits bytes = increment_fits words
operation_fits opcode a_table words fits bytes = table_fits words
operation_fits opcode a_lookup words fits bytes = lookup_fits words
