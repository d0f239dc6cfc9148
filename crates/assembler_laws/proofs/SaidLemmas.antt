-- What a line says fits a class file.
use Rattle.std.proofs.Common.{◌≡◌, ℕ, ◌≤◌, List, [], ◌∷◌, Bool, true, false, drop, Option, Some, None, Result, Ok, Err, map, length, refl, ap, ◌∙◌, ◌⊎◌, inl, inr, arith}
use Rattle.std.specs.Prelude.{◌&&◌, ◌||◌, ◌==◌, FitsSigned, IfOk, IfSome, bytes_eq, codes, count_by, if◌then◌else◌, nat_le, nat_lt, option_map, take}
use Rattle.std.specs.Int.{w32, w64}
use Rattle.std.specs.List.{AllByRecursion, after_first, before_first, list_all, list_any}
use Rattle.std.specs.Str.{chars, is_utf8}
use Rattle.std.proofs.lemmas.Bool.{and_parts, eqb-true, le-ltb, leb-true, or_left}
use Rattle.std.proofs.lemmas.Slice.Eq.{bytes_eq-Decides}
use Rattle.jv_model.specs.Fallible.{◌>>=◌}
use Rattle.jv_model.specs.Lines.{Line, words_of}
use Rattle.jv_model.specs.Profile.{IsU1, IsU2, value_tags}
use Rattle.jv_model.specs.Refusal.{LineKind, not_text, unknown_word, wrong_count, wrong_number, wrong_order}
use Rattle.jv_model.specs.Utf16.{units_of_utf8}
use Rattle.text_model.specs.LineFaults.{is_text}
use Rattle.text_model.specs.Numerals.{hex_bytes, int_in, long_in, u2_in}
use Rattle.text_model.specs.Words.{are_words, is_one_of, is_whole, present, says, text_behind, word_at}
use Rattle.assembler_model.specs.AssemblerTerms.{ConstantText, at_label, catch, end_line, flags_are, frame, implements, int_type, long_type, new_type, null_type, object_type, of_int, of_long, of_string, operation, stack_is, this_type, top_type}
use Rattle.assembler_model.specs.AssemblerLines.{LineForm, at_form, attribute_form, attribute_read, catch_form, catch_read, caught, class_form, constant_of, end_form, field_form, field_read, flags_form, flags_read, form_of, frame_form, frame_read, frame_type, has_field_count, implements_form, int_descriptors, is_bar, line_form, line_said, method_form, method_read, operation_form, read_form, read_words, stack_form, stack_read, takes_constant}
use Rattle.assembler_model.specs.Mnemonics.{Mnemonic, mnemonic_of}
use Rattle.assembler_model.specs.OperationLines.{are_whole, counted, operation_of}
use Rattle.assembler_laws.proofs.ListLemmas.{all_drop, all_map, all_take, all_weaker}
use Rattle.assembler_laws.proofs.NumberLemmas.{hex_fit, int_fits, long_fits, present_if, u2_fits}
use Rattle.assembler_laws.proofs.OperationLemmas.{opcode_fits, operation_fits}
use Rattle.assembler_laws.proofs.TermLemmas.{FitsLine, FitsOperation, FitsType, FitsValue}
use Rattle.assembler_laws.proofs.TextLemmas.{AreBytes, AreUnits, units_fit, utf8_bytes}
use Rattle.assembler_laws.proofs.WordLemmas.{AreWords, provided_if, text_units, then_any, then_if, word_fits, word_units, words_fit}

-- ---- a field's constant

-- what is equal to one of some texts passes what they all do
any_text : (p : List ℕ → Bool) (word : List ℕ) (texts : List (List ℕ)) → list_any (bytes_eq word) texts ≡ true
    → list_all p texts ≡ true → p word ≡ true
any_text p word [] is all = absurd cc
any_text p word (text ∷ texts) is all =
    by_first (bytes_eq word text) refl is (λ later. any_text p word texts later (and_parts (p text) (list_all p texts) all).1)
  where
    by_first : (test : Bool) → bytes_eq word text ≡ test → (test || list_any (bytes_eq word) texts) ≡ true
        → (list_any (bytes_eq word) texts ≡ true → p word ≡ true) → p word ≡ true
    by_first true same is rest = ap p ((bytes_eq-Decides word text).0 same) ∙ (and_parts (p text) (list_all p texts) all).0
    by_first false differs is rest = rest is

abbrev takes_tag : ℕ → List ℕ → Bool
takes_tag tag descriptor = list_any (λ other. tag == other) (value_tags (units_of_utf8 descriptor))

takes_int : (descriptor : List ℕ) → list_any (bytes_eq descriptor) int_descriptors ≡ true → takes_tag 3 descriptor ≡ true
unfolding units_of_utf8 chars
takes_int descriptor is = any_text (takes_tag 3) descriptor int_descriptors is refl

takes_long : (descriptor : List ℕ) → says descriptor "J" ≡ true → takes_tag 5 descriptor ≡ true
unfolding units_of_utf8 chars
takes_long descriptor is = any_text (takes_tag 5) descriptor (codes "J" ∷ []) (or_left (says descriptor "J") false is) refl

takes_string : (descriptor : List ℕ) → says descriptor "Ljava/lang/String;" ≡ true → takes_tag 8 descriptor ≡ true
unfolding units_of_utf8 chars
takes_string descriptor is =
    any_text (takes_tag 8) descriptor (codes "Ljava/lang/String;" ∷ [])
    (or_left (says descriptor "Ljava/lang/String;") false is) refl

-- ---- a field

-- the constant of a line, where there is one
abbrev FitsRead : List (List ℕ) → Option ConstantText → Type 0
FitsRead words value = IfSome value (FitsValue (units_of_utf8 (word_at words 3)))

abbrev int_value : List (List ℕ) → Result (Option ConstantText) LineKind
int_value words = int_in (word_at words 6) >>= λ n. Ok (Some (of_int n))

abbrev long_value : List (List ℕ) → Result (Option ConstantText) LineKind
long_value words = long_in (word_at words 6) >>= λ n. Ok (Some (of_long n))

abbrev string_value : List (List ℕ) → Result (Option ConstantText) LineKind
string_value words = Ok (Some (of_string (units_of_utf8 (text_behind 6 words))))

by_kind : (int long : Bool) (words : List (List ℕ)) → AreWords words
    → (if int then list_any (bytes_eq (word_at words 3)) int_descriptors
    else if long then says (word_at words 3) "J" else says (word_at words 3) "Ljava/lang/String;") ≡ true
    → IfOk (if int then int_value words else if long then long_value words else string_value words) (FitsRead words)
by_kind true long words fit takes =
    then_if (FitsSigned w32) (FitsRead words) (int_in (word_at words 6)) (λ n. Ok (Some (of_int n))) (int_fits (word_at words 6))
    (λ n fits. (fits, takes_int (word_at words 3) takes))
by_kind false true words fit takes =
    then_if (FitsSigned w64) (FitsRead words) (long_in (word_at words 6)) (λ n. Ok (Some (of_long n))) (long_fits (word_at words 6))
    (λ n fits. (fits, takes_long (word_at words 3) takes))
by_kind false false words fit takes = (text_units words 6 fit, takes_string (word_at words 3) takes)

one_of_two : (a b d x y z w : Bool) → ((a && x) || (b && y) || (d && z && w)) ≡ true → a ≡ false
    → (b ≡ true) ⊎ (d ≡ true)
one_of_two true b d x y z w is differs = absurd cc
one_of_two false true d x y z w is differs = inl refl
one_of_two false false true x y z w is differs = inr refl
one_of_two false false false x y z w is differs = absurd cc

-- a line with other words than four has seven at the least
seven : (words : List (List ℕ)) → has_field_count words ≡ true → (length words == 4) ≡ false → 7 ≤ length words
seven words is differs =
    by (one_of_two (length words == 4) (length words == 7) (nat_le 7 (length words)) (list_all is_whole words) (list_all is_whole words)
    (says (word_at words 5) "string") (are_whole (take 6 words)) is differs)
  where
    by : ((length words == 7) ≡ true) ⊎ (nat_le 7 (length words) ≡ true) → 7 ≤ length words
    by (inl same) = let e = eqb-true (length words) 7 same in omega (arith, e)
    by (inr above) = leb-true 7 (length words) above

second_holds : (a b : Bool) → (a || b) ≡ true → a ≡ false → b ≡ true
second_holds true b is differs = absurd cc
second_holds false b is differs = is

by_count : (none : Bool) (words : List (List ℕ)) → AreWords words → (length words == 4) ≡ none
    → (nat_lt (length words) 6 || takes_constant (word_at words 5) (word_at words 3)) ≡ true → has_field_count words ≡ true
    → IfOk (if none then Ok None else if says (word_at words 5) "int" then int_value words
    else if says (word_at words 5) "long" then long_value words else string_value words) (FitsRead words)
by_count true words fit is takes counted = tt
by_count false words fit is takes counted =
    let many : 7 ≤ length words = seven words counted is in
    let long : nat_lt (length words) 6 ≡ false = le-ltb (length words) 6 (omega (arith, many)) in
    by_kind (says (word_at words 5) "int") (says (word_at words 5) "long") words fit
    (second_holds (nat_lt (length words) 6) (takes_constant (word_at words 5) (word_at words 3)) takes long)

field_fits : (words : List (List ℕ)) → AreWords words → IfOk (field_read words) FitsLine
field_fits words fit =
    provided_if FitsLine (is_one_of words 4 (codes "const" ∷ [])) unknown_word _
    (λ _. provided_if FitsLine (is_one_of words 5 (codes "int" ∷ codes "string" ∷ codes "long" ∷ [])) unknown_word _
    (λ _. provided_if FitsLine (nat_lt (length words) 6 || takes_constant (word_at words 5) (word_at words 3)) wrong_order _
    (λ takes. provided_if FitsLine (has_field_count words) wrong_count _
    (λ counted. then_if IsU2 FitsLine (u2_in (word_at words 1)) _ (u2_fits (word_at words 1))
    (λ flags fits. then_if (FitsRead words) FitsLine (constant_of words) _
    (by_count (length words == 4) words fit refl takes counted)
    (λ value is. (fits, word_units words 2 fit, word_units words 3 fit, is)))))))

-- ---- other lines

choice : {A : Type 0} (P : A → Type 0) (test : Bool) (x y : A) → P x → P y → P (if test then x else y)
choice P true x y first second = first
choice P false x y first second = second

type_fits : (word : List ℕ) → AreBytes word → FitsType (frame_type word)
type_fits word fit =
    choice FitsType (says word "top") top_type _ tt
    (choice FitsType (says word "int") int_type _ tt
    (choice FitsType (says word "long") long_type _ tt
    (choice FitsType (says word "null") null_type _ tt
    (choice FitsType (says word "this") this_type _ tt
    (choice FitsType (bytes_eq (take 4 word) (codes "new:")) (new_type (drop 4 word)) (object_type (units_of_utf8 word)) tt
    (units_fit word fit))))))

types_fit : (words : List (List ℕ)) → AreWords words → AllByRecursion FitsType (map frame_type words)
types_fit words fit =
    all_map FitsType frame_type words (all_weaker AreBytes (λ word. FitsType (frame_type word)) words type_fits fit)

frame_fits : (words : List (List ℕ)) → AreWords words → IfOk (frame_read words) FitsLine
frame_fits words fit =
    let locals = before_first is_bar (drop 1 words) in
    let stack = after_first is_bar words in
    provided_if FitsLine (count_by is_bar words == 1) unknown_word _
    (λ _. provided_if FitsLine (are_whole words) wrong_count (Ok (frame (map frame_type locals) (map frame_type stack)))
    (λ _. (
      types_fit locals (all_take AreBytes _ (drop 1 words) (all_drop AreBytes 1 words fit)),
      types_fit stack (all_drop AreBytes _ words fit),
    )))

caught_by : (test : Bool) (word : List ℕ) → AreBytes word → IfSome (if test then None else Some (units_of_utf8 word)) AreUnits
caught_by true word fit = tt
caught_by false word fit = units_fit word fit

catch_fits : (words : List (List ℕ)) → AreWords words → IfOk (catch_read words) FitsLine
catch_fits words fit =
    provided_if FitsLine (are_words 5 words) wrong_count
    (Ok (catch (word_at words 1) (word_at words 2) (word_at words 3) (caught (word_at words 4))))
    (λ _. caught_by (says (word_at words 4) "any") (word_at words 4) (word_fits words 4 fit))

attribute_fits : (words : List (List ℕ)) → AreWords words → IfOk (attribute_read words) FitsLine
attribute_fits words fit =
    provided_if FitsLine (are_words 3 words) wrong_count _
    (λ _. then_if AreBytes FitsLine (present (hex_bytes (word_at words 2)) wrong_number) _
    (present_if AreBytes (hex_bytes (word_at words 2)) wrong_number (hex_fit (word_at words 2)))
    (λ bytes fits. (word_units words 1 fit, fits)))

flags_fit : (words : List (List ℕ)) → IfOk (flags_read words) FitsLine
flags_fit words =
    provided_if FitsLine (are_words 2 words) wrong_count _
    (λ _. then_if IsU2 FitsLine (u2_in (word_at words 1)) (λ flags. Ok (flags_are flags)) (u2_fits (word_at words 1))
    (λ flags fits. fits))

method_fits : (words : List (List ℕ)) → AreWords words → IfOk (method_read words) FitsLine
method_fits words fit =
    provided_if FitsLine (are_words 4 words) wrong_count _
    (λ _. then_if IsU2 FitsLine (u2_in (word_at words 1)) _ (u2_fits (word_at words 1))
    (λ flags fits. (fits, word_units words 2 fit, word_units words 3 fit)))

stack_fits : (words : List (List ℕ)) → IfOk (stack_read words) FitsLine
stack_fits words =
    provided_if FitsLine (is_one_of words 2 (codes "locals" ∷ [])) unknown_word _
    (λ _. provided_if FitsLine (are_words 4 words) wrong_count _
    (λ _. then_any FitsLine (u2_in (word_at words 1)) _
    (λ stack. then_any FitsLine (u2_in (word_at words 3)) (λ locals. Ok (stack_is stack locals)) (λ locals. tt))))

-- ---- any line

abbrev FitsForm : LineForm → Type 0
FitsForm (operation_form opcode form) = IsU1 opcode
FitsForm other = Unit {0}

form_fits : (form : LineForm) (words : List (List ℕ)) → FitsForm form → AreWords words → IfOk (read_form form words) FitsLine
unfolding read_form
form_fits class_form words fits fit =
    provided_if FitsLine (is_one_of words 2 (codes "extends" ∷ [])) unknown_word (Err wrong_order) (λ _. tt)
form_fits flags_form words fits fit = flags_fit words
form_fits implements_form words fits fit =
    provided_if FitsLine (are_words 2 words) wrong_count (Ok (implements (units_of_utf8 (word_at words 1))))
    (λ _. word_units words 1 fit)
form_fits field_form words fits fit = field_fits words fit
form_fits method_form words fits fit = method_fits words fit
form_fits attribute_form words fits fit = attribute_fits words fit
form_fits stack_form words fits fit = stack_fits words
form_fits end_form words fits fit = provided_if FitsLine (are_words 1 words) wrong_count (Ok end_line) (λ _. tt)
form_fits at_form words fits fit =
    provided_if FitsLine (are_words 2 words) wrong_count (Ok (at_label (word_at words 1))) (λ _. tt)
form_fits frame_form words fits fit = frame_fits words fit
form_fits catch_form words fits fit = catch_fits words fit
form_fits (operation_form opcode form) words fits fit =
    then_if FitsOperation FitsLine (operation_of opcode form words) (λ said. Ok (operation said))
    (operation_fits opcode form words fits fit) (λ said is. is)

if_some : {A : Type 0} (P : A → Type 0) (test : Bool) (x y : Option A) → IfSome x P → IfSome y P
    → IfSome (if test then x else y) P
if_some P true x y first second = first
if_some P false x y first second = second

mnemonic_form : (mnemonic : Option Mnemonic) → IfSome mnemonic (λ mnemonic. IsU1 mnemonic.opcode)
    → IfSome (option_map (λ mnemonic. operation_form mnemonic.opcode mnemonic.form) mnemonic) FitsForm
mnemonic_form None is = tt
mnemonic_form (Some mnemonic) is = is

word_form : (word : List ℕ) → IfSome (form_of word) FitsForm
unfolding form_of
word_form word =
    if_some FitsForm (says word "class") (Some class_form) _ tt
    (if_some FitsForm (says word "flags") (Some flags_form) _ tt
    (if_some FitsForm (says word "implements") (Some implements_form) _ tt
    (if_some FitsForm (says word "field") (Some field_form) _ tt
    (if_some FitsForm (says word "method") (Some method_form) _ tt
    (if_some FitsForm (says word "attr") (Some attribute_form) _ tt
    (if_some FitsForm (says word "stack") (Some stack_form) _ tt
    (if_some FitsForm (says word "end") (Some end_form) _ tt
    (if_some FitsForm (says word "at") (Some at_form) _ tt
    (if_some FitsForm (says word "frame") (Some frame_form) _ tt
    (if_some FitsForm (says word "catch") (Some catch_form) _ tt
    (mnemonic_form (mnemonic_of word) (opcode_fits word))))))))))))

by_form : (form : Option LineForm) (words : List (List ℕ)) → IfSome form FitsForm → AreWords words
    → IfOk (read_words form words) FitsLine
by_form None words fits fit = tt
by_form (Some form) words fits fit = form_fits form words fits fit

by_text : (text : Bool) (line : Line) → is_text line ≡ text
    → IfOk (if text then read_words (line_form line) (words_of line.bytes) else Err not_text) FitsLine
by_text true line is =
    by_form (line_form line) (words_of line.bytes) (word_form (word_at (words_of line.bytes) 0))
    (words_fit line.bytes (utf8_bytes line.bytes (and_parts line.is_ended (is_utf8 line.bytes) is).1))
by_text false line is = tt

pub line_fits : (line : Line) → IfOk (line_said line) FitsLine
line_fits line = by_text (is_text line) line refl
