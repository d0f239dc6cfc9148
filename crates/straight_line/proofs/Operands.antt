-- What the verifier knows of operands says which values they are, as far as a straight line tells them apart.
use Rattle.std.proofs.Common.{◌≡◌, ℕ, ◌≤◌, Bool, true, false, ◌&&◌, ◌||◌, not, List, [], ◌∷◌, length, refl, sym, arith}
use Rattle.std.specs.Prelude.{IsTrue}
use lib.Pointwise.{pointwise}
use Rattle.world_model.specs.World.{World}
use Rattle.typing_model.specs.Assignable.{assignable, operand_assignable, stack_assignable}
use Rattle.typing_model.specs.VerificationType.{VerificationType, top, int, long, null, this, new_at, class, array, is_int, is_long, is_same, words, words_of}
use Rattle.frame_laws.proofs.Taking.{words_first}
use Rattle.straight_line_model.specs.OperandStack.{ValueType, int_type, print_stream_type}

-- ---- which type goes with which value

abbrev is_top : VerificationType → Bool
is_top top = true
is_top other = false

-- An int is what the verifier knows as an int, or of which it knows nothing any more. A PrintStream is neither an int
-- nor a long.
abbrev pub fits : ValueType → VerificationType → Bool
fits int_type type = is_int type || is_top type
fits print_stream_type type = not (is_int type) && not (is_long type)

abbrev pub Fit : List ValueType → List VerificationType → Type 0
Fit [] [] = Unit {0}
Fit (value ∷ values) (type ∷ types) = IsTrue (fits value type) × Fit values types
Fit values types = ⊥

-- there are no more values than words
some_word : (type : VerificationType) → 1 ≤ words type
some_word top = omega arith
some_word int = omega arith
some_word long = omega arith
some_word null = omega arith
some_word this = omega arith
some_word (new_at pc) = omega arith
some_word (class name) = omega arith
some_word (array component) = omega arith

pub no_more_values : (values : List ValueType) (types : List VerificationType) → Fit values types
    → length values ≤ words_of types
no_more_values [] [] fit = omega arith
no_more_values [] (type ∷ types) fit = absurd fit
no_more_values (value ∷ values) [] fit = absurd fit
no_more_values (value ∷ values) (type ∷ types) fit =
    omega (arith, words_first type types, some_word type, no_more_values values types fit.1)

-- ---- a type that goes where another is wanted

int_goes : (world : World) (type : VerificationType) → operand_assignable world int type ≡ true
    → IsTrue (fits int_type type)
unfolding assignable is_same
int_goes world top is = refl
int_goes world int is = refl
int_goes world long is = absurd cc
int_goes world null is = absurd cc
int_goes world this is = absurd cc
int_goes world (new_at pc) is = absurd cc
int_goes world (class name) is = absurd cc
int_goes world (array component) is = absurd cc

top_goes : (world : World) (type : VerificationType) → operand_assignable world top type ≡ true
    → IsTrue (fits int_type type)
unfolding assignable is_same
top_goes world top is = refl
top_goes world int is = absurd cc
top_goes world long is = absurd cc
top_goes world null is = absurd cc
top_goes world this is = absurd cc
top_goes world (new_at pc) is = absurd cc
top_goes world (class name) is = absurd cc
top_goes world (array component) is = absurd cc

-- what goes to an int is an int
pub int_wanted : (world : World) (type : VerificationType) → operand_assignable world type int ≡ true
    → is_int type ≡ true
unfolding assignable is_same
int_wanted world top is = absurd cc
int_wanted world int is = refl
int_wanted world long is = absurd cc
int_wanted world null is = absurd cc
int_wanted world this is = absurd cc
int_wanted world (new_at pc) is = absurd cc
int_wanted world (class name) is = absurd cc
int_wanted world (array component) is = absurd cc

-- what goes to a long is a long
long_wanted : (world : World) (type : VerificationType) → operand_assignable world type long ≡ true
    → is_long type ≡ true
unfolding assignable is_same
long_wanted world top is = absurd cc
long_wanted world int is = absurd cc
long_wanted world long is = refl
long_wanted world null is = absurd cc
long_wanted world this is = absurd cc
long_wanted world (new_at pc) is = absurd cc
long_wanted world (class name) is = absurd cc
long_wanted world (array component) is = absurd cc

-- what goes to a class isn't an int
pub class_wanted : (world : World) (type : VerificationType) (name : List ℕ)
    → operand_assignable world type (class name) ≡ true → fits int_type type ≡ false
unfolding assignable is_same
class_wanted world top name is = absurd cc
class_wanted world int name is = absurd cc
class_wanted world long name is = refl
class_wanted world null name is = refl
class_wanted world this name is = refl
class_wanted world (new_at pc) name is = refl
class_wanted world (class from) name is = refl
class_wanted world (array component) name is = refl

neither : (a b : Bool) → (not a && not b) ≡ true → (a ≡ false) × (b ≡ false)
neither true b is = absurd cc
neither false true is = absurd cc
neither false false is = (refl, refl)

no_int : (world : World) (from to : VerificationType) → is_int from ≡ false
    → operand_assignable world from to ≡ true → (b : Bool) → is_int to ≡ b → b ≡ false
no_int world from top other goes b is = sym is
no_int world from int other goes b is = absurd (let same = int_wanted world from goes in cc)
no_int world from long other goes b is = sym is
no_int world from null other goes b is = sym is
no_int world from this other goes b is = sym is
no_int world from (new_at pc) other goes b is = sym is
no_int world from (class name) other goes b is = sym is
no_int world from (array component) other goes b is = sym is

no_long : (world : World) (from to : VerificationType) → is_long from ≡ false
    → operand_assignable world from to ≡ true → (b : Bool) → is_long to ≡ b → b ≡ false
no_long world from top other goes b is = sym is
no_long world from int other goes b is = sym is
no_long world from long other goes b is = absurd (let same = long_wanted world from goes in cc)
no_long world from null other goes b is = sym is
no_long world from this other goes b is = sym is
no_long world from (new_at pc) other goes b is = sym is
no_long world from (class name) other goes b is = sym is
no_long world from (array component) other goes b is = sym is

goes_with : (world : World) (value : ValueType) (from to : VerificationType)
    → IsTrue (fits value from) → operand_assignable world from to ≡ true → IsTrue (fits value to)
goes_with world int_type top to fit goes = top_goes world to goes
goes_with world int_type int to fit goes = int_goes world to goes
goes_with world int_type long to fit goes = absurd cc
goes_with world int_type null to fit goes = absurd cc
goes_with world int_type this to fit goes = absurd cc
goes_with world int_type (new_at pc) to fit goes = absurd cc
goes_with world int_type (class name) to fit goes = absurd cc
goes_with world int_type (array component) to fit goes = absurd cc
goes_with world print_stream_type from to fit goes =
    let each = neither (is_int from) (is_long from) fit in
    let int = no_int world from to each.0 goes (is_int to) refl in
    let long = no_long world from to each.1 goes (is_long to) refl in
    rw (int, long) refl

both : (a b : Bool) → (a && b) ≡ true → (a ≡ true) × (b ≡ true)
both true b is = (refl, is)
both false b is = absurd cc

-- so for whole stacks
pub stack_goes : (world : World) (values : List ValueType) (from to : List VerificationType)
    → Fit values from → stack_assignable world from to ≡ true → Fit values to
stack_goes world [] [] [] fit goes = tt
stack_goes world [] [] (type ∷ to) fit goes = absurd cc
stack_goes world [] (type ∷ from) to fit goes = absurd fit
stack_goes world (value ∷ values) [] to fit goes = absurd fit
stack_goes world (value ∷ values) (type ∷ from) [] fit goes = absurd cc
stack_goes world (value ∷ values) (type ∷ from) (wanted ∷ to) fit goes =
    let each = both (operand_assignable world type wanted) (pointwise (operand_assignable world) from to) goes in
    (goes_with world value type wanted fit.0 each.0, stack_goes world values from to fit.1 each.1)
