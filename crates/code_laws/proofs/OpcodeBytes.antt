-- Opcodes, and the types of `newarray`, are bytes.
use Rattle.std.proofs.Common.{◌≡◌, ℕ, ◌<◌, ◌≤◌, cond, eqb, leb, Option, Some, None, arith, inl, inr}
use Rattle.std.proofs.lemmas.Bool.{cases_Bool, eqb-true, leb-true}
use Rattle.jv_model.specs.Instruction.{PrimitiveType}
use Rattle.code_model.specs.Formats.{Format, primitive_of}
use Rattle.code_model.specs.Opcodes.{format_of}

-- what a group of the table has is in the table, where the groups behind it are
in_group :
    (opcode most : ℕ) (x y : Option Format) (format : Format) → most ≤ 0xC9
    → (y ≡ Some format → opcode ≤ 0xC9) → cond (leb opcode most) x y ≡ Some format → opcode ≤ 0xC9
in_group opcode most x y format small others e =
    elim (cases_Bool (leb opcode most)) [
      | inl is ↦ let under : opcode ≤ most = leb-true opcode most is in omega arith
      | inr not ↦ others (rw not at e)
    ]

-- behind the table there is no format
no_format : {P : Type 0} (format : Format) → None ≡ Some format → P
no_format format e = absurd cc

-- an opcode that has a format is in the table
pub format_listed : (opcode : ℕ) (format : Format) → format_of opcode ≡ Some format → opcode ≤ 0xC9
unfolding format_of
format_listed opcode format =
    in_group opcode 0x14 _ _ format (omega arith) (
    in_group opcode 0x35 _ _ format (omega arith) (
    in_group opcode 0x56 _ _ format (omega arith) (
    in_group opcode 0x5F _ _ format (omega arith) (
    in_group opcode 0x84 _ _ format (omega arith) (
    in_group opcode 0x93 _ _ format (omega arith) (
    in_group opcode 0xA6 _ _ format (omega arith) (
    in_group opcode 0xB1 _ _ format (omega arith) (
    in_group opcode 0xC3 _ _ format (omega arith) (
    in_group opcode 0xC9 _ _ format (omega arith) (no_format format))))))))))

-- an opcode that has a format is a byte
pub format_byte : (opcode : ℕ) (format : Format) → format_of opcode ≡ Some format → opcode < 256
format_byte opcode format e = omega (arith, format_listed opcode format e)

-- the type of a number is a byte, where it isn't one of those behind it
in_row :
    (number this : ℕ) (x y : Option PrimitiveType) (type : PrimitiveType) → this < 256
    → (y ≡ Some type → number < 256) → cond (eqb number this) x y ≡ Some type → number < 256
in_row number this x y type small others e =
    elim (cases_Bool (eqb number this)) [
      | inl is ↦ let same : number ≡ this = eqb-true number this is in omega arith
      | inr not ↦ others (rw not at e)
    ]

-- other numbers have no type
no_type : {P : Type 0} (type : PrimitiveType) → None ≡ Some type → P
no_type type e = absurd cc

-- a number that has a type is a byte
pub primitive_byte :
    (number : ℕ) (type : PrimitiveType) → primitive_of number ≡ Some type → number < 256
unfolding primitive_of
primitive_byte number type =
    in_row number 4 _ _ type (omega arith) (
    in_row number 5 _ _ type (omega arith) (
    in_row number 8 _ _ type (omega arith) (
    in_row number 9 _ _ type (omega arith) (
    in_row number 10 _ _ type (omega arith) (
    in_row number 11 _ _ type (omega arith) (no_type type))))))
