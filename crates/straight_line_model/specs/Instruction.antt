-- The instructions of a method (JVMS 6.5), as far as this version runs them.
use Rattle.std.specs.Prelude.{ℕ, ℤ, List}
use Rattle.straight_line_model.specs.IntOperation.{IntOperation}

pub data Instruction : Type 0 where
  -- `iconst_<i>`, `bipush`, `sipush`, and `ldc` and `ldc_w` of an Integer: pushes this int
  constant : ℤ → Instruction
  -- `iadd`, `isub`, `imul`, `iand`, `ior`, `ixor`: pops value2 and value1, and pushes the result
  arithmetic : IntOperation → Instruction
  -- `ineg`: pops an int, and pushes its negation
  negate : Instruction
  -- `pop`: drops the top operand
  pop : Instruction
  -- `getstatic` of `java/lang/System.out`: pushes the PrintStream
  get_out : Instruction
  -- `invokevirtual` of `java/io/PrintStream.println (I)V`: pops an int and the PrintStream, and prints the int as a line
  print_line : Instruction
  -- `return`: ends the method, without a value
  return : Instruction

-- An instruction and its place in the method's code.
pub record Placed : Type 0 where
  pub pc : ℕ
  -- the place behind it
  pub next : ℕ
  pub instruction : Instruction

-- A method's code (JVMS 4.7.3).
pub record Body : Type 0 where
  pub max_stack : ℕ
  pub max_locals : ℕ
  pub instructions : List Placed
