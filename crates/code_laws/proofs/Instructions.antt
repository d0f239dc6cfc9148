-- The instructions of a method: what is read is spelled so, where its branches lead to
-- places; and what is spelled so is read.
use Rattle.std.proofs.Common.{◌≡◌, ℕ, zero, suc, ◌+◌, ◌^◌, ◌<◌, ◌≤◌, false, eqb, List, [], ◌∷◌, ◌++◌, length, Option, Some, None, Result, Ok, Err, refl, sym, ap, subst, ◌∙◌, length-append, arith, inl, inr}
use Rattle.std.specs.List.{AllByRecursion}
use Rattle.std.proofs.lemmas.Bool.{eqb-true, ne_eqb, cases_Bool}
use Rattle.jv_model.specs.Refusal.{Cause, truncated}
use Rattle.jv_model.specs.Fallible.{◌>>=◌}
use Rattle.jv_model.specs.Input.{Input, number_at, whole_of}
use Rattle.jv_model.specs.ClassData.{ClassData}
use Rattle.jv_model.specs.ClassBytes.{u1}
use Rattle.jv_model.specs.Instruction.{Instruction}
use Rattle.jv_model.specs.Code.{Placed}
use Rattle.code_model.specs.Formats.{Format}
use Rattle.code_model.specs.Opcodes.{format_of}
use Rattle.code_model.specs.OperandReading.{Site}
use Rattle.code_model.specs.InstructionReading.{operands_at, cut_is_wrong, instruction_at, instructions_within, instructions_of}
use Rattle.code_model.specs.SpellsOperands.{SpellsOperands}
use Rattle.code_model.specs.SpellsInstructions.{SpellsInstruction, SpellsInstructions}
use Rattle.class_laws.proofs.Numbers.{IsBytes, Takes, Takes-then, bind_ok, ok_is, number_takes, number_again}
use Rattle.code_laws.proofs.Signed.{IsPlace}
use Rattle.code_laws.proofs.OpcodeBytes.{format_byte}
use Rattle.code_laws.proofs.Operands.{ArePlaces, operands_are_read}

-- what was read wasn't cut
pub uncut :
    {A : Type 0} (site : Site) (read : Result A Cause) (x : A) → cut_is_wrong site read ≡ Ok x
    → read ≡ Ok x
uncut site (Ok y) x e = e
uncut site (Err (truncated place)) x e = absurd cc
uncut site (Err cause) x e = absurd cc

-- operands that are spelled are of a format
operands_format :
    (file : ClassData) (pc : ℕ) (format : Option Format) (text : List ℕ) (x : Instruction ℕ)
    → SpellsOperands file pc format text x → (its : Format) × (format ≡ Some its)
operands_format file pc None text x spelled = absurd spelled
operands_format file pc (Some format) text x spelled = (format, refl)

-- ---- an instruction

abbrev pub site_of : ClassData → ℕ → ℕ → Site
site_of file method pc = record { file = file; method = method; pc = pc }

-- an instruction that was read at the front of an input
record TakenInstruction (file : ClassData) (input : Input) (read : Placed ℕ × Input) : Type 0 where
  text : List ℕ
  takes : Takes input text read.1
  pc : read.0.pc ≡ input.at
  next : read.0.next ≡ read.1.at
  spelled : SpellsInstruction file input.at text read.0.instruction
  some : 1 ≤ length text

-- an instruction that is read is spelled, where its targets are places
instruction_taken :
    (file : ClassData) (method : ℕ) (input : Input) (read : Placed ℕ × Input)
    → instruction_at file method input ≡ Ok read → IsBytes input.bytes → IsPlace input.at
    → ArePlaces read.0.instruction → TakenInstruction file input read
unfolding instruction_at
instruction_taken file method input read e fits place places =
    let site = site_of file method input.at in
    let opcode = bind_ok (number_at 1 input) _ read (uncut site _ read e) in
    let operands = bind_ok (operands_at site (format_of opcode.0.0) opcode.0.1) _ read opcode.2 in
    let same = ok_is _ read operands.2 in
    let front = number_takes 1 input opcode.0 opcode.1 fits in
    let its : ArePlaces operands.0.0 =
    subst (λ (r : Placed ℕ × Input). ArePlaces r.0.instruction) (sym same) places in
    let behind =
    (operands_are_read site (format_of opcode.0.0)).takes opcode.0.1 operands.0 operands.1
    front.0.rest_fits
    front.0.place place its in
    subst (λ (r : Placed ℕ × Input). TakenInstruction file input r) same (record {
      text = u1 opcode.0.0 ++ behind.text;
      takes = Takes-then _ _ _ _ _ front.0 behind.takes;
      pc = refl;
      next = refl;
      spelled = (opcode.0.0, behind.text, refl, behind.spelled);
      some = omega arith;
    })

-- an instruction that is spelled is read, whatever stands behind it
instruction_found :
    (file : ClassData) (method pc : ℕ) (text : List ℕ) (instruction : Instruction ℕ)
    → SpellsInstruction file pc text instruction → (more : List ℕ)
    → instruction_at file method (record { at = pc; bytes = text ++ more })
    ≡ Ok (
      record { pc = pc; next = pc + length text; instruction = instruction },
      record { at = pc + length text; bytes = more },
    )
unfolding instruction_at
instruction_found file method pc text instruction (opcode, operands, bytes_are, spelled) more =
    let format = operands_format file pc (format_of opcode) operands instruction spelled in
    let front =
    number_again 1 opcode (format_byte opcode format.0 format.1) pc (operands ++ more) in
    let behind =
    (operands_are_read (site_of file method pc) (format_of opcode)).finds operands instruction
    spelled more in
    let place : pc + 1 + length operands ≡ pc + length (u1 opcode ++ operands) = omega arith in
    rw (bytes_are, front, behind, place) refl

-- ---- instructions one behind another

-- bytes of which there are none
pub no_bytes : (bytes : List ℕ) → length bytes ≡ 0 → bytes ≡ []
no_bytes [] e = refl
no_bytes (byte ∷ bytes) e = absurd (omega (arith, e))

abbrev pub AllPlaces : List (Placed ℕ) → Type 0
AllPlaces instructions =
    AllByRecursion (λ (placed : Placed ℕ). ArePlaces placed.instruction) instructions

abbrev pub others_within : ℕ → ClassData → ℕ → Input → Result (List (Placed ℕ)) Cause
others_within most file method input =
    instruction_at file method input >>= λ first.
    instructions_within most file method first.1 >>= λ others. Ok (first.0 ∷ others)

-- at the end no instructions are read
at_end :
    (file : ClassData) (input : Input) (instructions : List (Placed ℕ)) → length input.bytes ≡ 0
    → [] ≡ instructions → SpellsInstructions file input.at input.bytes instructions
at_end file input instructions e is =
    subst (λ (is : List (Placed ℕ)). SpellsInstructions file input.at input.bytes is) is
    (no_bytes input.bytes e)

-- instructions that are read are spelled, where their targets are places
instructions_taken :
    (most : ℕ) (file : ClassData) (method : ℕ) (input : Input) (instructions : List (Placed ℕ))
    → instructions_within most file method input ≡ Ok instructions → IsBytes input.bytes
    → input.at + length input.bytes < 2 ^ 31 → length input.bytes ≤ most → AllPlaces instructions
    → SpellsInstructions file input.at input.bytes instructions
unfolding instructions_within
instructions_taken zero file method input instructions e fits end short places =
    at_end file input instructions (omega (arith, short)) (ok_is _ _ e)
instructions_taken (suc most) file method input instructions e fits end short places =
    elim (cases_Bool (eqb (length input.bytes) 0)) [
      | inl is ↦
          at_end file input instructions (eqb-true (length input.bytes) 0 is)
          (ok_is _ _ (rw is at e))
      | inr is_more ↦
          let whole : others_within most file method input ≡ Ok instructions = rw is_more at e in
          let first = bind_ok (instruction_at file method input) _ instructions whole in
          let others =
          bind_ok (instructions_within most file method first.0.1) _ instructions first.2 in
          let is : first.0.0 ∷ others.0 ≡ instructions = ok_is _ _ others.2 in
          let its : AllPlaces (first.0.0 ∷ others.0) =
          subst (λ (is : List (Placed ℕ)). AllPlaces is) (sym is) places in
          let taken =
          instruction_taken file method input first.0 first.1 fits (omega (arith, end)) its.0 in
          let lengths : length input.bytes ≡ length taken.text + length first.0.1.bytes =
          ap (λ (b : List ℕ). length b) taken.takes.parts
          ∙ length-append taken.text first.0.1.bytes in
          let behind =
          instructions_taken most file method first.0.1 others.0 others.1 taken.takes.rest_fits
          (omega (arith, end, lengths, taken.takes.place))
          (omega (arith, lengths, taken.some, short)) its.1 in
          subst (λ (is : List (Placed ℕ)). SpellsInstructions file input.at input.bytes is) is (
            taken.text,
            first.0.1.bytes,
            taken.takes.parts,
            taken.pc,
            taken.next ∙ taken.takes.place,
            taken.spelled,
            subst (λ (at : ℕ). SpellsInstructions file at first.0.1.bytes others.0)
                (sym taken.next) behind,
          )
    ]

-- an instruction with its place
placed_is :
    (placed : Placed ℕ) (pc next : ℕ) → placed.pc ≡ pc → placed.next ≡ next
    → record { pc = pc; next = next; instruction = placed.instruction } ≡ placed
placed_is placed pc next here there = rw (← here, ← there) refl

-- instructions that are spelled are read
instructions_found :
    (most : ℕ) (file : ClassData) (method pc : ℕ) (code : List ℕ) (instructions : List (Placed ℕ))
    → SpellsInstructions file pc code instructions → length code ≤ most
    → instructions_within most file method (record { at = pc; bytes = code }) ≡ Ok instructions
unfolding instructions_within
instructions_found zero file method pc code [] spelled short = refl
instructions_found (suc most) file method pc code [] spelled short = rw spelled refl
instructions_found zero file method pc code (placed ∷ others)
    (own, rest, parts, here, next, (opcode, operands, own_is, spelled), behind) short =
    absurd (omega (
      arith,
      short,
      ap (λ (b : List ℕ). length b) parts,
      length-append own rest,
      ap (λ (b : List ℕ). length b) own_is,
    ))
instructions_found (suc most) file method pc code (placed ∷ others)
    (own, rest, parts, here, next, spelled, behind) short =
    let some : 1 ≤ length own = omega (arith, ap (λ (b : List ℕ). length b) spelled.2) in
    let lengths : length code ≡ length own + length rest =
    ap (λ (b : List ℕ). length b) parts ∙ length-append own rest in
    let is_more : eqb (length code) 0 ≡ false =
    ne_eqb (length code) 0 (λ e. omega (arith, e, lengths, some)) in
    let first = instruction_found file method pc own placed.instruction spelled rest in
    let same = placed_is placed pc (pc + length own) here next in
    let others_found =
    instructions_found most file method placed.next rest others behind
    (omega (arith, lengths, some, short)) in
    let step : others_within most file method (record {
      at = pc;
      bytes = own ++ rest;
    }) ≡ Ok (placed ∷ others) =
    rw (first, same, ← next, others_found) refl in
    rw is_more (rw parts step)

-- ---- the instructions of a method

-- what is read of all of the code is spelled, where its targets are places
pub instructions_of_taken :
    (file : ClassData) (method : ℕ) (code : List ℕ) (instructions : List (Placed ℕ))
    → instructions_of file method code ≡ Ok instructions → IsBytes code → length code < 2 ^ 31
    → AllPlaces instructions → SpellsInstructions file 0 code instructions
instructions_of_taken file method code instructions e fits short places =
    instructions_taken (length code) file method (whole_of code) instructions e fits
    (omega (arith, short))
    (omega arith) places

-- what is spelled by all of the code is read
pub instructions_of_found :
    (file : ClassData) (method : ℕ) (code : List ℕ) (instructions : List (Placed ℕ))
    → SpellsInstructions file 0 code instructions
    → instructions_of file method code ≡ Ok instructions
instructions_of_found file method code instructions spelled =
    instructions_found (length code) file method 0 code instructions spelled (omega arith)
