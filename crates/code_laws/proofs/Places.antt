-- Branches and rows that lead to instructions lead to places of the code.
use Rattle.std.proofs.Common.{◌≡◌, ℕ, zero, suc, ◌+◌, ◌^◌, ◌<◌, eqb, List, [], ◌∷◌, ◌++◌, length, Some, None, Ok, refl, ap, subst, ◌∙◌, length-append, arith, IsTrue, inl, inr}
use Rattle.std.specs.List.{AllByRecursion, list_all}
use Rattle.std.proofs.lemmas.Bool.{eqb-true, cases_Bool, and_parts, and_from}
use Rattle.jv_model.specs.Refusal.{wrong_target, wrong_handler}
use Rattle.jv_model.specs.Input.{Input, number_at}
use Rattle.jv_model.specs.ClassData.{Const, ClassData}
use Rattle.jv_model.specs.ClassBytes.{u1}
use Rattle.jv_model.specs.Flow.{targets_of}
use Rattle.jv_model.specs.Code.{Placed, Handler}
use Rattle.code_model.specs.Opcodes.{format_of}
use Rattle.code_model.specs.InstructionReading.{operands_at, instruction_at, instructions_within}
use Rattle.code_model.specs.CodePlaces.{is_start, is_led, target_fault, is_handler, handler_fault}
use Rattle.class_laws.proofs.Numbers.{IsBytes, Takes, Takes-then, bind_ok, ok_is, number_takes}
use Rattle.code_laws.proofs.Signed.{IsPlace}
use Rattle.code_laws.proofs.Operands.{operands_are_read}
use Rattle.code_laws.proofs.Instructions.{site_of, uncut, AllPlaces, others_within}

-- ---- the first fault there isn't

-- where there is no fault, each instruction branches to instructions
pub no_target_fault :
    (method : ℕ) (all instructions : List (Placed ℕ)) → target_fault method all instructions ≡ None
    → IsTrue (list_all (is_led all) instructions)
unfolding target_fault
no_target_fault method all [] e = refl
no_target_fault method all (placed ∷ others) e =
    elim (cases_Bool (is_led all placed)) [
      | inl is ↦ and_from _ _ is (no_target_fault method all others (rw is at e))
      | inr not ↦ absurd (some_none (rw not at e))
    ]
  where
    some_none : Some (wrong_target method placed.pc) ≡ None → ⊥
    some_none e = cc

-- where each does, there is no fault
pub targets_right :
    (method : ℕ) (all instructions : List (Placed ℕ)) → IsTrue (list_all (is_led all) instructions)
    → target_fault method all instructions ≡ None
unfolding target_fault
targets_right method all [] is = refl
targets_right method all (placed ∷ others) is =
    let both = and_parts (is_led all placed) (list_all (is_led all) others) is in
    rw (both.0) (targets_right method all others both.1)

-- where there is no fault, each row is right
pub no_handler_fault :
    (pool : List Const) (method end : ℕ) (all : List (Placed ℕ)) (index : ℕ)
    (rows : List (Handler ℕ))
    → handler_fault pool method end all index rows ≡ None
    → IsTrue (list_all (is_handler pool end all) rows)
unfolding handler_fault
no_handler_fault pool method end all index [] e = refl
no_handler_fault pool method end all index (row ∷ rows) e =
    elim (cases_Bool (is_handler pool end all row)) [
      | inl is ↦
          and_from _ _ is (no_handler_fault pool method end all (index + 1) rows (rw is at e))
      | inr not ↦ absurd (some_none (rw not at e))
    ]
  where
    some_none : Some (wrong_handler method index) ≡ None → ⊥
    some_none e = cc

-- where each is, there is no fault
pub handlers_right :
    (pool : List Const) (method end : ℕ) (all : List (Placed ℕ)) (index : ℕ)
    (rows : List (Handler ℕ))
    → IsTrue (list_all (is_handler pool end all) rows)
    → handler_fault pool method end all index rows ≡ None
unfolding handler_fault
handlers_right pool method end all index [] is = refl
handlers_right pool method end all index (row ∷ rows) is =
    let both =
    and_parts (is_handler pool end all row) (list_all (is_handler pool end all) rows) is in
    rw (both.0) (handlers_right pool method end all (index + 1) rows both.1)

-- ---- places

abbrev pub AtPlaces : List (Placed ℕ) → Type 0
AtPlaces instructions = AllByRecursion (λ (placed : Placed ℕ). IsPlace placed.pc) instructions

-- an instruction begins at a place, where all do
start_is_place :
    (all : List (Placed ℕ)) (place : ℕ) → AtPlaces all → IsTrue (is_start all place) → IsPlace place
start_is_place [] place at is = absurd cc
start_is_place (placed ∷ others) place at is =
    elim (cases_Bool (eqb placed.pc place)) [
      | inl here ↦ subst (λ (n : ℕ). IsPlace n) (eqb-true placed.pc place here) at.0
      | inr not ↦ start_is_place others place at.1 (rw not at is)
    ]

-- so do several
starts_are_places :
    (all : List (Placed ℕ)) (places : List ℕ) → AtPlaces all
    → IsTrue (list_all (is_start all) places) → AllByRecursion IsPlace places
starts_are_places all [] at is = tt
starts_are_places all (place ∷ places) at is =
    let both = and_parts (is_start all place) (list_all (is_start all) places) is in
    (start_is_place all place at both.0, starts_are_places all places at both.1)

-- branches to instructions lead to places
pub led_are_places :
    (all instructions : List (Placed ℕ)) → AtPlaces all
    → IsTrue (list_all (is_led all) instructions) → AllPlaces instructions
led_are_places all [] at is = tt
led_are_places all (placed ∷ others) at is =
    let both = and_parts (is_led all placed) (list_all (is_led all) others) is in (
      starts_are_places all (targets_of placed.instruction) at both.0,
      led_are_places all others at both.1,
    )

-- what instruction was read was taken from the front, whatever its targets are
instruction_front :
    (file : ClassData) (method : ℕ) (input : Input) (read : Placed ℕ × Input)
    → instruction_at file method input ≡ Ok read → IsBytes input.bytes
    → (text : List ℕ) × Takes input text read.1 × (read.0.pc ≡ input.at)
unfolding instruction_at
instruction_front file method input read e fits =
    let site = site_of file method input.at in
    let opcode = bind_ok (number_at 1 input) _ read (uncut site _ read e) in
    let operands = bind_ok (operands_at site (format_of opcode.0.0) opcode.0.1) _ read opcode.2 in
    let same = ok_is _ read operands.2 in
    let front = number_takes 1 input opcode.0 opcode.1 fits in
    let behind =
    (operands_are_read site (format_of opcode.0.0)).fronts opcode.0.1 operands.0 operands.1
    front.0.rest_fits in
    subst (λ (r : Placed ℕ × Input). (text : List ℕ) × Takes input text r.1 × (r.0.pc ≡ input.at))
    same (u1 opcode.0.0 ++ behind.0, Takes-then _ _ _ _ _ front.0 behind.1, refl)

-- instructions that are read stand at places, wherever they lead
pub at_places :
    (most : ℕ) (file : ClassData) (method : ℕ) (input : Input) (instructions : List (Placed ℕ))
    → instructions_within most file method input ≡ Ok instructions → IsBytes input.bytes
    → input.at + length input.bytes < 2 ^ 31 → AtPlaces instructions
unfolding instructions_within
at_places zero file method input instructions e fits end =
    subst (λ (is : List (Placed ℕ)). AtPlaces is) (ok_is [] instructions e) tt
at_places (suc most) file method input instructions e fits end =
    elim (cases_Bool (eqb (length input.bytes) 0)) [
      | inl is ↦
          subst (λ (is : List (Placed ℕ)). AtPlaces is) (ok_is [] instructions (rw is at e)) tt
      | inr is_more ↦
          let whole : others_within most file method input ≡ Ok instructions = rw is_more at e in
          let first = bind_ok (instruction_at file method input) _ instructions whole in
          let others =
          bind_ok (instructions_within most file method first.0.1) _ instructions first.2 in
          let front = instruction_front file method input first.0 first.1 fits in
          let lengths : length input.bytes ≡ length front.0 + length first.0.1.bytes =
          ap (λ (b : List ℕ). length b) front.1.parts ∙ length-append front.0 first.0.1.bytes in
          let here : IsPlace first.0.0.pc = omega (arith, front.2, end) in
          let behind =
          at_places most file method first.0.1 others.0 others.1 front.1.rest_fits
          (omega (arith, end, lengths, front.1.place)) in
          subst (λ (is : List (Placed ℕ)). AtPlaces is)
          (ok_is (first.0.0 ∷ others.0) instructions others.2) (here, behind)
    ]
