-- How the instructions of a linked world's code stand (JVMS 4.9.1).
use Rattle.std.proofs.Common.{◌≡◌, ℕ, zero, suc, ◌<◌, ◌≤◌, true, List, [], ◌∷◌, ◌++◌, Some, refl, sym, ap, ◌∙◌, inl, inr, map, length, arith, length-append}
use Rattle.std.specs.Prelude.{◌==◌, slice_get, option_map}
use Rattle.std.proofs.lemmas.Bool.{and_parts, or_cases, eqb-true, false_from_ne_true}
use Rattle.std.proofs.lemmas.Option.{slice_get-map}
use Rattle.byteorder.specs.Numbers.{length-bytes_high_first}
use Rattle.jv_model.specs.ClassData.{Const, Member, ClassData}
use Rattle.jv_model.specs.ClassBytes.{u1}
use Rattle.jv_model.specs.Flow.{targets_of}
use Rattle.jv_model.specs.Instruction.{Instruction, nop}
use Rattle.jv_model.specs.Operand.{Operand}
use Rattle.jv_model.specs.Code.{Placed, Handler, Body}
use Rattle.code_model.specs.CodePlaces.{is_start, is_led, is_handler}
use Rattle.code_model.specs.MappedInstruction.{mapped_instruction}
use Rattle.code_model.specs.Names.{operand_at, named, named_placed, named_handler}
use Rattle.code_model.specs.SpellsInstructions.{SpellsInstructions}
use Rattle.code_model.specs.SpellsCode.{SpellsCode}
use Rattle.frame_laws.specs.Worlds.{StandsRight}
use Rattle.frame_laws.proofs.Outcome.{all_of, map_is}

-- ---- places

-- each instruction takes a byte at least
module _ (file : ClassData) where
  pub from_pc : (pc : ℕ) (code : List ℕ) (ps : List (Placed ℕ)) → SpellsInstructions file pc code ps → (n : ℕ) (p : Placed ℕ) → slice_get ps n ≡ Some p → pc ≤ p.pc
  from_pc pc code [] spells n p at = absurd cc
  from_pc pc code (q ∷ ps) spells zero p at = let same : q ≡ p = cc in omega (arith, ap (λ (r : Placed ℕ). r.pc) same, spells.3)
  from_pc pc code (q ∷ ps) spells (suc n) p at =
      omega (arith, from_pc q.next spells.1 ps spells.6 n p at, spells.4)

  longer : (code own rest : List ℕ) (opcode : ℕ) (operands : List ℕ) → own ≡ u1 opcode ++ operands → 1 ≤ length own
  longer code own rest opcode operands is =
      omega (arith, ap length is, length-append (u1 opcode) operands, length-bytes_high_first 1 opcode)

  pub apart : (pc : ℕ) (code : List ℕ) (ps : List (Placed ℕ)) → SpellsInstructions file pc code ps → (m n : ℕ) (q p : Placed ℕ) → m < n
      → slice_get ps m ≡ Some q → slice_get ps n ≡ Some p → q.pc < p.pc
  apart pc code [] spells m n q p less here there = absurd cc
  apart pc code (r ∷ ps) spells m zero q p less here there = absurd (omega (arith, less))
  apart pc code (r ∷ ps) spells zero (suc n) q p less here there =
      let same : r ≡ q = cc in
      omega (
        arith,
        ap (λ (x : Placed ℕ). x.pc) same,
        spells.3,
        spells.4,
        longer code spells.0 spells.1 spells.5.0 spells.5.1 spells.5.2,
        from_pc r.next spells.1 ps spells.6 n p there,
      )
  apart pc code (r ∷ ps) spells (suc m) (suc n) q p less here there =
      apart r.next spells.1 ps spells.6 m n q p (omega (arith, less)) here there

  pub behind : (pc : ℕ) (code : List ℕ) (ps : List (Placed ℕ)) → SpellsInstructions file pc code ps → (n : ℕ) (p q : Placed ℕ)
      → slice_get ps n ≡ Some p → slice_get ps (suc n) ≡ Some q → p.next ≡ q.pc
  behind pc code [] spells n p q here there = absurd cc
  behind pc code (r ∷ []) spells zero p q here there = absurd cc
  behind pc code (r ∷ s ∷ ps) spells zero p q here there =
      let same : r ≡ p = cc in let next : s ≡ q = cc in
      ap (λ (x : Placed ℕ). x.next) (sym same) ∙ sym spells.6.3 ∙ ap (λ (x : Placed ℕ). x.pc) next
  behind pc code (r ∷ ps) spells (suc n) p q here there = behind r.next spells.1 ps spells.6 n p q here there

  pub first : (pc : ℕ) (code : List ℕ) (ps : List (Placed ℕ)) → SpellsInstructions file pc code ps → 1 ≤ length code
      → (p : Placed ℕ) × (slice_get ps 0 ≡ Some p) × (p.pc ≡ pc)
  first pc code [] spells some = absurd (omega (arith, some, ap length spells))
  first pc code (p ∷ ps) spells some = (p, refl, spells.3)

-- a start is one of an instruction
pub start_at : (ps : List (Placed ℕ)) (place : ℕ) → is_start ps place ≡ true → (m : ℕ) × (q : Placed ℕ) × (slice_get ps m ≡ Some q) × (q.pc ≡ place)
start_at [] place h = absurd cc
start_at (p ∷ ps) place h = elim (or_cases (p.pc == place) (is_start ps place) h) [
  | inl here ↦ (zero, p, refl, eqb-true p.pc place here)
  | inr there ↦ let found = start_at ps place there in (suc found.0, found.1, found.2, found.3)
]

-- ---- names for indices

-- an instruction over other operands leads to the same places
same_targets : (f : ℕ → Operand) (i : Instruction ℕ) → targets_of (mapped_instruction f i) ≡ targets_of i
unfolding targets_of
same_targets f nop = refl
same_targets f other = refl

module _ (pool : List Const) (ps : List (Placed ℕ)) where
  raw_at : (n : ℕ) (p : Placed Operand) → slice_get (map (named_placed pool) ps) n ≡ Some p
      → (q : Placed ℕ) × (slice_get ps n ≡ Some q) × (named_placed pool q ≡ p)
  raw_at n p at = map_is (named_placed pool) (slice_get ps n) p (sym (slice_get-map (named_placed pool) ps n) ∙ at)

  named_at : (n : ℕ) (q : Placed ℕ) → slice_get ps n ≡ Some q → slice_get (map (named_placed pool) ps) n ≡ Some (named_placed pool q)
  named_at n q at = slice_get-map (named_placed pool) ps n ∙ ap (option_map (named_placed pool)) at

  named_start : (place : ℕ) → is_start ps place ≡ true
      → (m : ℕ) × (q : Placed Operand) × (slice_get (map (named_placed pool) ps) m ≡ Some q) × (q.pc ≡ place)
  named_start place h = let found = start_at ps place h in (found.0, named_placed pool found.1, named_at found.0 found.1 found.2, found.3)

-- Code that is spelled stands right.
module _ (file : ClassData) (member : Member) (bytes : List ℕ) (raw : Body ℕ) (spells : SpellsCode file member bytes raw) (descriptor : List ℕ) where
  abbrev ps : List (Placed ℕ)
  ps = raw.instructions

  leads : (n k target : ℕ) (q : Placed ℕ) → slice_get ps n ≡ Some q → slice_get (targets_of q.instruction) k ≡ Some target → is_start ps target ≡ true
  leads n k target q at is =
      all_of (is_start ps) (targets_of q.instruction) k target (all_of (is_led ps) ps n q spells.targets at) is

  caught : (k : ℕ) (row : Handler ℕ) → slice_get raw.handlers k ≡ Some row → is_start ps row.target ≡ true
  caught k row at =
      let h = all_of (is_handler file.pool (length spells.code) ps) raw.handlers k row spells.handlers at in
      (and_parts _ (is_start ps row.target) (and_parts _ _ h).0).1

  pub spelled_stands_right : StandsRight (named file.pool descriptor raw)
  unfolding named
  spelled_stands_right = record {
    apart = λ m n q p less here there.
        (let x = raw_at file.pool ps m q here in
        let y = raw_at file.pool ps n p there in
        let lower = apart file 0 spells.code ps spells.instructions m n x.0 y.0 less x.1 y.1 in
        false_from_ne_true (q.pc == p.pc) (λ same.
        omega (arith, lower, eqb-true q.pc p.pc same, ap (λ (r : Placed Operand). r.pc) x.2, ap (λ (r : Placed Operand). r.pc) y.2)));
    behind = λ n p q here there.
        (let x = raw_at file.pool ps n p here in
        let y = raw_at file.pool ps (suc n) q there in
        ap (λ (r : Placed Operand). r.next) (sym x.2) ∙ behind file 0 spells.code ps spells.instructions n x.0 y.0 x.1 y.1
        ∙ ap (λ (r : Placed Operand). r.pc) y.2);
    targets = λ n k target p here is.
        (let x = raw_at file.pool ps n p here in
        let same = ap (λ (r : Placed Operand). targets_of r.instruction) (sym x.2) ∙ same_targets (operand_at file.pool) x.0.instruction in
        named_start file.pool ps target (leads n k target x.0 x.1 (ap (λ (ts : List ℕ). slice_get ts k) (sym same) ∙ is)));
    first =
        (let f = first file 0 spells.code ps spells.instructions spells.code_length.0 in
        (named_placed file.pool f.0, named_at file.pool ps 0 f.0 f.1, f.2));
    handlers = λ k h at.
        (let x = map_is (named_handler file.pool) (slice_get raw.handlers k) h (sym (slice_get-map (named_handler file.pool) raw.handlers k) ∙ at) in
        let found = named_start file.pool ps x.0.target (caught k x.0 x.1) in
        (found.0, found.1, found.2, found.3 ∙ ap (λ (r : Handler Operand). r.target) x.2));
  }
