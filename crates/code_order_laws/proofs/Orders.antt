-- Instructions that are spelled follow each other, since each has a byte at least.
use Rattle.std.proofs.Common.{◌≡◌, ℕ, zero, suc, ◌<◌, List, [], ◌∷◌, length, Some, None, Ok, ap, ◌∙◌, length-append, arith, inl, inr}
use Rattle.std.specs.Prelude.{unwrap_or, slice_get, Bool, find, option_map}
use Rattle.std.proofs.lemmas.Bool.{cases_Bool}
use Rattle.std.specs.List.{AllByRecursion}
use Rattle.jv_model.specs.ClassData.{gap, Attr, Member, ClassData}
use Rattle.jv_model.specs.ConstantPool.{const_at}
use Rattle.jv_model.specs.Profile.{IsU1}
use Rattle.jv_model.specs.ClassBytes.{u1}
use Rattle.jv_model.specs.Instruction.{Instruction}
use Rattle.jv_model.specs.Code.{Placed, Body}
use Rattle.code_model.specs.CodeShape.{code_bytes}
use Rattle.code_model.specs.CodeReading.{body_of_method, code_of}
use Rattle.code_model.specs.SpellsInstructions.{SpellsInstruction, SpellsInstructions}
use Rattle.code_model.specs.Laws.{AreBytes}
use Rattle.code_laws.proofs.Bodies.{code_read}
use Rattle.code_store.specs.Order.{Follows, CanRun}
use Rattle.code_order_laws.specs.Laws.{SpelledCodeRuns, ReadCodeRuns, LoadedCodesRun}

-- an instruction has a byte at least
some_bytes :
    (file : ClassData) (pc : ℕ) (own : List ℕ) (instruction : Instruction ℕ)
    → SpellsInstruction file pc own instruction → 0 < length own
some_bytes file pc own instruction (opcode, operands, parts, spelled) =
    omega (arith, ap length parts ∙ length-append (u1 opcode) operands)

pub follow :
    (file : ClassData) (place : ℕ) (code : List ℕ) (instructions : List (Placed ℕ))
    → SpellsInstructions file place code instructions → Follows place instructions
follow file place code [] spelled = tt
follow file place code (placed ∷ others) (own, rest, parts, at, next, spelled, behind) =
    let some = some_bytes file place own placed.instruction spelled in
    (at, omega (arith, at, next, some), follow file placed.next rest others behind)

pub spelled_code_runs : SpelledCodeRuns
spelled_code_runs file method bytes body spelled = record {
  order = follow file 0 spelled.code body.instructions spelled.instructions;
  words = omega (arith, spelled.words.2);
}

-- ---- code that is read

-- the bytes of the first attribute that passes a test are bytes, or there are none
found_bytes :
    (test : Attr → Bool) (attributes : List Attr)
    → AllByRecursion (λ (a : Attr). AllByRecursion IsU1 a.bytes) attributes
    → AllByRecursion IsU1
    (unwrap_or (option_map (λ (a : Attr). a.bytes) (find test attributes)) [])
found_bytes test [] bytes = tt
found_bytes test (attribute ∷ attributes) bytes =
    elim (cases_Bool (test attribute)) [
      | inl is ↦ rw is bytes.0
      | inr not ↦ rw not (found_bytes test attributes bytes.1)
    ]

runs_of_method :
    (file : ClassData) (index : ℕ) (methods : List Member) (n : ℕ) (body : Body ℕ)
    → (const_at file.pool 0 ≡ gap) → AllByRecursion AreBytes methods
    → body_of_method file index (slice_get methods n) ≡ Ok body → CanRun body
runs_of_method file index [] n body gapped bytes e = absurd cc
runs_of_method file index (method ∷ methods) zero body gapped bytes e =
    let own = found_bytes _ method.attributes bytes.0 in
    let read = code_read file index method (unwrap_or (code_bytes file method) []) body gapped own in
    spelled_code_runs file method _ body (read.0 e)
runs_of_method file index (method ∷ methods) (suc n) body gapped bytes e =
    runs_of_method file index methods n body gapped bytes.1 e

pub read_code_runs : ReadCodeRuns
unfolding code_of
read_code_runs file index body gapped bytes e =
    runs_of_method file index file.methods index body gapped bytes e

-- ---- codes that are loaded

pub loaded_codes_run : LoadedCodesRun
loaded_codes_run file [] [] has = tt
loaded_codes_run file [] (code ∷ codes) has = absurd has
loaded_codes_run file (method ∷ methods) [] has = absurd has
loaded_codes_run file (method ∷ methods) (None ∷ codes) has =
    (tt, loaded_codes_run file methods codes has.1)
loaded_codes_run file (method ∷ methods) (Some body ∷ codes) has =
    (spelled_code_runs file method has.0.0 body has.0.2, loaded_codes_run file methods codes has.1)
