use Rattle.std.proofs.Common.{◌≡◌, ◌+◌, ◌∷◌, ◌++◌, Some, [], drop, map, refl, sym, ap, ◌∙◌}
use Rattle.std.proofs.lemmas.List.{map-append, drop_all}
use Rattle.std.proofs.lemmas.Option.{slice_get_read}
use Rattle.jv_model.specs.Partial.{◌>>=◌}
use Rattle.code_model.specs.Names.{named_placed}
use Rattle.run_model.specs.MainCode.{instructions_of}
use Rattle.jv_types.specs.ClassData.{pool_of}
use Rattle.jv_types.specs.Instructions.{placed_of}
use Rattle.straight_line.specs.Body.{instruction_of}
use Rattle.straight_line.proofs.MainLemmas.{drop_item, first_is_none, first_is_some, none_left}
use Rattle.straight_line.proofs.main_code.instructions_of.Goals as goal

pub returns-in_default : goal.returns-in_default
returns-in_default c =
    let pool = pool_of c.args.pool.now.items in
    let i = c.loop-insn.insn-index in
    let insn = c.insn-item.result in
    let front = map instruction_of c.loop-insn.instructions.items in
    let seam =
    ap (λ insns. map (named_placed pool) (map placed_of insns))
    (drop_item c.args.insns.now i insn
    (slice_get_read c.args.insns.now _ i insn refl c.loop-insn-test.true c.insn-item.is)) in
    let none =
    ap instructions_of seam
    ∙ first_is_none (named_placed pool (placed_of insn))
    (map (named_placed pool) (map placed_of (drop (i + 1) c.args.insns.now)))
    (sym c.in_default.ensures) in
    sym (ap (λ found. found >>= λ others. Some (front ++ others)) none)
    ∙ c.loop-insn.invariant

pub loop-insn-preserved : goal.loop-insn-preserved
loop-insn-preserved c =
    let pool = pool_of c.args.pool.now.items in
    let i = c.loop-insn.insn-index in
    let insn = c.insn-item.result in
    let front = map instruction_of c.loop-insn.instructions.items in
    let others = map (named_placed pool) (map placed_of (drop (i + 1) c.args.insns.now)) in
    let here = instruction_of c.in-Some.instruction in
    let seam =
    ap (λ insns. map (named_placed pool) (map placed_of insns))
    (drop_item c.args.insns.now i insn
    (slice_get_read c.args.insns.now _ i insn refl c.loop-insn-test.true c.insn-item.is)) in
    let so_far : map instruction_of c.push.new.self.items ≡ front ++ here ∷ [] =
    ap (map instruction_of) c.in_ok-push.ensures.ok ∙ map-append instruction_of _ _ in
    rw so_far
    (first_is_some (named_placed pool (placed_of insn)) others front here (sym c.in-Some.ensures)
    ∙ ap (λ list. instructions_of list >>= λ others. Some (front ++ others)) (sym seam)
    ∙ c.loop-insn.invariant)

pub returns : goal.returns
returns c =
    let pool = pool_of c.args.pool.now.items in
    let i = c.loop-insn.insn-index in
    sym (none_left (map (named_placed pool) (map placed_of (drop i c.args.insns.now)))
    (map instruction_of c.loop-insn.instructions.items)
    (ap (λ insns. map (named_placed pool) (map placed_of insns))
    (drop_all i c.args.insns.now c.loop-insn-test.false)))
    ∙ c.loop-insn.invariant
