use Rattle.std.proofs.Common.{◌-◌, ◌≤◌, ◌<◌, ℕ, nat_le, reverse, sym, ap, ◌∙◌, arith}
use Rattle.std.specs.List.{sum_by}
use Rattle.std.proofs.lemmas.List.{reverse-reverse}
use Rattle.type_rules.specs.Frames.{words_of}
use Rattle.instruction_types.proofs.Stacks.{words-together, le_split, le_not, le_past}
use Rattle.instruction_types.proofs.operands.has_room.Goals as goal

pub returns-then-more-most : goal.returns-then-more-most
returns-then-more-most c = λ w.
    let more = sum_by words_of c.args.types.now in
    let there = sum_by words_of c.operands.result.now in
    let inside : more ≤ c.args.max_stack = omega (arith, c.words-more.ensures, c.from-most.ensures) in
    (λ i. nat_le (c.words.ensures i) (c.from-most.ensures i - c.words-more.ensures i))
    ∙ le_split more there c.args.max_stack inside
    ∙ ap (λ (n : ℕ). nat_le n c.args.max_stack)
    (sym (words-together w c.args.types.now c.operands.result.now c.args.frame.now.stack c.operands.ensures))

pub returns-else-more-most : goal.returns-else-more-most
returns-else-more-most c = λ w.
    let stack = c.args.frame.now.stack in
    let most = c.args.max_stack in
    let past : most < sum_by words_of c.args.types.now = omega (arith, c.words-more.ensures, c.from-most.ensures, c.if-more-most.false) in
    (λ i. nat_le (c.words-more.ensures i) (c.from-most.ensures i))
    ∙ le_not (sum_by words_of c.args.types.now) most past
    ∙ le_past (sum_by words_of c.args.types.now) (sum_by words_of (reverse stack)) most past
    ∙ ap (λ (n : ℕ). nat_le n most) (sym (words-together w c.args.types.now (reverse stack) stack (reverse-reverse stack)))
