use Rattle.std.proofs.Common.{Bool, [], ◌∷◌, suc, Some, None, drop, if◌then◌else◌, sym, ap, ◌∙◌}
use Rattle.typing_model.specs.StackTypes.{group}
use Rattle.type_rules.specs.Types.{type_of}
use Rattle.type_rules.specs.Frames.{types_of}
use Rattle.instruction_types.proofs.Groups.{drop-there, drop-none, group-one, group-none}
use Rattle.instruction_types.proofs.stack_forms.one_word.Goals as goal

pub returns-in_default-clause-typed : goal.returns-in_default-clause-typed
returns-in_default-clause-typed c = λ w.
    let none = drop-none w c.args.frame.now.stack c.args.from (sym c.operand.ensures ∙ c.in_default.is) in
    sym (ap (group 1) none ∙ group-none w 0)

pub returns-then-is_one_word-clause-typed : goal.returns-then-is_one_word-clause-typed
returns-then-is_one_word-clause-typed c = λ w.
    let stack = c.args.frame.now.stack in
    let x = c.in-Some.operand in
    let below = drop (suc c.args.from) (types_of w stack) in
    let there = drop-there w stack c.args.from x (sym c.operand.ensures ∙ c.in-Some.is) in
    let passes = sym c.if-is_one_word.true ∙ c.is_one_word.ensures w in
    ap (λ (b : Bool). if b then Some (type_of w x ∷ []) else None) passes ∙ group-one w x below ∙ sym (ap (group 1) there)

pub returns-else-is_one_word-clause-typed : goal.returns-else-is_one_word-clause-typed
returns-else-is_one_word-clause-typed c = λ w.
    let stack = c.args.frame.now.stack in
    let x = c.in-Some.operand in
    let below = drop (suc c.args.from) (types_of w stack) in
    let there = drop-there w stack c.args.from x (sym c.operand.ensures ∙ c.in-Some.is) in
    let fails = sym c.if-is_one_word.false ∙ c.is_one_word.ensures w in
    ap (λ (b : Bool). if b then Some (type_of w x ∷ []) else None) fails ∙ group-one w x below ∙ sym (ap (group 1) there)
