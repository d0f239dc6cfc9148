use Rattle.std.proofs.Common.{◌≡◌, ◌+◌, Bool, [], ◌∷◌, suc, ℕ, Option, List, Some, None, drop, option_map, if◌then◌else◌, slice_get, sym, subst, ap, ◌∙◌, arith}
use Rattle.std.specs.Option.{IfSome}
use Rattle.typing_model.specs.VerificationType as model
use Rattle.typing_model.specs.StackTypes.{group}
use Rattle.type_rules.specs.declared.types.VerificationType.{VerificationType}
use Rattle.type_rules.specs.Types.{type_of}
use Rattle.type_rules.specs.Frames.{types_of}
use Rattle.instruction_types.proofs.Groups.{drop-there, drop-none, group-two, group-long, group-none, one-stands, two-stand}
use Rattle.instruction_types.proofs.stack_forms.two_words.Goals as goal

pub returns-in_default-clause-typed : goal.returns-in_default-clause-typed
returns-in_default-clause-typed c = λ w.
    let none = drop-none w c.args.frame.now.stack c.args.from (sym c.operand.ensures ∙ c.in_default.is) in
    sym (ap (group 2) none ∙ group-none w 1)

pub returns-in-Long-clause-typed : goal.returns-in-Long-clause-typed
returns-in-Long-clause-typed c = λ w.
    let stack = c.args.frame.now.stack in
    let x = c.in-Some.first in
    let below = drop (suc c.args.from) (types_of w stack) in
    let there = drop-there w stack c.args.from x (sym c.operand.ensures ∙ c.in-Some.is) in
    ap (λ (t : VerificationType). Some (type_of w t ∷ [])) c.in-Long.is ∙ sym (group-long w below)
    ∙ sym (ap (group 2) there ∙ ap (λ (t : VerificationType). group 2 (type_of w t ∷ below)) c.in-Long.is)

pub returns-in-Long-clause-there : goal.returns-in-Long-clause-there
returns-in-Long-clause-there c =
    one-stands c.args.frame.now.stack c.args.from c.in-Some.first (sym c.operand.ensures ∙ c.in-Some.is)

pub returns-then-not-is_one_word-clause-typed : goal.returns-then-not-is_one_word-clause-typed
returns-then-not-is_one_word-clause-typed c = λ w.
    let stack = c.args.frame.now.stack in
    let x = c.in-Some.first in
    let below = drop (suc c.args.from) (types_of w stack) in
    let there = drop-there w stack c.args.from x (sym c.operand.ensures ∙ c.in-Some.is) in
    let fails = sym c.if-not-is_one_word.true ∙ c.is_one_word.ensures w in
    ap (λ (b : Bool). if b then option_map (λ (rest : List model.VerificationType). type_of w x ∷ rest) (group 1 below) else None) fails
    ∙ group-two w x below c.in_default-first.not-Long ∙ sym (ap (group 2) there)

pub returns-in-Some-one_word-clause-typed : goal.returns-in-Some-one_word-clause-typed
returns-in-Some-one_word-clause-typed c = λ w.
    let stack = c.args.frame.now.stack in
    let x = c.in-Some.first in
    let below = drop (suc c.args.from) (types_of w stack) in
    let there = drop-there w stack c.args.from x (sym c.operand.ensures ∙ c.in-Some.is) in
    let passes = sym c.if-not-is_one_word.false ∙ c.is_one_word.ensures w in
    let next : c.args.from + 1 ≡ suc c.args.from = omega arith in
    let one = ap (λ (o : Option VerificationType). option_map (λ (t : VerificationType). type_of w t ∷ []) o) (sym c.in-Some-one_word.is)
    ∙ c.one_word.ensures.typed w ∙ ap (λ (n : ℕ). group 1 (drop n (types_of w stack))) next in
    ap (option_map (λ (rest : List model.VerificationType). type_of w x ∷ rest)) one
    ∙ ap (λ (b : Bool). if b then option_map (λ (rest : List model.VerificationType). type_of w x ∷ rest) (group 1 below) else None) passes
    ∙ group-two w x below c.in_default-first.not-Long ∙ sym (ap (group 2) there)

pub returns-in-Some-one_word-clause-there : goal.returns-in-Some-one_word-clause-there
returns-in-Some-one_word-clause-there c =
    let second = subst (λ (o : Option VerificationType). IfSome o (λ type. slice_get c.args.frame.now.stack (c.args.from + 1) ≡ Some type)) c.in-Some-one_word.is c.one_word.ensures.there in
    two-stand c.args.frame.now.stack c.args.from c.in-Some.first c.in-Some-one_word.second (sym c.operand.ensures ∙ c.in-Some.is) second

pub returns-in-None-clause-typed : goal.returns-in-None-clause-typed
returns-in-None-clause-typed c = λ w.
    let stack = c.args.frame.now.stack in
    let x = c.in-Some.first in
    let below = drop (suc c.args.from) (types_of w stack) in
    let there = drop-there w stack c.args.from x (sym c.operand.ensures ∙ c.in-Some.is) in
    let passes = sym c.if-not-is_one_word.false ∙ c.is_one_word.ensures w in
    let next : c.args.from + 1 ≡ suc c.args.from = omega arith in
    let one = ap (λ (o : Option VerificationType). option_map (λ (t : VerificationType). type_of w t ∷ []) o) (sym c.in-None.is)
    ∙ c.one_word.ensures.typed w ∙ ap (λ (n : ℕ). group 1 (drop n (types_of w stack))) next in
    ap (option_map (λ (rest : List model.VerificationType). type_of w x ∷ rest)) one
    ∙ ap (λ (b : Bool). if b then option_map (λ (rest : List model.VerificationType). type_of w x ∷ rest) (group 1 below) else None) passes
    ∙ group-two w x below c.in_default-first.not-Long ∙ sym (ap (group 2) there)
