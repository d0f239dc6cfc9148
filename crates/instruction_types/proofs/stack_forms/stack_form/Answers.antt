use Rattle.std.proofs.Common.{◌≡◌, ◌+◌, ◌≤◌, ℕ, Option, List, length, drop, sym, subst, ap, ◌∙◌, arith}
use Rattle.std.proofs.lemmas.List.{length-map, drop-map}
use Rattle.std.proofs.lemmas.List.Elements.{All-drop}
use Rattle.typing_model.specs.VerificationType as model
use Rattle.typing_model.specs.VerificationType.{TypeFrame}
use Rattle.typing_model.specs.Transition.{pushed}
use Rattle.typing_model.specs.StackTypes.{group}
use Rattle.jv_model.specs.StackForms.{put_back}
use Rattle.jv_types.specs.Instruction.{stack_form_of}
use Rattle.type_rules.specs.Types.{type_of, IsKnownType}
use Rattle.type_rules.specs.Frames.{Types, types_of, frame_of, IsKnownFrame}
use Rattle.instruction_types.specs.Outcome.{Gives}
use Rattle.instruction_types.specs.Groups.{types_in}
use Rattle.instruction_types.proofs.Groups.{formed-none, formed-no_lower, formed-both, stand-known, stand-inside}
use Rattle.instruction_types.proofs.stack_forms.stack_form.Goals as goal

pub returns-in_default-clause-typed : goal.returns-in_default-clause-typed
returns-in_default-clause-typed c = λ w e is.
    let old = c.args.frame.now in
    let stack : List model.VerificationType = types_of w old.stack in
    formed-none e (stack_form_of c.args.form) (frame_of w old)
    (ap (λ (n : ℕ). group n stack) (sym c.upper_words.ensures.same) ∙ sym (c.in_default.ensures.typed w))

pub returns-in_default-words_at-clause-typed : goal.returns-in_default-words_at-clause-typed
returns-in_default-words_at-clause-typed c = λ w e is.
    let old = c.args.frame.now in
    let stack : List model.VerificationType = types_of w old.stack in
    let types = types_in c.in-Some.upper in
    let long = length-map types (type_of w) ∙ sym c.len.ensures in
    formed-no_lower e (stack_form_of c.args.form) (frame_of w old) (types_of w types)
    (ap (λ (n : ℕ). group n stack) (sym c.upper_words.ensures.same) ∙ sym (c.in-Some.ensures.typed w))
    ((λ i. group (sym c.lower_words.ensures.same i) (drop (long i) stack)) ∙ sym (c.in_default-words_at.ensures.typed w))

pub drop_operands-requires : goal.drop_operands-requires
drop_operands-requires c =
    let stack = c.args.frame.now.stack in
    let upper = stand-inside stack 0 (types_in c.in-Some.upper) c.in-Some.ensures.there (omega arith) in
    let start : c.len.result ≤ length stack = omega (arith, upper, c.len.ensures) in
    let lower = stand-inside stack c.len.result (types_in c.in-Some-words_at.lower) c.in-Some-words_at.ensures.there start in
    omega (arith, lower, c.len.ensures, c.len-2.ensures, c.len-3.ensures)

pub returns-clause-typed : goal.returns-clause-typed
returns-clause-typed c = λ w e is.
    let old = c.args.frame.now in
    let form = stack_form_of c.args.form in
    let stack : List model.VerificationType = types_of w old.stack in
    let upper = types_in c.in-Some.upper in
    let lower = types_in c.in-Some-words_at.lower in
    let long = length-map upper (type_of w) ∙ sym c.len.ensures in
    let back = put_back form (types_of w upper) (types_of w lower) in
    let both : length (types_of w upper) + length (types_of w lower) ≡ c.len-2.result + c.len-3.result =
    λ i. (length-map upper (type_of w) ∙ sym c.len-2.ensures) i + (length-map lower (type_of w) ∙ sym c.len-3.ensures) i in
    let left = ap (λ (n : ℕ). drop n stack) both ∙ drop-map (type_of w) (c.len-2.result + c.len-3.result) old.stack in
    let rule =
    formed-both e form (frame_of w old) (types_of w upper) (types_of w lower)
    (ap (λ (n : ℕ). group n stack) (sym c.upper_words.ensures.same) ∙ sym (c.in-Some.ensures.typed w))
    ((λ i. group (sym c.lower_words.ensures.same i) (drop (long i) stack)) ∙ sym (c.in-Some-words_at.ensures.typed w))
    ∙ ap (λ (s : List model.VerificationType). pushed e back (record { locals = types_of w old.locals; stack = s })) left
    ∙ ap (λ (t : Types). pushed e back (frame_of w t)) (sym c.drop_operands.ensures) in
    subst (λ (o : Option TypeFrame). Gives {X = Unit {0}} c.put_back.result o (frame_of w c.put_back.new.frame)) (sym rule)
    (c.put_back.ensures.typed w e is)

pub returns-clause-known : goal.returns-clause-known
returns-clause-known c = λ w known.
    let stack = c.args.frame.now.stack in
    c.put_back.ensures.known w
    (subst (IsKnownFrame w) (sym c.drop_operands.ensures)
    (record { locals = known.locals; stack = All-drop (IsKnownType w) (c.len-2.result + c.len-3.result) stack known.stack }))
    (stand-known w stack 0 (types_in c.in-Some.upper) c.in-Some.ensures.there known.stack)
    (stand-known w stack c.len.result (types_in c.in-Some-words_at.lower) c.in-Some-words_at.ensures.there known.stack)
