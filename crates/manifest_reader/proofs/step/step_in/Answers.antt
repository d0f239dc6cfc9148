-- A number without a sign is read as an integer.
use Rattle.std.proofs.Common.{◌≡◌, true, false, Err, sym, ◌∙◌, ap, arith, rules}
use Rattle.std.specs.Prelude.{FitsSigned}
use Rattle.std.specs.Int.{w64}
use Rattle.std.proofs.lemmas.Int.{ints}
use Rattle.jv_model.specs.Limits.{most_request_step}
use Rattle.jv_types.specs.Refusal.{line_kind_of}
use Rattle.text_model.specs.Numerals.{natural_in}
use Rattle.manifest_reader.specs.Signs.{has_sign}
use Rattle.manifest_reader.proofs.StepLemmas.{signed, unsigned, kind_read, number_read}
use Rattle.manifest_reader.proofs.step.step_in.Goals as goal

pub returns-then-has_sign : goal.returns-then-has_sign
returns-then-has_sign c =
    let is : has_sign c.args.word.now ≡ true = sym (rw c.as_bytes.ensures.value at c.if-has_sign.ensures) in
    sym (signed 0 most_request_step c.args.word.now is)

pub returns-in_err-integer_in : goal.returns-in_err-integer_in
returns-in_err-integer_in c =
    let is : has_sign c.args.word.now ≡ false = sym (rw c.as_bytes.ensures.value at c.if-has_sign.ensures) in
    let kind = line_kind_of c.in_err-integer_in.field-0.0 in
    let read : Err kind ≡ natural_in 0 most_request_step c.args.word.now =
    kind_read (natural_in 0 most_request_step c.args.word.now) kind
    (c.in_err-integer_in.ensures.value ∙ unsigned 0 most_request_step c.args.word.now is) in
    rw (← read) (search rules)

pub returns : goal.returns
returns c =
    let is : has_sign c.args.word.now ≡ false = sym (rw c.as_bytes.ensures.value at c.if-has_sign.ensures) in
    let least = c.in_ok-integer_in.ensures.least in
    let most = c.in_ok-integer_in.ensures.most in
    let fits : FitsSigned w64 c.in_ok-integer_in.field-0 = grind (arith, ints) in
    number_read (natural_in 0 most_request_step c.args.word.now) c.in_ok-integer_in.field-0
    (c.in_ok-integer_in.ensures.value ∙ unsigned 0 most_request_step c.args.word.now is) fits
