use Rattle.std.proofs.Common.{ℕ, List, ◌∙◌, sym, ap, Option, Some, Result, Ok}
use Rattle.std.proofs.lemmas.Result.{err_from_is_err_and}
use Rattle.jv_model.specs.Fallible.{◌>>=◌}
use Rattle.jv_model.specs.Refusal.{Cause}
use Rattle.jv_model.specs.Code.{Body}
use Rattle.jv_types.specs.ClassData.{class_data_of, member_of}
use Rattle.code_model.specs.CodeReading.{body_at, code_or_none}
use Rattle.class_reader.proofs.Loops.InFront.{Refuses-first}
use Rattle.code_reader.proofs.Stages.{stages_are}
use Rattle.code_reader.proofs.method.read_member.Goals as goal

pub returns-in_err-read_body-in-Some-clause-code : goal.returns-in_err-read_body-in-Some-clause-code
returns-in_err-read_body-in-Some-clause-code c =
    let file = class_data_of c.args.class.now in
    let member = member_of c.args.member.now in
    let error = err_from_is_err_and c.from_residual.result c.from_residual.ensures.1 in
    rw (error.1, error.2, ← c.in-Some.ensures.bytes)
    (Refuses-first _ (body_at file c.args.method member c.in-Some.bytes.now) _
    (rw (← stages_are file c.args.method member c.in-Some.bytes.now)
    c.in_err-read_body-in-Some.ensures.body))

pub returns-in_ok-read_body-in-Some-clause-code : goal.returns-in_ok-read_body-in-Some-clause-code
returns-in_ok-read_body-in-Some-clause-code c =
    let file = class_data_of c.args.class.now in
    let member = member_of c.args.member.now in
    ap (λ (found : Option (List ℕ)). code_or_none file c.args.method member found)
    (sym c.in-Some.ensures.bytes)
    ∙ ap (λ (read : Result (Body ℕ) Cause). read >>= λ body. Ok (Some body))
    (sym (stages_are file c.args.method member c.in-Some.bytes.now)
    ∙ c.in_ok-read_body-in-Some.ensures.body)
