use Rattle.std.proofs.Common.{ℕ, ◌∙◌, ap, subst, option_map, Result}
use Rattle.jv_model.specs.Refusal.{Cause}
use Rattle.jv_model.specs.Code.{Body}
use Rattle.jv_types.specs.Code.{body_of}
use Rattle.code_reader.specs.Gives.{GivesCode}
use Rattle.code_reader.proofs.Stages.{stages_are}
use Rattle.std.proofs.lemmas.Option.{slice_get-map}
use Rattle.jv_types.specs.ClassData.{class_data_of, member_of}
use Rattle.code_reader.proofs.Clauses.{code_is, no_code, code_found, code_only, no_body}
use Rattle.code_reader.proofs.method.read_code.Goals as goal

pub returns-in_default-clause-only : goal.returns-in_default-clause-only
returns-in_default-clause-only c = λ body its.
    let file = class_data_of c.args.class.now in
    let member = member_of c.get-member.result.now in
    absurd (no_body file c.args.method member
    (slice_get-map member_of c.args.class.now.methods.items c.args.method ∙ ap (option_map member_of) c.get-member.ensures)
    body c.in_default.ensures.bytes its)

pub returns-in_default-clause-refusal : goal.returns-in_default-clause-refusal
returns-in_default-clause-refusal c =
    let file = class_data_of c.args.class.now in
    let member = member_of c.get-member.result.now in
    no_code file c.args.method member
    (slice_get-map member_of c.args.class.now.methods.items c.args.method ∙ ap (option_map member_of) c.get-member.ensures)
    c.in_default.ensures.bytes

pub returns-clause-found : goal.returns-clause-found
returns-clause-found c =
    let file = class_data_of c.args.class.now in
    let member = member_of c.get-member.result.now in
    let gives =
    subst (λ (read : Result (Body ℕ) Cause). GivesCode c.args.method body_of c.read_body.result read)
    (stages_are file c.args.method member c.in-Some.bytes.now) c.read_body.ensures.body in
    code_found file c.args.method member
    (slice_get-map member_of c.args.class.now.methods.items c.args.method ∙ ap (option_map member_of) c.get-member.ensures)
    c.in-Some.bytes.now c.read_body.result c.requires.profile c.in-Some.ensures.bytes
    gives

pub returns-clause-only : goal.returns-clause-only
returns-clause-only c = λ body its.
    let file = class_data_of c.args.class.now in
    let member = member_of c.get-member.result.now in
    let gives =
    subst (λ (read : Result (Body ℕ) Cause). GivesCode c.args.method body_of c.read_body.result read)
    (stages_are file c.args.method member c.in-Some.bytes.now) c.read_body.ensures.body in
    code_only file c.args.method member
    (slice_get-map member_of c.args.class.now.methods.items c.args.method ∙ ap (option_map member_of) c.get-member.ensures)
    c.in-Some.bytes.now c.read_body.result body c.requires.profile c.in-Some.ensures.bytes its
    gives

pub returns-clause-refusal : goal.returns-clause-refusal
returns-clause-refusal c =
    let file = class_data_of c.args.class.now in
    let member = member_of c.get-member.result.now in
    let gives =
    subst (λ (read : Result (Body ℕ) Cause). GivesCode c.args.method body_of c.read_body.result read)
    (stages_are file c.args.method member c.in-Some.bytes.now) c.read_body.ensures.body in
    rw (code_is file c.args.method member
    (slice_get-map member_of c.args.class.now.methods.items c.args.method ∙ ap (option_map member_of) c.get-member.ensures)
    c.in-Some.bytes.now c.in-Some.ensures.bytes)
    gives
