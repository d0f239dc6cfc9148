use Rattle.std.proofs.Common.{◌∙◌, sym, ap, option_map, arith}
use Rattle.std.proofs.lemmas.List.{length-map, map_push}
use Rattle.std.proofs.lemmas.Option.{slice_get-map}
use Rattle.jv_types.specs.ClassData.{class_data_of, member_of, members_of}
use Rattle.jv_types.specs.Loaded.{code_of}
use Rattle.code_reader.specs.Method.{codes_of}
use Rattle.code_reader.specs.Head.{IsRefusal}
use Rattle.code_reader.proofs.Clauses.{code_more, code_refused, codes_done}
use Rattle.code_reader.proofs.FirstMethod.{first_refusal, methods_read}
use Rattle.code_reader.proofs.method.read_codes.Goals as goal

pub returns-in-Err-clause-codes : goal.returns-in-Err-clause-codes
returns-in-Err-clause-codes c =
    let file = class_data_of c.args.class.now in
    let methods = c.args.class.now.methods.items in
    rw (← c.loop-index.invariant.0)
    (code_refused file (members_of methods) c.loop-index.index (codes_of c.loop-index.codes.items)
    (member_of c.get.result.now)
    (slice_get-map member_of methods c.loop-index.index ∙ ap (option_map member_of) c.get.ensures)
    _ c.in-Err.ensures.code)

pub loop-index-preserved : goal.loop-index-preserved
loop-index-preserved c =
    let file = class_data_of c.args.class.now in
    let methods = c.args.class.now.methods.items in
    let here =
    slice_get-map member_of methods c.loop-index.index ∙ ap (option_map member_of) c.get.ensures in (
      rw (c.in-Ok-push.ensures.ok, map_push code_of c.loop-index.codes.items c.in-Ok.code)
          (sym (code_more file (members_of methods) c.loop-index.index
          (codes_of c.loop-index.codes.items) (member_of c.get.result.now) here
          (code_of c.in-Ok.code) c.in-Ok.ensures.code)
          ∙ c.loop-index.invariant.0),
      λ _. first_refusal file ⊥ c.loop-index.index (member_of c.get.result.now) here
          c.loop-index.invariant.1 c.in-Ok.ensures.early,
    )

pub returns-clause-codes : goal.returns-clause-codes
returns-clause-codes c =
    let file = class_data_of c.args.class.now in
    let methods = c.args.class.now.methods.items in
    sym c.loop-index.invariant.0
    ∙ codes_done file (members_of methods) c.loop-index.index (codes_of c.loop-index.codes.items)
    (omega (arith, length-map methods member_of, c.len-index-end.ensures, c.loop-index-test.false))

pub returns-in-Err-clause-early : goal.returns-in-Err-clause-early
returns-in-Err-clause-early c =
    let methods = c.args.class.now.methods.items in
    first_refusal (class_data_of c.args.class.now) (IsRefusal c.in-Err.error) c.loop-index.index
    (member_of c.get.result.now)
    (slice_get-map member_of methods c.loop-index.index ∙ ap (option_map member_of) c.get.ensures)
    c.loop-index.invariant.1 c.in-Err.ensures.early

pub returns-clause-early : goal.returns-clause-early
returns-clause-early c =
    let file = class_data_of c.args.class.now in
    let methods = c.args.class.now.methods.items in
    let right = methods_read file c.loop-index.index
    (omega (arith, length-map methods member_of, c.len-index-end.ensures, c.loop-index-test.false))
    c.loop-index.invariant.1 in
    λ run its cause refused. absurd (right run its cause refused)
