use Rattle.std.proofs.Common.{◌≡◌, Some, map, slice_get, sym, ap, ◌∙◌, arith}
use Rattle.std.specs.Option.{option_map}
use Rattle.std.proofs.lemmas.List.{length-map}
use Rattle.std.proofs.lemmas.Option.{slice_get-map}
use Rattle.jv_types.specs.ClassData.{member_of, pool_of}
use Rattle.jv_types.specs.Code.{body_of as code_of}
use Rattle.jv_types.specs.Loaded.{loaded_of}
use Rattle.straight_line.proofs.MainLemmas.{main_here, main_later, no_main}
use Rattle.straight_line.proofs.main_code.code_of_main.Goals as goal
use Rattle.straight_line.proofs.main_code.code_of_main.Goals.{After-get}

-- the method at the index, as the definitions see it
here : (c : After-get)
    → slice_get (map member_of c.args.class.now.file.methods.items) c.loop-index.index
    ≡ Some (member_of c.get.result.now)
here c = slice_get-map member_of c.args.class.now.file.methods.items c.loop-index.index
    ∙ ap (option_map member_of) c.get.ensures

pub returns-then-is_main : goal.returns-then-is_main
returns-then-is_main c =
    let class = c.args.class.now in
    main_here (pool_of class.file.pool.items) (map member_of class.file.methods.items)
    (loaded_of class).codes c.loop-index.index (member_of c.get.result.now)
    (option_map (λ body. code_of body.now) c.code_at.result)
    (here (goal.at.returns-then-is_main c).After-get) c.code_at.ensures
    (sym c.is_main.ensures ∙ c.if-is_main.true) c.loop-index.invariant

pub loop-index-preserved : goal.loop-index-preserved
loop-index-preserved c =
    let class = c.args.class.now in
    main_later (pool_of class.file.pool.items) (map member_of class.file.methods.items)
    (loaded_of class).codes c.loop-index.index (member_of c.get.result.now)
    (here (goal.at.loop-index-preserved c).After-get)
    (sym c.is_main.ensures ∙ c.if-is_main.false) c.loop-index.invariant

pub returns : goal.returns
returns c =
    let class = c.args.class.now in
    let count = length-map class.file.methods.items member_of in
    no_main (pool_of class.file.pool.items) (map member_of class.file.methods.items)
    (loaded_of class).codes c.loop-index.index (omega (arith, count)) c.loop-index.invariant
