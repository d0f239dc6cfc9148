use Rattle.std.proofs.Common.{◌∙◌, sym, ap, option_map, arith}
use Rattle.std.proofs.lemmas.List.{length-map, map_push}
use Rattle.std.proofs.lemmas.Option.{slice_get-map}
use Rattle.jv_types.specs.ClassData.{pool_of}
use Rattle.jv_types.specs.Code.{map_type_of, map_types_of}
use Rattle.code_reader.specs.Parts.{entry_type_of, entry_types_of}
use Rattle.code_reader.proofs.FrameLists.{known_more, unknown, all_known}
use Rattle.code_reader.proofs.frames.known_types.Goals as goal

pub returns-in_default : goal.returns-in_default
returns-in_default c =
    let types = c.args.types.now.items in
    sym (unknown (pool_of c.args.pool.now.items) (entry_types_of types) c.loop-index.index
    (map_types_of c.loop-index.known.items) (entry_type_of c.get.result.now)
    (slice_get-map entry_type_of types c.loop-index.index ∙ ap (option_map entry_type_of) c.get.ensures)
    c.in_default.ensures)
    ∙ c.loop-index.invariant

pub loop-index-preserved : goal.loop-index-preserved
loop-index-preserved c =
    let types = c.args.types.now.items in
    rw (c.in_ok-push.ensures.ok, map_push map_type_of c.loop-index.known.items c.in-Some.each)
    (sym (known_more (pool_of c.args.pool.now.items) (entry_types_of types) c.loop-index.index
    (map_types_of c.loop-index.known.items) (entry_type_of c.get.result.now)
    (slice_get-map entry_type_of types c.loop-index.index ∙ ap (option_map entry_type_of) c.get.ensures)
    (map_type_of c.in-Some.each) c.in-Some.ensures)
    ∙ c.loop-index.invariant)

pub returns : goal.returns
returns c =
    let types = c.args.types.now.items in
    sym (all_known (pool_of c.args.pool.now.items) (entry_types_of types) c.loop-index.index
    (map_types_of c.loop-index.known.items)
    (omega (arith, length-map types entry_type_of, c.len-index-end.ensures, c.loop-index-test.false)))
    ∙ c.loop-index.invariant
