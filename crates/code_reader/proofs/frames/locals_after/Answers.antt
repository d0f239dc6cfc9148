use Rattle.std.proofs.Common.{◌++◌, List, ℕ, take, ap, sym, ◌∙◌}
use Rattle.std.proofs.lemmas.List.{map-append, take-map}
use Rattle.jv_model.specs.Code.{MapType}
use Rattle.jv_types.specs.Code.{map_type_of, map_types_of}
use Rattle.code_reader.proofs.frames.locals_after.Goals as goal

pub returns : goal.returns
returns c =
    let kept = c.args.change.now.kept in
    let before = c.args.before.now.items in
    let more = c.args.change.now.locals.items in
    let first = c.cut.ensures.items ∙ ap (take kept) c.in_ok-locals.ensures in
    ap map_types_of c.in_ok-append.ensures.ok
    ∙ (λ i. map_types_of (first i ++ c.as_slice.ensures i))
    ∙ map-append map_type_of (take kept before) more
    ∙ ap (λ (front : List (MapType ℕ)). front ++ map_types_of more) (sym (take-map map_type_of kept before))
