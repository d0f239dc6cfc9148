-- The name of the attribute, and the types of both lists.
use Rattle.std.proofs.Common.{◌≡◌, ◌++◌, [], ◌∷◌, Ok, refl, ap, sym, ◌∙◌}
use Rattle.std.specs.Prelude.{codes, flat_map}
use Rattle.std.proofs.lemmas.Result.{IfOk-equal}
use Rattle.assembler_model.specs.PoolEntries.{text_entry}
use Rattle.assembler_model.specs.PoolNeeds.{frame_entries, needs_at, type_entries}
use Rattle.asm_lines.specs.Terms.{line_of}
use Rattle.asm_pool.specs.Needs.{needs_of, types_of}
use Rattle.asm_pool.proofs.NeedLemmas.{map_name, pushed}
use Rattle.asm_pool.proofs.needs.push_frame.Goals as goal

pub returns : goal.returns
returns c =
    let old = needs_of c.args.needs.now.items in
    let line = c.args.line in
    let name = text_entry (codes "StackMapTable") in
    let locals = flat_map type_entries (types_of c.as_slice.result.now) in
    let stack = flat_map type_entries (types_of c.as_slice-2.result.now) in
    let once : needs_of c.push.new.needs.items ≡ old ++ needs_at line (name ∷ []) =
    c.in_ok-push.ensures ∙ ap (λ name. old ++ needs_at line (text_entry name ∷ [])) map_name in
    let twice = pushed line old (needs_of c.push.new.needs.items) (needs_of c.push_types.new.needs.items) (name ∷ []) locals
    once c.in_ok-push_types.ensures in
    IfOk-equal c.push_types-2.result _ _ _ c.push_types-2.ensures
    (pushed line old (needs_of c.push_types.new.needs.items) _ (name ∷ locals) stack twice refl
    ∙ ap (λ types. old ++ needs_at line (name ∷ flat_map type_entries (types_of types) ++ stack)) c.as_slice.ensures
    ∙ ap (λ types. old ++ needs_at line (name ∷ flat_map type_entries (types_of c.in-Frame.locals.items) ++ flat_map type_entries (types_of types)))
    c.as_slice-2.ensures
    ∙ ap (λ said. old ++ needs_at line (frame_entries (Ok (line_of said)))) (sym c.in-Frame.is))
