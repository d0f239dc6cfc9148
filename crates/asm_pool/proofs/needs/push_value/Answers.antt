-- The name of the attribute, and the constant.
use Rattle.std.proofs.Common.{◌≡◌, ◌++◌, [], ◌∷◌, refl, ap, sym, ◌∙◌}
use Rattle.std.specs.Prelude.{codes}
use Rattle.std.proofs.lemmas.Result.{IfOk-equal}
use Rattle.assembler_model.specs.PoolEntries.{text_entry}
use Rattle.assembler_model.specs.PoolNeeds.{needs_at, value_entries}
use Rattle.asm_lines.specs.Terms.{value_of}
use Rattle.asm_parts.specs.Entries.{entry_of}
use Rattle.asm_pool.specs.Needs.{needs_of}
use Rattle.asm_pool.proofs.NeedLemmas.{constant_value, pushed}
use Rattle.asm_pool.proofs.needs.push_value.Goals as goal

pub returns : goal.returns
returns c =
    let old = needs_of c.args.needs.now.items in
    let line = c.args.line in
    let name = text_entry (codes "ConstantValue") in
    let once : needs_of c.push.new.needs.items ≡ old ++ needs_at line (name ∷ []) =
    c.in_ok-push.ensures ∙ ap (λ name. old ++ needs_at line (text_entry name ∷ [])) constant_value in
    IfOk-equal c.push-2.result _ _ _ c.push-2.ensures
    (pushed line old (needs_of c.push.new.needs.items) _ (name ∷ []) (entry_of c.constant_entry.result ∷ []) once refl
    ∙ ap (λ entry. old ++ needs_at line (name ∷ entry ∷ [])) c.constant_entry.ensures
    ∙ ap (λ value. old ++ needs_at line (value_entries (value_of value))) (sym c.in-Some.is))
