-- Line by line.
use Rattle.std.proofs.Common.{◌≡◌, ℕ, ◌+◌, ◌∷◌, ◌++◌, [], List, drop, length, refl, subst, sym, ◌∙◌, ap, arith}
use Rattle.std.proofs.lemmas.List.{drop_all, map-append}
use Rattle.assembler_model.specs.AssemblerLines as lines
use Rattle.assembler_model.specs.CodeLines.{CodeLine, at_start, code_line, code_lines, place_after}
use Rattle.assembler_model.specs.CodeFaults.{LabelPlace, label_in, label_of, labels_of}
use Rattle.asm_lines.specs.NumberedLines.{numbered_of}
use Rattle.asm_parts.specs.Pools.{entries_in}
use Rattle.asm_parts.proofs.FaultLemmas.{items_left}
use Rattle.asm_pool.specs.Needs.{numbered_lines}
use Rattle.asm_code.specs.Labels.{labels_in, with_label_if_any}
use Rattle.asm_code.specs.Places.{code_line_of, lines_of, place_of, SamePlace}
use Rattle.asm_code.proofs.LabelLemmas.{same_next, same_none}
use Rattle.asm_code.proofs.PlaceLemmas.{labels_next, labels_none, lines_next, lines_end}
use Rattle.asm_code.proofs.lines.read_code.Goals as goal

pub loop-line-init : goal.loop-line-init
loop-line-init c =
    let empty : c.new.result.entries ≡ [] = c.new.ensures.empty in
    record {
      lines = rw (empty, c.new-placed.ensures) refl;
      labels = λ label. rw (empty, c.new-placed.ensures) (ap (λ (found : List LabelPlace). label_in found label) (sym labels_none));
    }

pub loop-line-preserved : goal.loop-line-preserved
loop-line-preserved c =
    let at = c.loop-line.line-index in
    let entries = entries_in c.args.pool.now in
    let line = numbered_of c.line-item.result in
    let place = place_of c.loop-line.place in
    let next = place_of c.go_on.new.place in
    let so_far = lines_of c.loop-line.placed.items in
    let all = code_lines entries at_start (numbered_lines c.args.lines.now) in
    let here = code_line entries place line in
    let rest = numbered_lines (drop (at + 1) c.args.lines.now) in
    let left = items_left c.args.lines.now at c.line-item.result (omega arith) c.line-item.is in
    let is : code_line_of c.code_line-here.result ≡ here = c.code_line-here.ensures in
    let added : lines_of c.push.new.self.items ≡ so_far ++ here ∷ [] =
    ap lines_of c.in_ok-push.ensures.ok ∙ map-append code_line_of c.loop-line.placed.items (c.code_line-here.result ∷ [])
    ∙ ap (λ last. so_far ++ last ∷ []) is in
    let same : SamePlace next (place_after entries place here) =
    subst (λ (here : CodeLine). SamePlace next (place_after entries place here)) is c.in_ok-go_on.ensures.place in
    let before : so_far ++ code_lines entries place (line ∷ rest) ≡ all =
    ap (λ left. so_far ++ code_lines entries place (numbered_lines left)) (sym left) ∙ c.loop-line.invariant.lines in
    let labels : labels_in c.go_on.new.place.labels.entries
    ≡ with_label_if_any (labels_in c.loop-line.place.labels.entries) (label_of place.pc line.said) =
    c.in_ok-go_on.ensures.labels
    ∙ ap (λ (here : CodeLine). with_label_if_any (labels_in c.loop-line.place.labels.entries) (label_of place.pc here.line.said)) is in
    let more = same_next (labels_in c.loop-line.place.labels.entries) (labels_of so_far) (label_of place.pc line.said)
    c.loop-line.invariant.labels in
    record {
      lines = ap (λ items. items ++ code_lines entries next rest) added
          ∙ lines_next entries so_far all place next line rest before same;
      labels = λ label. ap (λ (found : List LabelPlace). label_in found label) labels ∙ more label
          ∙ ap (λ (found : List LabelPlace). label_in found label) (sym (labels_next so_far here) ∙ ap labels_of (sym added));
    }

pub returns-clause-lines : goal.returns-clause-lines
returns-clause-lines c =
    let entries = entries_in c.args.pool.now in
    let all = code_lines entries at_start (numbered_lines c.args.lines.now) in
    let none = drop_all c.loop-line.line-index c.args.lines.now (omega arith) in
    lines_end entries (lines_of c.loop-line.placed.items) all (place_of c.loop-line.place)
    (ap (λ left. lines_of c.loop-line.placed.items ++ code_lines entries (place_of c.loop-line.place) (numbered_lines left)) (sym none)
    ∙ c.loop-line.invariant.lines)
