use Rattle.std.proofs.Common.{◌≡◌, ◌++◌, ◌∷◌, [], Bool, true, false, not, List, Option, Some, None, if◌then◌else◌, rules, refl, ap, sym, ◌∙◌}
use Rattle.std.proofs.lemmas.Bool.{false≢true}
use Rattle.std.specs.List.{list_any}
use Rattle.std.specs.Option.{option_or}
use Rattle.jv_types.specs.declared.number.MethodNo.{MethodNo}
use Rattle.class_names.specs.declared.signatures.Signature.{Signature}
use Rattle.class_names.specs.Distinct.{same_signature}
use Rattle.selection_table.specs.Selection.{Selection, first_of, selected_in}
use Rattle.selection_table.proofs.Firsts.{kept, added}
use Rattle.selection_table.proofs.table.SelectionTable.add.Goals as goal

known : (any b : Bool) → b ≡ not any → b ≡ false → any ≡ true
known true b is off = refl
known false b is off = absurd (false≢true (sym off ∙ is))

unknown : (any b : Bool) → b ≡ not any → b ≡ true → any ≡ false
unknown false b is on = refl
unknown true b is on = absurd (false≢true (sym is ∙ on))

pub returns-then-not-is_new : goal.returns-then-not-is_new
returns-then-not-is_new c = record {
  ok = λ other.
      let it = c.self.inside in
      let off : c.in_ok-is_new.is_new ≡ false = search rules in
      let any : list_any (same_signature c.args.signature) it.signatures ≡ true = known _ _ c.in_ok-is_new.ensures.is_new off in
      let signatures : c.add.new.self ≡ it.signatures =
      c.in_ok-is_new.ensures.ok ∙ ap (λ (b : Bool). if b then it.signatures else it.signatures ++ c.args.signature ∷ []) any in
      let methods : c.reserve.new.self.items ≡ it.methods.items = c.reserve.ensures.items in
      (λ i. first_of (signatures i) (methods i) other)
      ∙ kept it.signatures it.methods.items c.args.signature c.args.method c.self.invariant any other
      ∙ ap (λ (t : Selection). option_or (selected_in t other) (if same_signature other c.args.signature then Some c.args.method else None)) c.self.view_is;
}

pub returns : goal.returns
returns c = record {
  ok = λ other.
      let it = c.self.inside in
      let on : c.in_ok-is_new.is_new ≡ true = search rules in
      let none : list_any (same_signature c.args.signature) it.signatures ≡ false = unknown _ _ c.in_ok-is_new.ensures.is_new on in
      let signatures : c.add.new.self ≡ it.signatures ++ c.args.signature ∷ [] =
      c.in_ok-is_new.ensures.ok ∙ ap (λ (b : Bool). if b then it.signatures else it.signatures ++ c.args.signature ∷ []) none in
      let methods : c.add-2.new.self.items ≡ it.methods.items ++ c.args.method ∷ [] =
      c.add-2.ensures.items ∙ ap (λ (l : List MethodNo). l ++ c.args.method ∷ []) c.reserve.ensures.items in
      added it.signatures it.methods.items c.args.signature c.args.method c.self.invariant c.add.new.self c.add-2.new.self.items signatures methods other
      ∙ ap (λ (t : Selection). option_or (selected_in t other) (if same_signature other c.args.signature then Some c.args.method else None)) c.self.view_is;
}
