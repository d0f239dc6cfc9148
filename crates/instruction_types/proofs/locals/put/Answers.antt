use Rattle.std.proofs.Common.{◌≡◌, ◌+◌, ℕ, suc, List, Some, length, slice_set, option_map, sym, subst, ap, ◌∙◌, arith}
use Rattle.std.proofs.lemmas.List.{length-set}
use Rattle.std.proofs.lemmas.List.Elements.{All-set}
use Rattle.std.proofs.lemmas.Option.{slice_get_within}
use Rattle.typing_model.specs.VerificationType as model
use Rattle.typing_model.specs.VerificationType.{TypeFrame}
use Rattle.type_rules.specs.declared.types.VerificationType.{VerificationType}
use Rattle.type_rules.specs.declared.types.VerificationType.TheVariants.{Top}
use Rattle.type_rules.specs.Types.{IsKnownType}
use Rattle.type_rules.specs.Frames.{Types, types_of, frame_of, IsKnownFrame}
use Rattle.instruction_types.specs.Locals.{before_cut}
use Rattle.instruction_types.proofs.Puts.{placed, more, placed-short, more-short, past_from_none, length-before_cut, before_cut-known, put-none, put-there}
use Rattle.instruction_types.proofs.locals.put.Goals as goal

pub returns-in_default-clause-typed : goal.returns-in_default-clause-typed
returns-in_default-clause-typed c = λ w.
    let old = c.args.frame.now in
    let with : List model.VerificationType → TypeFrame = λ (locals : List model.VerificationType). record { locals = locals; stack = types_of w old.stack } in
    let past = past_from_none old.locals c.from-number.result (sym c.local.ensures ∙ c.in_default.is) in
    ap (option_map with) (put-none w c.args.stored c.args.local old.locals (omega (arith, past, c.from-number.ensures)))

pub set_local-requires : goal.set_local-requires
set_local-requires c =
    let old = c.args.frame.now in
    let inside = slice_get_within old.locals c.from-number.result c.in-Some.field-0 (sym c.local.ensures ∙ c.in-Some.is) in
    omega (arith, inside, ap (λ (t : Types). length t.locals) c.cut_before.ensures, length-before_cut c.from-number.result old.locals)

pub returns-in_default-stored : goal.returns-in_default-stored
returns-in_default-stored c =
    let old = c.args.frame.now in
    let local = c.args.local in
    let type = c.args.stored in
    let cut = before_cut local old.locals in
    let set : ℕ → Types → Types = λ (k : ℕ) (t : Types). record { locals = slice_set t.locals k type; stack = t.stack } in
    let made : ℕ → Types = λ (k : ℕ). record { locals = slice_set (before_cut k old.locals) k type; stack = old.stack } in
    let new-is = c.set_local.ensures ∙ ap (set c.from-number.result) c.cut_before.ensures ∙ ap made c.from-number.ensures in
    let inside = slice_get_within old.locals c.from-number.result c.in-Some.field-0 (sym c.local.ensures ∙ c.in-Some.is) in
    record {
      typed = λ w.
          let with : List model.VerificationType → TypeFrame = λ (locals : List model.VerificationType). record { locals = locals; stack = types_of w old.stack } in
          ap (option_map with) (put-there w type local old.locals (omega (arith, inside, c.from-number.ensures, more-short type c.in_default-stored.not-Long)))
          ∙ ap (λ (ls : List VerificationType). Some (with (types_of w ls))) (placed-short type local cut c.in_default-stored.not-Long)
          ∙ ap (λ (t : Types). Some (frame_of w t)) (sym new-is);
      known = λ w known type_known.
          subst (IsKnownFrame w) (sym new-is) (record {
            locals = All-set (IsKnownType w) cut local type type_known (before_cut-known w local old.locals known.locals);
            stack = known.stack;
          });
    }

pub returns-in_default-local-clause-typed : goal.returns-in_default-local-clause-typed
returns-in_default-local-clause-typed c = λ w.
    let old = c.args.frame.now in
    let n = c.from-number.result in
    let with : List model.VerificationType → TypeFrame = λ (locals : List model.VerificationType). record { locals = locals; stack = types_of w old.stack } in
    let past = past_from_none c.set_local.new.self.locals (n + 1) (sym c.local-2.ensures ∙ c.in_default-local.is) in
    let long = ap (λ (t : Types). length t.locals) c.set_local.ensures ∙ length-set c.cut_before.new.frame.locals n c.args.stored
    ∙ ap (λ (t : Types). length t.locals) c.cut_before.ensures ∙ length-before_cut n old.locals in
    ap (option_map with) (put-none w c.args.stored c.args.local old.locals (omega (arith, past, long, c.from-number.ensures, ap more c.in-Long.is)))

pub set_local-requires-2 : goal.set_local-requires-2
set_local-requires-2 c =
    slice_get_within c.set_local.new.self.locals (c.from-number.result + 1) c.in-Some-local.field-0 (sym c.local-2.ensures ∙ c.in-Some-local.is)

pub returns-clause-typed : goal.returns-clause-typed
returns-clause-typed c = λ w.
    let old = c.args.frame.now in
    let local = c.args.local in
    let type = c.args.stored in
    let n = c.from-number.result in
    let cut = before_cut local old.locals in
    let with : List model.VerificationType → TypeFrame = λ (locals : List model.VerificationType). record { locals = locals; stack = types_of w old.stack } in
    let set : ℕ → VerificationType → Types → Types = λ (k : ℕ) (v : VerificationType) (t : Types). record { locals = slice_set t.locals k v; stack = t.stack } in
    let made : ℕ → Types = λ (k : ℕ). record { locals = slice_set (before_cut k old.locals) k type; stack = old.stack } in
    let new-is = c.set_local.ensures ∙ ap (set n type) c.cut_before.ensures ∙ ap made c.from-number.ensures in
    let next : n + 1 ≡ suc local = omega (arith, c.from-number.ensures) in
    let last-is = c.set_local-2.ensures ∙ ap (set (n + 1) Top) new-is ∙ ap (λ (k : ℕ). set k Top (made local)) next in
    let inside = slice_get_within c.set_local.new.self.locals (n + 1) c.in-Some-local.field-0 (sym c.local-2.ensures ∙ c.in-Some-local.is) in
    let long = ap (λ (t : Types). length t.locals) new-is ∙ length-set cut local type ∙ length-before_cut local old.locals in
    ap (option_map with) (put-there w type local old.locals (omega (arith, inside, long, c.from-number.ensures, ap more c.in-Long.is)))
    ∙ ap (λ (v : VerificationType). Some (with (types_of w (placed v local cut)))) c.in-Long.is
    ∙ ap (λ (v : VerificationType). Some (with (types_of w (slice_set (slice_set cut local v) (suc local) Top)))) (sym c.in-Long.is)
    ∙ ap (λ (t : Types). Some (frame_of w t)) (sym last-is)

pub returns-clause-known : goal.returns-clause-known
returns-clause-known c = λ w known type_known.
    let old = c.args.frame.now in
    let n = c.from-number.result in
    let type = c.args.stored in
    let cut = before_cut n old.locals in
    let set : ℕ → VerificationType → Types → Types = λ (k : ℕ) (v : VerificationType) (t : Types). record { locals = slice_set t.locals k v; stack = t.stack } in
    let new-is = c.set_local-2.ensures ∙ ap (set (n + 1) Top) (c.set_local.ensures ∙ ap (set n type) c.cut_before.ensures) in
    subst (IsKnownFrame w) (sym new-is) (record {
      locals = All-set (IsKnownType w) (slice_set cut n type) (n + 1) Top tt
          (All-set (IsKnownType w) cut n type type_known (before_cut-known w n old.locals known.locals));
      stack = known.stack;
    })
