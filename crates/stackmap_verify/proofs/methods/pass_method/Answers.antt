use Rattle.std.proofs.Common.{Option, Some, None, is_some, sym, subst, refl}
use Rattle.std.proofs.lemmas.Result.{err_from_is_err_and}
use Rattle.jv_model.specs.Refusal.{Cause}
use Rattle.link_model.specs.WorldOf.{class_of}
use Rattle.jv_types.specs.Loaded.{loaded_of}
use Rattle.linked_laws.proofs.Ground.{ground_is_there}
use Rattle.stackmap_verify.specs.Codes.{method_in}
use Rattle.stackmap_verify.specs.Outcome.{Tells}
use Rattle.stackmap_verify.specs.Passed.{PassesAs}
use Rattle.stackmap_verify.proofs.Members.{member_at, code_is_linked, failure_told, nothing_told}
use Rattle.stackmap_verify.proofs.MethodFrames.{keeps_nothing, keeps_typing}
use Rattle.stackmap_verify.proofs.methods.pass_method.Goals as goal

pub returns-in_default : goal.returns-in_default
returns-in_default g c =
    let loaded = c.args.loaded.now in
    let member = c.get-member.result.now in
    let method = method_in loaded member None in (
      method,
      member_at loaded c.args.index member None c.get-member.ensures c.in_default.ensures,
      (refl, keeps_nothing c.args.world.now (class_of (loaded_of loaded)) method c.args.kept refl c.requires.kept),
    )

pub pass_code-requires-clause-grounded : goal.pass_code-requires-clause-grounded
pass_code-requires-clause-grounded g c = ground_is_there c.args.world.now c.requires.world

pub pass_code-requires-clause-linked : goal.pass_code-requires-clause-linked
pass_code-requires-clause-linked g c =
    let loaded = c.args.loaded.now in
    let member = c.get-member.result.now in
    let body = c.in-Some.body.now in
    code_is_linked c.args.world.now loaded c.args.class.now c.args.index member body c.requires.world c.requires.class
    (member_at loaded c.args.index member (Some body) c.get-member.ensures c.in-Some.ensures)

pub returns-in_err-kept : goal.returns-in_err-kept
returns-in_err-kept g c =
    let member = c.get-member.result.now in
    let body = Some c.in-Some.body.now in
    let error = err_from_is_err_and c.from_residual.result c.from_residual.ensures.1 in (
      method_in c.args.loaded.now member body,
      member_at c.args.loaded.now c.args.index member body c.get-member.ensures c.in-Some.ensures,
      rw (error.1, error.2) tt,
    )

pub returns-in-Typed : goal.returns-in-Typed
returns-in-Typed g c =
    let w = c.args.world.now in
    let loaded = c.args.loaded.now in
    let member = c.get-member.result.now in
    let body = Some c.in-Some.body.now in
    let class = class_of (loaded_of loaded) in
    let method = method_in loaded member body in
    let passed = subst (PassesAs w class method (is_some c.args.kept)) c.in-Typed.is c.in_ok-kept.ensures in (
      method,
      member_at loaded c.args.index member body c.get-member.ensures c.in-Some.ensures,
      (nothing_told w class method (sym passed.0), keeps_typing w class method (is_some c.args.kept) c.in-Typed.kept refl passed.1),
    )

pub returns-in_err-not_verified-in-Breaks : goal.returns-in_err-not_verified-in-Breaks
returns-in_err-not_verified-in-Breaks g c =
    let member = c.get-member.result.now in
    let body = Some c.in-Some.body.now in
    let error = err_from_is_err_and c.from_residual-in_err-not_verified-in-Breaks.result
    c.from_residual-in_err-not_verified-in-Breaks.ensures.1 in (
      method_in c.args.loaded.now member body,
      member_at c.args.loaded.now c.args.index member body c.get-member.ensures c.in-Some.ensures,
      rw (error.1, error.2) tt,
    )

pub returns-in_ok-not_verified-in-Breaks : goal.returns-in_ok-not_verified-in-Breaks
returns-in_ok-not_verified-in-Breaks g c =
    let w = c.args.world.now in
    let loaded = c.args.loaded.now in
    let member = c.get-member.result.now in
    let body = Some c.in-Some.body.now in
    let place = c.in-Breaks.place in
    let passed = subst (PassesAs w (class_of (loaded_of loaded)) (method_in loaded member body) (is_some c.args.kept)) c.in-Breaks.is
    c.in_ok-kept.ensures in (
      method_in loaded member body,
      member_at loaded c.args.index member body c.get-member.ensures c.in-Some.ensures,
      subst (λ (o : Option Cause). Tells o c.in_ok-not_verified-in-Breaks.field-0)
          (failure_told w loaded c.args.class.now member body place c.requires.class.info.name (sym passed))
          c.in_ok-not_verified-in-Breaks.ensures,
    )
