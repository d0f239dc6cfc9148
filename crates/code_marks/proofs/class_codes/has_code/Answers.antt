use Rattle.std.proofs.Common.{◌≡◌, ◌<◌, false, Some, is_some, length, slice_get, option_and_then, ap, sym, subst, ◌∙◌}
use Rattle.world_model.specs.World.{Method}
use Rattle.class_world.specs.declared.class_info.Origin.{Origin}
use Rattle.code_marks.specs.Marks.{methods_in}
use Rattle.code_marks.proofs.Codes.{boot_code, read_code}
use Rattle.code_marks.proofs.class_codes.has_code.Goals as goal

pub returns-in-Boot : goal.returns-in-Boot
returns-in-Boot c =
    let inside = subst (λ (o : Origin). c.args.index < length (methods_in o)) c.in-Boot.is c.requires in
    subst (λ (o : Origin). (m : Method) × (slice_get (methods_in o) c.args.index ≡ Some m) × (false ≡ is_some m.code)) (sym c.in-Boot.is)
    (boot_code c.in-Boot.field-0 c.args.index inside)

pub returns-in-Program : goal.returns-in-Program
returns-in-Program c =
    let inside = subst (λ (o : Origin). c.args.index < length (methods_in o)) c.in-Program.is c.requires in
    let there = read_code c.in-Program.loaded c.args.index inside in
    let same : c.is_code.result ≡ is_some there.0.code =
    c.is_code.ensures ∙ ap (λ l. is_some (option_and_then (λ code. code) (slice_get l c.args.index))) c.as_slice.ensures ∙ there.2 in
    subst (λ (o : Origin). (m : Method) × (slice_get (methods_in o) c.args.index ≡ Some m) × (c.is_code.result ≡ is_some m.code)) (sym c.in-Program.is)
    (there.0, there.1, same)
