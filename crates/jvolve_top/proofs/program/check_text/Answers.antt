use Rattle.std.proofs.Common.{sym, ◌∙◌}
use Rattle.std.proofs.lemmas.List.{length-map}
use Rattle.jv_types.specs.Loaded.{loaded_of}
use Rattle.class_loader.specs.Items.{classes_in}
use Rattle.jvolve_top.proofs.ProgramLemmas.{text_is}
use Rattle.jvolve_top.proofs.program.check_text.Goals as goal

pub returns : goal.returns
returns c =
    let verified = c.args.verified.now in
    text_is (classes_in verified.classes) verified.has_updates c.len.result
    c.in_ok-line.line.items c.if-verified.false
    (c.len.ensures ∙ sym (length-map verified.classes.items loaded_of)) c.in_ok-line.ensures
