use Rattle.std.proofs.Common.{◌++◌, ◌∙◌}
use Rattle.typing_model.specs.DescriptorFrame.{as_locals}
use Rattle.map_frames.proofs.Places.{parameters-named, parameter-places}
use Rattle.map_frames.proofs.frames.parameter_locals.Goals as goal

pub returns-clause-same : goal.returns-clause-same
returns-clause-same c = λ w e is has.
    let parameters = has.has_parameters.parameters in
    c.in_ok-push_parameters.ensures.same w
    ∙ (λ i. c.in_ok-locals.ensures.same w e is has i ++ as_locals (parameters-named w c.args.code.now.parameters.now e.type.parameters parameters i))
    ∙ parameter-places e
