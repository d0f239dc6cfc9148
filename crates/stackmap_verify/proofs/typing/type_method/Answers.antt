use Rattle.std.proofs.lemmas.Result.{err_from_is_err_and}
use Rattle.link_model.specs.WorldOf.{class_of}
use Rattle.jv_types.specs.Loaded.{loaded_of}
use Rattle.stackmap_verify.proofs.MethodFrames.{frames_kept, place_told}
use Rattle.stackmap_verify.proofs.typing.type_method.Goals as goal

pub returns-in_err-kept : goal.returns-in_err-kept
returns-in_err-kept g c =
    let class = class_of (loaded_of c.args.loaded.now) in
    let told = c.in_err-kept.ensures in
    let error = err_from_is_err_and c.from_residual.result c.from_residual.ensures.1 in
    (told.0, told.1, rw (error.1, error.2) (place_told c.args.world.now class told.0 c.in_err-kept.field-0.0 told.2))

pub returns : goal.returns
returns g c =
    let class = class_of (loaded_of c.args.loaded.now) in
    let told = c.in_ok-kept.ensures in (
      told.0,
      told.1,
      frames_kept c.args.world.now class told.0 c.frames-kept.result c.in_ok-kept.kept c.into_frames.result.items c.frames-kept.ensures told.2.1
          c.into_frames.ensures,
    )
