use Rattle.std.proofs.Common.{Some, refl, inl}
use Rattle.jv_model.specs.End.{all_ended}
use Rattle.jv_model.specs.Status.{ended}
use Rattle.run_model.specs.Headline.{whole, cut, starved}
use Rattle.jvolve_top.specs.Delivers.{texts_view}
use Rattle.jvolve_top.proofs.call.do_work.Goals as goal
use Rattle.jvolve_top.proofs.call.do_work.Goals.{in-Ok-deliver, in-Err-Failed, in-Err-NoMemory}

-- the run was made, and then written as far as the sinks and memory let it
pub returns : goal.returns
returns g c = λ words files. elim c.match-deliver.branch [
  | in-Ok-deliver w ↦
      rw w.status-is
      (inl (whole (texts_view c.in-Ok.product.texts) c.in-Ok.ensures w.in-Ok-deliver.ensures))
  | in-Err-Failed w ↦
      rw w.status-is
      (inl (cut (texts_view c.in-Ok.product.texts) (ended all_ended) c.in-Ok.ensures refl
      (rw w.in-Err-Failed.field-0-is at w.in-Err-Failed.ensures)))
  | in-Err-NoMemory w ↦
      rw w.status-is
      (inl (starved (texts_view c.in-Ok.product.texts) (Some (ended all_ended)) c.in-Ok.ensures
      refl
      (rw w.in-Err-NoMemory.field-0-is at w.in-Err-NoMemory.ensures)))
]
