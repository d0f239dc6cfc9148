use Rattle.std.proofs.Common.{arith, ◌∙◌, ◌≡◌, take, drop}
use Rattle.jv_model.specs.Outside.{followed_by}
use Rattle.jv_outer.proofs.Pieces.{one_more}
use Rattle.jv_outer.proofs.sink.write_all.Goals as goal

pub loop-written-preserved : goal.loop-written-preserved
loop-written-preserved g c =
    let sink = g.S.Sink in
    let text = c.args.text.now in
    let before = sink.bytes c.loop-written.sink in
    let now = sink.bytes c.write.new.self in
    let written = c.loop-written.written in
    let count = c.in_ok-written.field-0 in
    let taken : now ≡ followed_by before (take count (drop written text)) =
    rw (← c.split_at.ensures.back) c.in_ok-written.ensures.taken in
    let some = c.in_ok-written.ensures.some (omega (arith, c.split_at.ensures.back_len)) in
    let one_more_write = c.write.ensures.writes (omega (arith, c.split_at.ensures.back_len)) in
    record {
      within = omega (arith, c.in_ok-written.ensures.part, c.split_at.ensures.back_len);
      got =
          one_more (sink.bytes c.args.sink.now) before now text written count
          c.loop-written.invariant.got taken;
      untouched = λ none. absurd (omega (arith, none, some));
      not_fewer = omega (arith, one_more_write, c.loop-written.invariant.not_fewer);
      given = λ any. omega (arith, one_more_write, c.loop-written.invariant.not_fewer);
      still = c.in_ok-written.ensures.cause.ok ∙ c.loop-written.invariant.still;
    }
