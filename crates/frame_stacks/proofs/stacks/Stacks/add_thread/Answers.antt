use Rattle.std.proofs.Common.{◌<◌, List, [], ◌∷◌, ◌++◌, true, ap, ◌∙◌, arith, inl, inr}
use Rattle.std.specs.Prelude.{vec_len}
use Rattle.jv_types.specs.declared.number.MethodNo.{MethodNo}
use Rattle.frame_stacks.specs.declared.thread.Thread.{Thread}
use Rattle.frame_stacks.specs.Threads.{Threads}
use Rattle.frame_stacks.proofs.ThreadLemmas.{next_unused, kept_more, added, counts}
use Rattle.frame_stacks.proofs.stacks.Stacks.add_thread.Goals as goal

pub overflow_add-self : goal.overflow_add-self
overflow_add-self c = omega (arith, c.self.invariant.most)

pub invariant_of-self : goal.invariant_of-self
invariant_of-self c =
    let it = c.self.inside in
    let count = counts it c.args.self.now c.self.invariant c.self.view_is in
    let room = ap (λ (ts : Threads). ts.room) c.self.view_is in
    let few : it.count < 64 = omega (arith, c.self.invariant.most, c.if-self-eq-MOST_THREADS.false) in
    let more : it.count < vec_len it.threads = elim c.requires [ inl full ↦ absurd (omega (arith, full, count, few)) | inr h ↦ omega (arith, h, count, room) ] in
    kept_more it _ c.self.invariant more few

pub returns-clause-added : goal.returns-clause-added
returns-clause-added c =
    let it = c.self.inside in
    let count = counts it c.args.self.now c.self.invariant c.self.view_is in
    let room = ap (λ (ts : Threads). ts.room) c.self.view_is in
    let few : it.count < 64 = omega (arith, c.self.invariant.most, c.if-self-eq-MOST_THREADS.false) in
    let more : it.count < vec_len it.threads = elim c.requires [ inl full ↦ absurd (omega (arith, full, count, few)) | inr h ↦ omega (arith, h, count, room) ] in
    let thread = c.index_mut-thread.result.now in
    let old = next_unused it thread c.self.invariant more c.index_mut-thread.ensures.value in
    let become : Thread → List MethodNo → Thread = λ its starts. record its { to_start = starts; mark = true } in
    added it c.args.self.now (become thread c.set.new.self) c.self.invariant c.self.view_is more
    ∙ ap (λ its. let now : Threads = record { threads = c.args.self.now.threads ++ its ∷ []; room = c.args.self.now.room } in now)
    (ap (λ starts. become thread starts) c.set.ensures ∙ ap (λ its. become its (c.args.first ∷ [])) old)
