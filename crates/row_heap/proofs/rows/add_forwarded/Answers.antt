use Rattle.std.proofs.Common.{◌≡◌, ℕ, ◌+◌, ◌-◌, List, [], ◌∷◌, ◌++◌, length, take, get_or, sym, ap, ◌∙◌, arith, rules, append_assoc}
use Rattle.heap_face.specs.Collection.{refers_at}
use Rattle.row_heap.specs.Forwards.{forwarded, forwarded_word}
use Rattle.row_heap.proofs.Forwarding.{forwarded_more, word_stays, null_stays, word_moves}
use Rattle.row_heap.proofs.rows.add_forwarded.Goals as goal
use Rattle.row_heap.proofs.rows.add_forwarded.Goals.{then-word-ne0+then-refers_at, else-word-ne0, else-word-ne0-via-then-word-ne0+else-refers_at, else-word-ne0-via-else-word-ne0}

pub loop-at-preserved : goal.loop-at-preserved
loop-at-preserved c =
    let refers = refers_at c.args.layouts.now c.args.shape in
    let word : c.if-word-ne0.word ≡ forwarded_word c.args.forwards.now (refers c.loop-at.at) (get_or c.args.contents.now c.loop-at.at 0) = elim c.if-word-ne0.branch [
      | then-word-ne0+then-refers_at w ↦
          w.word-is ∙ (let from : w.from-word.result ≡ get_or c.args.forwards.now (get_or c.args.contents.now c.loop-at.at 0 - 1) 0 = search rules in from) ∙ sym (word_moves c.args.forwards.now (refers c.loop-at.at) (get_or c.args.contents.now c.loop-at.at 0) (sym w.refers_at.ensures ∙ w.if-refers_at.true) w.if-word-ne0.true)
      | else-word-ne0 w ↦ w.word-is ∙ sym (elim w.else-word-ne0.branch [
        | else-word-ne0-via-then-word-ne0+else-refers_at v ↦ word_stays c.args.forwards.now (refers c.loop-at.at) (get_or c.args.contents.now c.loop-at.at 0) (sym v.refers_at.ensures ∙ v.if-refers_at.false)
        | else-word-ne0-via-else-word-ne0 v ↦ null_stays c.args.forwards.now (refers c.loop-at.at) (get_or c.args.contents.now c.loop-at.at 0) v.if-word-ne0.false
      ])
    ] in
    let front = forwarded c.args.forwards.now refers 0 (take c.loop-at.at c.args.contents.now) in (
      c.add.ensures.items ∙ ap (λ (list : List ℕ). list ++ c.if-word-ne0.word ∷ []) c.loop-at.invariant.0
          ∙ append_assoc c.args.words.now.items front (c.if-word-ne0.word ∷ [])
          ∙ ap (λ (n : ℕ). c.args.words.now.items ++ (front ++ n ∷ [])) word
          ∙ ap (λ (list : List ℕ). c.args.words.now.items ++ list) (sym (forwarded_more c.args.forwards.now refers c.args.contents.now c.loop-at.at c.loop-at-test.true)),
      omega (arith, c.add.ensures.spare, c.loop-at.invariant.1),
    )
