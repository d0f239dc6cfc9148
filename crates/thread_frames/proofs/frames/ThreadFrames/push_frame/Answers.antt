use Rattle.std.proofs.Common.{◌≡◌, ℕ, ◌+◌, ◌-◌, ◌≤◌, List, [], ◌∷◌, ◌++◌, length, take, drop, sym, ap, ◌∙◌, subst, arith}
use Rattle.std.specs.Prelude.{pos, replicate}
use Rattle.std.proofs.lemmas.List.{length-append}
use Rattle.jv_values.specs.declared.value.Value.{Value}
use Rattle.jv_values.specs.declared.value.Value.TheVariants.{Int}
use Rattle.thread_frames.specs.Splices.{spliced}
use Rattle.thread_frames.specs.declared.frames.Row.{Row}
use Rattle.thread_frames.specs.Frames.{FrameState, words_in}
use Rattle.thread_frames.specs.Laid.{frames_in, all_words, LaidFrom}
use Rattle.thread_frames.proofs.SpliceLemmas.{length-spliced}
use Rattle.thread_frames.proofs.FrameLemmas.{length-frames_in, words_in-frames_in, pushed, laid_pushed, words_pushed}
use Rattle.thread_frames.proofs.StateLemmas.{begun}
use Rattle.thread_frames.proofs.frames.ThreadFrames.push_frame.Goals as goal

pub put-requires : goal.put-requires
put-requires c =
    let it = c.self.inside in
    let are = c.self.invariant in
    let base = c.end_of-base.result in
    let args = c.args.args.now in
    let count = c.from-locals.result in
    let words : all_words it.rows.items ≤ length it.words = omega (arith, are.room, are.words) in
    let all = sym (words_in-frames_in it.words it.rows.items are.laid words) ∙ ap words_in c.self.view_is in
    let most : base + count ≤ length it.words = omega (arith, c.end_of-base.ensures, all, c.requires.words, are.words, c.from-locals.ensures) in
    let few : length args ≤ count = omega (arith, c.requires.args, c.from-locals.ensures) in
    omega (arith, most, few)

pub fill-requires : goal.fill-requires
fill-requires c =
    let it = c.self.inside in
    let are = c.self.invariant in
    let base = c.end_of-base.result in
    let args = c.args.args.now in
    let count = c.from-locals.result in
    let words : all_words it.rows.items ≤ length it.words = omega (arith, are.room, are.words) in
    let all = sym (words_in-frames_in it.words it.rows.items are.laid words) ∙ ap words_in c.self.view_is in
    let most : base + count ≤ length it.words = omega (arith, c.end_of-base.ensures, all, c.requires.words, are.words, c.from-locals.ensures) in
    let few : length args ≤ count = omega (arith, c.requires.args, c.from-locals.ensures) in
    let only = length-spliced base args it.words (omega (arith, most, few)) in
    omega (arith, most, few, ap length c.put.ensures, only)

pub invariant_of-self : goal.invariant_of-self
invariant_of-self c =
    let it = c.self.inside in
    let are = c.self.invariant in
    let base = c.end_of-base.result in
    let args = c.args.args.now in
    let count = c.from-locals.result in
    let words : all_words it.rows.items ≤ length it.words = omega (arith, are.room, are.words) in
    let all = sym (words_in-frames_in it.words it.rows.items are.laid words) ∙ ap words_in c.self.view_is in
    let most : base + count ≤ length it.words = omega (arith, c.end_of-base.ensures, all, c.requires.words, are.words, c.from-locals.ensures) in
    let few : length args ≤ count = omega (arith, c.requires.args, c.from-locals.ensures) in
    let first = begun base count it.words args (Int (pos 0)) few most in
    let after = c.fill.ensures ∙ ap (λ ws. spliced (base + length args) (replicate (count - length args) (Int (pos 0))) ws) c.put.ensures in
    let row : Row = record { code = c.args.code; method = c.args.method; pc = record { 0 = 0 }; held = c.args.held; base = base; locals = count; depth = 0; max_stack = c.from.result } in
    let items = c.add.ensures.items in
    let more = length-append it.rows.items (row ∷ []) in
    record {
      laid = subst (LaidFrom 0) (sym items) (laid_pushed 0 it.rows.items row are.laid (omega (arith, c.end_of-base.ensures)) (omega arith));
      words = ap length after ∙ first.long ∙ are.words;
      room = omega (arith, ap all_words items, words_pushed it.rows.items row, all, c.requires.words, c.from-locals.ensures, c.from.ensures);
      few = omega (arith, ap length items, more, c.requires.few, ap length c.self.view_is, length-frames_in it.words it.rows.items);
      rows = omega (arith, ap length items, more, c.add.ensures.spare, are.rows);
    }

pub returns : goal.returns
returns c =
    let it = c.self.inside in
    let are = c.self.invariant in
    let base = c.end_of-base.result in
    let args = c.args.args.now in
    let count = c.from-locals.result in
    let words : all_words it.rows.items ≤ length it.words = omega (arith, are.room, are.words) in
    let all = sym (words_in-frames_in it.words it.rows.items are.laid words) ∙ ap words_in c.self.view_is in
    let most : base + count ≤ length it.words = omega (arith, c.end_of-base.ensures, all, c.requires.words, are.words, c.from-locals.ensures) in
    let few : length args ≤ count = omega (arith, c.requires.args, c.from-locals.ensures) in
    let first = begun base count it.words args (Int (pos 0)) few most in
    let after = c.fill.ensures ∙ ap (λ ws. spliced (base + length args) (replicate (count - length args) (Int (pos 0))) ws) c.put.ensures in
    let row : Row = record { code = c.args.code; method = c.args.method; pc = record { 0 = 0 }; held = c.args.held; base = base; locals = count; depth = 0; max_stack = c.from.result } in
    let new = c.fill.new.self in
    let same : take (all_words it.rows.items) new ≡ take (all_words it.rows.items) it.words =
    subst (λ (n : ℕ). take n new ≡ take n it.words) c.end_of-base.ensures (ap (take base) after ∙ first.front) in
    let locals : take count (drop base new) ≡ args ++ replicate (count - length args) (Int (pos 0)) =
    ap (λ ws. take count (drop base ws)) after ∙ first.locals in
    let fresh : List Value → ℕ → FrameState = λ its most. record { code = c.args.code; method = c.args.method; pc = 0; held = c.args.held; locals = its; stack = []; max_stack = most } in
    ap (frames_in new) c.add.ensures.items
    ∙ pushed it.rows.items row new it.words are.laid same
    ∙ ap (λ its. fresh its c.from.result ∷ frames_in it.words it.rows.items) (locals ∙ ap (λ n. args ++ replicate (n - length args) (Int (pos 0))) c.from-locals.ensures)
    ∙ ap (λ most. fresh (args ++ replicate (c.args.max_locals - length args) (Int (pos 0))) most ∷ frames_in it.words it.rows.items) c.from.ensures
    ∙ ap (λ frames. fresh (args ++ replicate (c.args.max_locals - length args) (Int (pos 0))) c.args.max_stack ∷ frames) c.self.view_is
