use Rattle.std.proofs.Common.{◌≡◌, ◌++◌, ◌∷◌, [], ℕ, List, length, ap, ◌∙◌, arith}
use Rattle.std.proofs.lemmas.List.{take_all}
use Rattle.jv_types.specs.declared.number.MethodNo.{MethodNo}
use Rattle.class_versions.specs.Slots.{methods_to, row_of}
use Rattle.class_versions.proofs.Counting.{is_there, next_method, next_signature}
use Rattle.class_versions.proofs.slots.add_class.Goals as goal

pub signature-requires : goal.signature-requires
signature-requires c =
    is_there c.args.signatures.now c.args.class c.requires c.loop-index.index (omega (arith, c.methods-count.ensures))

pub loop-index-preserved : goal.loop-index-preserved
loop-index-preserved c =
    let here : MethodNo = record { class = c.args.class; index = c.loop-index.index } in
    record {
      methods = next_method c.args.class c.loop-index.index c.args.methods.now.items _
          (c.in_ok-push.ensures.ok ∙ ap (λ (l : List MethodNo). l ++ here ∷ []) c.loop-index.invariant.methods);
      numbers = next_signature c.args.signatures.now c.args.class c.requires c.loop-index.index c.signature.result
          c.args.numbers.now.items _ (omega (arith, c.methods-count.ensures)) c.signature.ensures
          (c.in_ok-push-2.ensures.ok ∙ ap (λ (l : List ℕ). l ++ c.signature.result ∷ []) c.loop-index.invariant.numbers);
    }

pub returns : goal.returns
returns c =
    let row = row_of c.args.signatures.now c.args.class.0 in
    let last : c.loop-index.index ≡ length row = omega (arith, c.methods-count.ensures) in
    record {
      count = c.methods-count.ensures;
      methods = c.loop-index.invariant.methods ∙ ap (λ (n : ℕ). c.args.methods.now.items ++ methods_to c.args.class n) last;
      numbers = c.loop-index.invariant.numbers
          ∙ ap (λ (l : List ℕ). c.args.numbers.now.items ++ l) (take_all c.loop-index.index row (omega arith));
    }
