use Rattle.std.proofs.Common.{◌≡◌, ◌∙◌, length, arith}
use Rattle.std.proofs.lemmas.Option.{slice_get_within}
use Rattle.use_faults.proofs.FinalNumbers.{no_rows, one_row_more}
use Rattle.use_faults.proofs.final_methods.FinalMethods.of.Goals as goal

pub loop-class-init : goal.loop-class-init
loop-class-init c =
    no_rows c.args.world.now.classes c.new-signatures.result.keys c.new-declared.result.items c.new-declared.ensures

pub loop-class-preserved : goal.loop-class-preserved
loop-class-preserved c =
    let told = c.in_ok-numbers_at.ensures in
    let row = told.numbers in
    one_row_more c.args.world.now.classes c.loop-class.signatures.keys c.numbers_at.new.signatures.keys c.loop-class.declared.items
    c.in_ok-numbers_at.field-0 c.push.new.self.items c.loop-class.class row.0 c.loop-class.invariant told.grows c.in_ok-push.ensures.ok row.1 row.2

pub returns : goal.returns
returns c =
    let classes = c.args.world.now.classes in
    let end : c.loop-class.class ≡ length classes = omega arith in
    record {
      count = c.loop-class.invariant.so_many ∙ end;
      each_class = λ k class there.
          let inside = slice_get_within classes k class there in
          c.loop-class.invariant.each_row k class (omega (arith, inside, end)) there;
    }
