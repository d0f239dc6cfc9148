use Rattle.std.proofs.Common.{◌&&◌, Bool, ap, refl}
use Rattle.jv_types.specs.ClassData.{member_of, pool_of}
use Rattle.class_world.proofs.Places.{stands_inside}
use Rattle.use_faults.specs.Wrong.{declares_final}
use Rattle.use_faults.proofs.FinalNumbers.{adds_none, adds_one, and_false}
use Rattle.use_faults.proofs.final_methods.push_final.Goals as goal
use Rattle.use_faults.proofs.final_methods.push_final.Goals.{then-not-has_flag-via-then-not-has_flag, then-not-has_flag-via-else-not-has_flag+then-not-declares_final}

pub returns-then-not-has_flag : goal.returns-then-not-has_flag
returns-then-not-has_flag c =
    elim c.then-not-has_flag.branch [
      | then-not-has_flag-via-then-not-has_flag w ↦
          let there = stands_inside c.args.world.now.classes c.args.class.0 c.requires in
          let declares = declares_final c.text_at-name.result.now c.text_at-descriptor.result.now there.0 in (
            there.0,
            there.1,
            adds_none there.0 (pool_of c.args.pool.now) (member_of c.args.method.now) c.args.signatures.now.keys c.args.numbers.now.items
                c.has_flag.result declares c.text_at-name.result.now c.text_at-descriptor.result.now
                c.text_at-name.ensures c.text_at-descriptor.ensures c.has_flag.ensures refl
                (ap (λ (b : Bool). b && declares) w.if-not-has_flag.true),
          )
      | then-not-has_flag-via-else-not-has_flag+then-not-declares_final w ↦
          let told = w.declares_final.ensures in (
            told.0,
            told.1,
            adds_none told.0 (pool_of c.args.pool.now) (member_of c.args.method.now) c.args.signatures.now.keys c.args.numbers.now.items
                c.has_flag.result w.declares_final.result c.text_at-name.result.now c.text_at-descriptor.result.now
                c.text_at-name.ensures c.text_at-descriptor.ensures c.has_flag.ensures told.2
                (and_false c.has_flag.result w.declares_final.result w.if-not-declares_final.true),
          )
    ]

pub returns : goal.returns
returns c =
    let told = c.declares_final.ensures in
    let number = c.in_ok-number.ensures in (
      told.0,
      told.1,
      adds_one told.0 (pool_of c.args.pool.now) (member_of c.args.method.now) c.args.signatures.now.keys c.args.numbers.now.items
          c.has_flag.result c.declares_final.result c.text_at-name.result.now c.text_at-descriptor.result.now
          c.text_at-name.ensures c.text_at-descriptor.ensures c.has_flag.ensures told.2
          c.number_of.new.signatures.keys (record { name = c.text_at-name.result; descriptor = c.text_at-descriptor.result })
          c.in_ok-number.number number.grows number.inside number.number refl refl
          c.push.new.self.items c.in_ok-push.ensures.ok
          (λ i. c.if-not-has_flag.false i && c.if-not-declares_final.false i),
    )
