use Rattle.std.proofs.Common.{◌≡◌, ◌∙◌, ◌&&◌, true, not, sym}
use Rattle.world_model.specs.World.{has_flag, acc_static, acc_private}
use Rattle.world_model.specs.BootNames.{is_constructor_name}
use Rattle.jv_types.specs.ClassData.{member_of, pool_of}
use Rattle.use_faults.specs.Finals.{has_number}
use Rattle.use_faults.proofs.Marks.{can_override, number_told}
use Rattle.use_faults.proofs.overrides.overriding_number.Goals as goal

pub returns : goal.returns
returns c =
    let entries = c.args.finals.now.signatures.keys in
    let found = c.get_index_of.ensures in
    let virtual : can_override (pool_of c.args.pool.now) (member_of c.args.method.now) ≡ true =
    (λ i. not (has_flag acc_static c.args.method.now.flags) && not (has_flag acc_private c.args.method.now.flags)
    && not (is_constructor_name (sym c.text_at-name.ensures i)))
    ∙ sym c.is_virtual.ensures ∙ c.if-not-is_virtual.false in
    record {
      within = found.within;
      number = λ n.
          (λ i. virtual i && has_number entries (sym c.text_at-name.ensures i) (sym c.text_at-descriptor.ensures i) n)
          ∙ number_told entries c.text_at-name.result.now c.text_at-descriptor.result.now c.requires c.get_index_of.result
          found.index found.found found.within n;
    }
