use Rattle.std.proofs.Common.{◌≡◌, Bool, true, false, ◌||◌, map, ap, sym, ◌∙◌}
use Rattle.link_model.specs.ClassFaults.{has_twice}
use Rattle.jv_types.specs.ClassData.{pool_of}
use Rattle.class_world.specs.Signatures.{same_pair, member_pair}
use Rattle.class_infos.proofs.NoneTwice.{members_twice}
use Rattle.class_infos.proofs.twice.has_member_twice.Goals as goal

at_first : (a b x : Bool) → a ≡ true → (a || b) ≡ x → a ≡ x
at_first a b x is same = is ∙ sym (ap (λ (t : Bool). t || b) is) ∙ same

at_second : (a b x : Bool) → a ≡ false → (a || b) ≡ x → b ≡ x
at_second a b x is same = sym (ap (λ (t : Bool). t || b) is) ∙ same

pub returns-then-fields : goal.returns-then-fields
returns-then-fields c =
    let fields = c.in_ok-fields.ensures ∙ (λ i. has_twice same_pair (map (member_pair (pool_of (c.as_slice-pool.ensures i))) (c.as_slice.ensures i))) in
    let methods = c.in_ok-methods.ensures ∙ (λ i. has_twice same_pair (map (member_pair (pool_of (c.as_slice-pool.ensures i))) (c.as_slice-2.ensures i))) in
    at_first _ _ _ c.if-fields.true ((λ i. fields i || methods i) ∙ members_twice c.args.class.now)

pub returns-else-fields : goal.returns-else-fields
returns-else-fields c =
    let fields = c.in_ok-fields.ensures ∙ (λ i. has_twice same_pair (map (member_pair (pool_of (c.as_slice-pool.ensures i))) (c.as_slice.ensures i))) in
    let methods = c.in_ok-methods.ensures ∙ (λ i. has_twice same_pair (map (member_pair (pool_of (c.as_slice-pool.ensures i))) (c.as_slice-2.ensures i))) in
    at_second _ _ _ c.if-fields.false ((λ i. fields i || methods i) ∙ members_twice c.args.class.now)
