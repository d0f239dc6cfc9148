use Rattle.std.proofs.Common.{arith, ap, ◌+◌, ◌∙◌}
use Rattle.member_numbers.proofs.Sums.{start_is}
use Rattle.member_numbers.proofs.numbers.MemberNumbers.number.Goals as goal

pub overflow_add-result : goal.overflow_add-result
overflow_add-result c =
    let is = start_is c.self.inside.counts.items c.self.inside.starts.items c.args.self.now c.self.inside.total c.args.class.0 c.args.index
    c.get-start.result.now c.self.view_is c.self.invariant (c.requires.class, c.requires.index) c.get-start.ensures in
    omega (arith, is.1, is.2)

pub returns-clause-number : goal.returns-clause-number
returns-clause-number c =
    let is = start_is c.self.inside.counts.items c.self.inside.starts.items c.args.self.now c.self.inside.total c.args.class.0 c.args.index
    c.get-start.result.now c.self.view_is c.self.invariant (c.requires.class, c.requires.index) c.get-start.ensures in
    ap (λ n. n + c.args.index) is.0

pub returns-clause-inside : goal.returns-clause-inside
returns-clause-inside c =
    let is = start_is c.self.inside.counts.items c.self.inside.starts.items c.args.self.now c.self.inside.total c.args.class.0 c.args.index
    c.get-start.result.now c.self.view_is c.self.invariant (c.requires.class, c.requires.index) c.get-start.ensures in
    is.1
