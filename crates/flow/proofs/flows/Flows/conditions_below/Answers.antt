use Rattle.std.proofs.Common.{◌≡◌, ◌≤◌, ◌%◌, ◌^◌, length, rules, arith}
use Rattle.std.specs.Fn.{FnReturnsAt}
use Rattle.flow.specs.TableFlows.{conditions_in}
use Rattle.flow.proofs.Declared.{bits_declared, bits_fit}
use Rattle.flow.proofs.flows.Flows.conditions_below.Goals as goal

pub overflow_cast-result : goal.overflow_cast-result
overflow_cast-result g c =
    let m = c.mask_where.result in
    let few : length c.conditions.result.now ≤ 16 = omega arith in
    let fits : m % 2 ^ 16 ≡ m = bits_fit 16 _ m few (c.mask_where.ensures 0) in
    search rules

pub returns : goal.returns
returns g c =
    let t = c.args.self.now.table.now in
    let C = g.L.Lattice.lattice c.args.self.now.lattice.now in
    bits_declared t.levels _ (conditions_in t) 0 c.conditions.ensures.items c.conditions.ensures.count {R = FnReturnsAt _ _} {P = λ x b. b ≡ C.below x c.args.level} c.mask_where.result c.mask_where.ensures (λ x b r. search rules)
