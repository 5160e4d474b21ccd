use Rattle.std.proofs.Common.{◌≡◌, ℕ, cond, ◌&&◌, ltb, get_or, pos}
use Rattle.policy.specs.Masks.{bit}
use Rattle.flow.specs.Flows.{no_variable_flow}
use Rattle.interpreter.proofs.memory.Memory.wipe.Given as goal

-- the variables so far are wiped
abbrev pub invariant-loop-variable : goal.invariant-loop-variable
invariant-loop-variable g l = record {
  values : (k : ℕ) → get_or (g.S.Store.values l.self.store) k (pos 0)
      ≡ cond (ltb k l.variable && bit l.condition (get_or l.masks.variable k no_variable_flow).wipers) (pos 0) (get_or (g.S.Store.values l.initial.self.store) k (pos 0));
  up : l.self.up ≡ l.initial.self.up;
}
