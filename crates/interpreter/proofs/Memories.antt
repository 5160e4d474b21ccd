-- What the code does with masks and a store's values is what the machine does to its memory. Assumes nothing.
use Rattle.std.proofs.Common.{◌≡◌, ℕ, ◌<◌, cond, not, ◌&&◌, eqb, ltb, List, length, get_or, set, ℤ, pos, refl, ap, ◌∙◌, arith}
use lib.Bits.{bit_and}
use lib.ListN.{get_or-eq_default}
use Rattle.std.proofs.lemmas.Grind.{common_steps}
use Rattle.policy.specs.Policy.{wiped_by}
use Rattle.policy.specs.Masks.{bit, members}
use Rattle.policy.specs.Rows.{including}
use Rattle.policy.proofs.Masks.{bit_zero, bit_raised, wiped_mask}
use Rattle.sheet.specs.Sheet.{Sheet, policy_of}
use Rattle.machine.specs.Memory.{Memory, update, write, raised}
use Rattle.machine.proofs.Memories.{memory_ext}
use Rattle.flow.specs.declared.masks.FlowMasks.{FlowMasks}
use Rattle.flow.specs.Flows.{no_variable_flow}
use Rattle.interpreter.specs.Meaning.{Enforces, memory_of}

inside : (m : FlowMasks) (v c : ℕ) → (ltb v 64 && bit c (get_or m.variable v no_variable_flow).wipers) ≡ bit c (get_or m.variable v no_variable_flow).wipers
inside m v c = grind (arith, common_steps, get_or-eq_default, bit_zero, m.sizes.0)

module _ (m : FlowMasks) (sh : Sheet) (E : Enforces m sh) where
  module _ (a u : ℕ) (x : ℤ) (xs : List ℤ) where
    abbrev put : Memory
    put = record { values = update a x (memory_of xs u).values; up = members u }

    mask : not (wiped_by (members u) (policy_of sh a)) ≡ eqb (bit_and (get_or m.variable a no_variable_flow).wipers u) 0
    mask = wiped_mask (members u) (policy_of sh a) (get_or m.variable a no_variable_flow).wipers u (E.wipers a) (λ c. refl)

    -- no wiper is up
    pub write_lands : a < length xs → bit_and (get_or m.variable a no_variable_flow).wipers u ≡ 0 → memory_of (set xs a x) u ≡ write sh a x (memory_of xs u)
    write_lands h z =
        memory_ext (memory_of (set xs a x) u) put (λ v. grind (arith, common_steps)) (λ c. refl)
        ∙ grind (arith, common_steps, mask)

    -- a wiper is up
    pub write_drops : (bit_and (get_or m.variable a no_variable_flow).wipers u ≡ 0 → ⊥) → memory_of xs u ≡ write sh a x (memory_of xs u)
    write_drops n = grind (arith, common_steps, mask)

  pub raises : (c u : ℕ) (xs ys : List ℤ) → c < 16 → ((v : ℕ) → get_or ys v (pos 0) ≡ cond (ltb v 64 && bit c (get_or m.variable v no_variable_flow).wipers) (pos 0) (get_or xs v (pos 0)))
      → memory_of ys (including c u) ≡ raised sh c (memory_of xs u)
  raises c u xs ys h e =
      memory_ext (memory_of ys (including c u)) (raised sh c (memory_of xs u)) (λ v. e v ∙ ap (λ b. cond b (pos 0) (get_or xs v (pos 0))) (inside m v c ∙ E.wipers v c)) (λ k. bit_raised c u k h)
