-- The test of a permit's mask is the machine's question whether all its conditions are up. Assumes nothing.
use Rattle.std.proofs.Common.{◌≡◌, ℕ, zero, suc, ◌^◌, ◌<◌, ◌≤◌, Bool, not, ◌&&◌, ◌||◌, eqb, leb, length, sym, refl, ap, ◌∙◌, inl, inr, arith}
use lib.Bits.{bit_and}
use lib.ListN.{get_or-eq_default}
use Rattle.std.proofs.lemmas.Bool.{cases_eq, le-leb}
use Rattle.policy.specs.Policy.{Set, leaf}
use Rattle.policy.specs.Masks.{bit, members, has_first, within}
use Rattle.policy.proofs.Masks.{bit_high, within_none, within_test}
use Rattle.sheet.specs.Sheet.{Sheet, Permit, permit_at}
use Rattle.machine.specs.Memory.{every}
use Rattle.machine.specs.Run.{permitted}
use Rattle.flow.specs.declared.masks.FlowMasks.{FlowMasks}
use Rattle.interpreter.specs.Meaning.{Enforces}

module _ (mask : ℕ) (s : Set) where
  abbrev asked : ℕ → Bool
  asked c = not (bit c mask) || s c

  first : (n : ℕ) → has_first n mask s ≡ every n asked
  unfolding has_first
  first zero = refl
  first (suc n) = ap (λ b. asked n && b) (first n)

  -- what stands above sixteen bits asks nothing
  more : mask < 2 ^ 16 → (n : ℕ) → 16 ≤ n → every 16 asked ≡ every n asked
  more h zero l = absurd (omega arith)
  more h (suc n) l =
      elim (cases_eq (suc n) 16) [
        | inl e ↦ ap (λ (k : ℕ). every k asked) (sym e)
        | inr ne ↦ let k : 16 ≤ n = omega (arith, ne) in more h n k ∙ sym (ap (λ b. (not b || s n) && every n asked) (bit_high 16 n mask h k))
      ]

  all_up : mask < 2 ^ 16 → within mask s ≡ permitted mask s
  unfolding permitted
  all_up h = first 16 ∙ more h 32 (omega arith)

-- the test `mask & up == mask`
pub all_up_test : (mask u : ℕ) → mask < 2 ^ 16 → eqb (bit_and mask u) mask ≡ permitted mask (members u)
all_up_test mask u h = within_test mask u h ∙ all_up mask (members u) h

module _ (m : FlowMasks) (sh : Sheet) (E : Enforces m sh) (p u : ℕ) where
  pub permit_undeclared : m.permits ≤ p → leb m.permits p ≡ permitted (permit_at sh p).conditions (members u)
  permit_undeclared h =
      let long : length sh.permits ≤ p = omega (arith, E.permits) in
      le-leb m.permits p h ∙ sym (within_none (members u)) ∙ all_up 0 (members u) (omega arith)
      ∙ sym (ap (λ (x : Permit). permitted x.conditions (members u)) (get_or-eq_default sh.permits (record { conditions = 0; from = leaf 0; to = leaf 0 }) long))
