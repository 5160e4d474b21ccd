-- What the entries of a sparse store and their count keep. Assumes nothing.
use Rattle.std.specs.Prelude.{◌≡◌, ℕ, ◌-◌, ◌≤◌, List, length, drop, replicate}
use Rattle.std.proofs.Math.Nat.{ℕ_set}
use Rattle.std.proofs.Math.IntN.{ℤ_set}
use Rattle.std.proofs.Props.{props}
use Rattle.store.specs.declared.entry.Entry.{Entry}
use Rattle.store.specs.Entries.{unused}

-- 64 entries, of which the unused ones hold nothing.
pub record Kept (es : List Entry) (used : ℕ) : Type 0 where
  pub full : length es ≡ 64
  pub room : used ≤ 64
  pub blank : drop used es ≡ replicate (64 - used) unused

pub kept_prop : (es : List Entry) (used : ℕ) → IsProp (Kept es used)
kept_prop es used = hlevel (props, ℕ_set, ℤ_set)
