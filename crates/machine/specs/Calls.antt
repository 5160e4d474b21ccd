-- The nine calls with their arguments, and what they answer.
use Rattle.std.specs.Prelude.{ℕ, List, ℤ}
use Rattle.records.specs.declared.refusal.Refusal.{Refusal}

pub data Call : Type 0 where
  sheet : (bytes : List ℕ) → Call
  load : (bytes : List ℕ) → Call
  feed : (variable : ℕ) → (value : ℤ) → Call
  raise : (condition : ℕ) → Call
  lower : (condition : ℕ) → Call
  pass : (turns : ℕ) → Call
  look : (level variable : ℕ) → Call
  ask : (level condition : ℕ) → Call
  -- of the buffer only its length counts
  image : (level length : ℕ) → Call

pub data Answer : Type 0 where
  refused : Refusal → Answer
  number : ℤ → Answer
  bytes : List ℕ → Answer
  -- a pass that ended, or stopped for want of a turn, with the turns used
  done : (turns : ℕ) → Answer
  spent : (turns : ℕ) → Answer
