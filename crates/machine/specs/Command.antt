-- The commands of a program. A block is commands one after another, ended by `skip`.
use Rattle.std.specs.Prelude.{ℕ, ℤ}

pub data Sign : Type 0 where
  plus minus times less equal : Sign

infixr 20 ◌⨾◌
pub data Command : Type 0 where
  skip : Command
  ◌⨾◌ : Command → Command → Command
  set : (target : ℕ) → (number : ℤ) → Command
  combine : Sign → (target left right : ℕ) → Command
  release : (target source permit : ℕ) → Command
  raise : (condition : ℕ) → Command
  if_variable : (variable : ℕ) → (then else : Command) → Command
  if_condition : (condition : ℕ) → (then else : Command) → Command
  while : (variable : ℕ) → (block : Command) → Command
