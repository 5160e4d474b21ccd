-- Tables of a sheet. Assumes nothing.
use Rattle.std.proofs.Common.{◌≡◌, ℕ, ◌<◌, ◌≤◌, List, [], ◌∷◌, ◌++◌, length, get_or, set, arith}
use Rattle.std.proofs.lemmas.Grind.{common_steps}
use Rattle.std.specs.Array.{AllOfLen}
use Rattle.policy.specs.declared.row.Row.{Row}
use Rattle.policy.specs.Rows.{blank}
use Rattle.sheet.specs.declared.rows.SheetTable.{SheetTable}
use Rattle.sheet.specs.Sheet.{empty}
use Rattle.sheet.specs.Table.{blank_variable, Represents}

-- a row of defaults
pub default_row : (r : Row) → AllOfLen (λ x. (x.level ≡ 0) × (x.guard ≡ 0)) r.levels 8 → r.count ≡ 0 → r.wipers ≡ 0 → r ≡ blank
default_row r h c w = grind (arith, common_steps)

pub represents_empty : (t : SheetTable) → t.conditions ≡ 0 → length t.levels ≡ 16 → t.variables ≡ 0 → length t.rows ≡ 64 → ((v : ℕ) → v < 64 → get_or t.rows v blank_variable ≡ blank_variable) → t.permits ≡ 0 → length t.grants ≡ 8
    → Represents t empty
represents_empty t c l v r f p g = record {
  sizes = (l, r, g);
  conditions = c;
  levels = λ k h. absurd (omega arith);
  variables = v;
  rows = λ k h. absurd (omega arith);
  beyond = λ k h. grind (arith, common_steps, f k);
  permits = p;
  grants = λ k h. absurd (omega arith);
}

-- one more in a table and in a list
pub grows : {X Y : Type 0} (R : Y → X → Type 0) (ys : List Y) (xs : List X) (y dy : Y) (x dx : X) (n : ℕ) → n ≡ length xs → n < length ys
    → ((k : ℕ) → k < length xs → R (get_or ys k dy) (get_or xs k dx)) → R y x → (k : ℕ) → k < length (xs ++ x ∷ []) → R (get_or (set ys n y) k dy) (get_or (xs ++ x ∷ []) k dx)
grows R ys xs y dy x dx n e l f p k h = grind (arith, common_steps, f k)

-- the places beyond the last item stay as they were
pub stays_beyond : {X Y : Type 0} (ys : List Y) (xs : List X) (y d : Y) (x : X) (n : ℕ) → n ≡ length xs → ((k : ℕ) → length xs ≤ k → get_or ys k d ≡ d) → (k : ℕ) → length (xs ++ x ∷ []) ≤ k → get_or (set ys n y) k d ≡ d
stays_beyond ys xs y d x n e f k h = grind (arith, common_steps)
