-- Where a place stands among entries that ascend, for those who look it up.
use Rattle.std.specs.Prelude.{ℕ, cond, List, pos, Ok, Err, Result, nat_lt, slice_index_or}
use Rattle.std.specs.List.{prefix_len}
use Rattle.store.specs.declared.entry.Entry.{Entry}
use Rattle.store.specs.Entries.{is_zero, values_of}

-- How many entries stand before the first whose place is not below p.
unfoldable pub before : ℕ → List Entry → ℕ
before p es = prefix_len (λ e. nat_lt e.place p) es

-- Where the entry of a place stands, if its value is not zero; else where it would belong.
abbrev pub position_of : List Entry → ℕ → Result ℕ ℕ
position_of es p = cond (is_zero (slice_index_or (values_of es) p (pos 0))) (Err (before p es)) (Ok (before p es))
