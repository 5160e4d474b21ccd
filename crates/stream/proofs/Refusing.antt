-- What a reader that finds no segment has shown. Assumes nothing.
use Rattle.std.proofs.Common.{ℕ, List, Ok, Err, Result, Option, Bor, IsErr}
use Rattle.stream.specs.declared.segment.Malformed.{Malformed}
use Rattle.stream.specs.Segments.{Reads}

pub refused : {T : Type 0} (stands : List ℕ → T → List ℕ → Type 0) (stops : List ℕ → Type 0) (input : List ℕ) (r : Result (Option (T × Bor (List ℕ))) Malformed)
    → IsErr r → stops input → Reads stands stops input r
refused stands stops input (Ok x) e n = cc
refused stands stops input (Err x) e n = n
