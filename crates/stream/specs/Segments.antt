-- What a reader finds at the front of bytes: a segment and the rest, the end, or what is no segment.
use Rattle.std.specs.Prelude.{◌≡◌, ℕ, List, [], Ok, Err, Result, Some, None, Option}
use Rattle.std.proofs.Common.{Bor}

abbrev pub Reads : {T E : Type 0} → (List ℕ → T → List ℕ → Type 0) → (List ℕ → Type 0) → List ℕ → Result (Option (T × Bor (List ℕ))) E → Type 0
Reads stands stops input (Ok (Some p)) = stands input p.0 p.1.now
Reads stands stops input (Ok None) = input ≡ []
Reads stands stops input (Err e) = stops input
