-- The segments of a whole row of bytes.
use Rattle.std.specs.Prelude.{ℕ, List, [], ◌∷◌, ◌++◌, ◌≢◌}

-- the segments stand one after another in front of what is left
pub data Follow {T : Type 0} (stands : List ℕ → T → List ℕ → Type 0) (bytes : List ℕ) : List T → List ℕ → Type 0 where
  none : Follow stands bytes [] bytes
  one_more : (segments : List T) (segment : T) (left rest : List ℕ) → Follow stands bytes segments left → stands left segment rest
      → Follow stands bytes (segments ++ segment ∷ []) rest

-- all segments, up to the end or to what is no segment
pub record Decoded {T : Type 0} (stands : List ℕ → T → List ℕ → Type 0) (stops : List ℕ → Type 0) (bytes : List ℕ) (segments : List T) (left : List ℕ) : Type 0 where
  pub follow : Follow stands bytes segments left
  pub stop : left ≢ [] → stops left
