-- How streams are written in a bundle: a header record each, and then the stream.
use Rattle.std.specs.Prelude.{◌≡◌, ℕ, ◌≤◌, List, [], ◌∷◌, ◌++◌, length, Ok, Err, Result, ◌≢◌}
use Rattle.records.specs.declared.Record.{Record}
use Rattle.records.specs.Records.{bytes}
use Rattle.stream.specs.declared.segment.Malformed.{Malformed}
use Rattle.bundle.specs.declared.streams.Order.{Order}
use Rattle.bundle.specs.declared.streams.Order.TheVariants.{Chain, Readers}
use Rattle.bundle.specs.declared.streams.Kind.{Kind}
use Rattle.bundle.specs.declared.streams.Kind.TheVariants.{Dense, Sparse}
use Rattle.bundle.specs.declared.streams.Setting.{Setting}
use Rattle.bundle.specs.declared.streams.Stream.{Stream}

-- c, r
abbrev pub letter_of : Order → ℕ
letter_of (Chain top) = 99
letter_of Readers = 114

abbrev pub top_of : Order → ℕ
top_of (Chain top) = top
top_of Readers = 0

abbrev pub code_of : Kind → ℕ
code_of Dense = 0
code_of Sparse = 1

-- the header of a stream of so many bytes
abbrev pub head_of : Setting → ℕ → Record
head_of s size = record { letter = letter_of s.order; a = top_of s.order; b = code_of s.kind; c = 0; n = size }

abbrev pub stream_bytes : Setting → List ℕ → List ℕ
stream_bytes s calls = bytes (head_of s (length calls) ∷ []) ++ calls

-- the store that a byte stands for, or none
abbrev pub KindRead : ℕ → Result Kind Malformed → Type 0
KindRead code (Ok k) = code_of k ≡ code
KindRead code (Err e) = (k : Kind) → code_of k ≢ code

-- what a header says, or that no stream has this header
abbrev pub HeadRead : Record → Result Setting Malformed → Type 0
HeadRead head (Ok s) = head_of s head.n ≡ head
HeadRead head (Err e) = (s : Setting) → head_of s head.n ≢ head

-- the stream stands at the front, it is not too long, and the rest follows
pub record StreamRead (input : List ℕ) (stream : Stream) (rest : List ℕ) : Type 0 where
  pub stands : input ≡ stream_bytes stream.setting stream.calls.now ++ rest
  pub short : length stream.calls.now ≤ 65536

-- there is something, and it begins with no stream
pub record NoStream (input : List ℕ) : Type 0 where
  pub some : input ≡ [] → ⊥
  pub none : (s : Setting) (calls rest : List ℕ) → length calls ≤ 65536 → input ≢ stream_bytes s calls ++ rest
