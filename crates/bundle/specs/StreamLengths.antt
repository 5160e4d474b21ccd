-- A stream takes eight bytes of its bundle at least. Assumes nothing.
use Rattle.std.proofs.Common.{ℕ, ◌<◌, List, [], ◌∷◌, length, ap, arith}
use Rattle.std.proofs.lemmas.List.{length-append}
use Rattle.records.specs.Records.{bytes}
use Rattle.records.proofs.Formats.{length_bytes}
use Rattle.bundle.specs.declared.streams.Stream.{Stream}
use Rattle.bundle.specs.Bundles.{head_of, stream_bytes, StreamRead}

pub stream_shorter : (bundle : List ℕ) (stream : Stream) (rest : List ℕ) → StreamRead bundle stream rest → length rest < length bundle
stream_shorter bundle stream rest r =
    let calls = stream.calls.now in
    let h = head_of stream.setting (length calls) in
    omega (arith, ap length r.stands, length-append (stream_bytes stream.setting calls) rest, length-append (bytes (h ∷ [])) calls, length_bytes (h ∷ []))
