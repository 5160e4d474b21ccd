-- A call takes eight bytes at least. Assumes nothing.
use Rattle.std.proofs.Common.{ℕ, ◌<◌, List, [], ◌∷◌, length, ap, arith}
use Rattle.std.proofs.lemmas.List.{length-append}
use Rattle.records.specs.Records.{bytes}
use Rattle.records.proofs.Formats.{length_bytes}
use Rattle.stream.specs.declared.calls.Call.{Call}
use Rattle.stream.specs.Calls.{head_of, body_of, call_bytes, heard, CallRead}

pub call_shorter : (input : List ℕ) (call : Call) (rest : List ℕ) → CallRead input call rest → length rest < length input
call_shorter input call rest r =
    let c = heard 0 call in
    omega (arith, ap length r.stands, length-append (call_bytes c) rest, length-append (bytes (head_of c ∷ [])) (body_of c), length_bytes (head_of c ∷ []))
