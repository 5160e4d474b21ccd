-- Where no stream stands at the front of a bundle. Assumes nothing.
use Rattle.std.proofs.Common.{◌≡◌, ℕ, ◌<◌, ◌≤◌, ◌≢◌, List, [], ◌∷◌, ◌++◌, length, sym, ap, ◌∙◌, subst, arith}
use Rattle.std.proofs.lemmas.List.{length-append, append_assoc}
use Rattle.records.specs.declared.Record.{Record}
use Rattle.records.specs.Records.{Fit, bytes}
use Rattle.records.proofs.Formats.{length_bytes, record_front}
use Rattle.bundle.specs.declared.streams.Setting.{Setting}
use Rattle.bundle.specs.declared.streams.Stream.{Stream}
use Rattle.bundle.specs.Bundles.{head_of, stream_bytes, StreamRead, NoStream}

pub too_short : (input : List ℕ) → (input ≡ [] → ⊥) → length input < 8 → NoStream input
too_short input s l = record {
  some = s;
  none = λ t calls rest k e. absurd (omega (arith, l, ap length e, length-append (stream_bytes t calls) rest, length-append (bytes (head_of t (length calls) ∷ [])) calls, length_bytes (head_of t (length calls) ∷ [])));
}

module _ (input rest : List ℕ) (head : Record) (f : Fit head) (stands : input ≡ bytes (head ∷ []) ++ rest) where
  something : input ≡ [] → ⊥
  something e = absurd (omega (arith, ap length e, ap length stands, length-append (bytes (head ∷ [])) rest, length_bytes (head ∷ [])))

  front : (s : Setting) (calls after : List ℕ) → length calls ≤ 65536 → input ≡ stream_bytes s calls ++ after → (head_of s (length calls) ≡ head) × (rest ≡ calls ++ after)
  front s calls after k e =
      let g : Fit (head_of s (length calls)) = omega (arith, k) in
      let p = record_front (head_of s (length calls)) head (calls ++ after) rest g f (sym (append_assoc (bytes (head_of s (length calls) ∷ [])) calls after) ∙ sym e ∙ stands) in
      (p.0, sym p.1)

  pub no_setting : ((s : Setting) → head_of s head.n ≢ head) → NoStream input
  no_setting h = record {
    some = something;
    none = λ s calls after k e. let p = front s calls after k e in h s (subst (λ n. head_of s n ≡ head) (ap (λ r. r.n) p.0) p.0);
  }

  pub too_long : 65536 < head.n → NoStream input
  too_long l = record {
    some = something;
    none = λ s calls after k e. let p = front s calls after k e in let n : length calls ≡ head.n = ap (λ r. r.n) p.0 in absurd (omega (arith, l, k, n));
  }

  pub no_room : length rest < head.n → NoStream input
  no_room l = record {
    some = something;
    none = λ s calls after k e. let p = front s calls after k e in let n : length calls ≡ head.n = ap (λ r. r.n) p.0 in absurd (omega (arith, l, n, ap length p.1, length-append calls after));
  }
