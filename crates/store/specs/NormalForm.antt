-- The entries of 64 values: they give the values back, and a store keeps them. Assumes nothing.
use Rattle.std.specs.Prelude.{◌≡◌, ℕ, ◌-◌, ◌<◌, true, List, length, take, drop, replicate, ℤ, pos, slice_index_or}
use Rattle.std.proofs.Common.{sym, ◌∙◌}
use Rattle.std.proofs.Math.Path.{ap}
use native.Mathlib.Omega.{arith}
use Rattle.std.proofs.lemmas.List.FromFn.{length-map-range_with_len, get_or-map-range_with_len}
use Rattle.std.proofs.lemmas.List.{length-append, length-replicate, ext_get_or, take_at, drop_at}
use Rattle.store.specs.declared.entry.Entry.{Entry}
use Rattle.store.specs.Entries.{unused, used_from, entries_of, value_at, values_of, ascend_from}
use Rattle.store.specs.Ascending.{ascend_used}
use Rattle.store.specs.Kept.{Kept}
use Rattle.store.specs.UsedEntries.{used_short, value_at_lem}

pub length_values : (es : List Entry) → length (values_of es) ≡ 64
unfolding values_of
length_values es = length-map-range_with_len (value_at es) 0 64

pub get_or_values : (es : List Entry) (p : ℕ) → p < 64 → slice_index_or (values_of es) p (pos 0) ≡ value_at es p
unfolding values_of
get_or_values es p h = get_or-map-range_with_len (value_at es) 0 64 p p (pos 0) h (omega arith)

pub length_entries : (vs : List ℤ) → length vs ≡ 64 → length (entries_of vs) ≡ 64
unfolding entries_of
length_entries vs n =
    let u = used_from 0 vs in
    omega (arith, length-append u (replicate (64 - length u) unused), length-replicate (64 - length u) unused, used_short 0 vs)

pub values_entries : (vs : List ℤ) → length vs ≡ 64 → values_of (entries_of vs) ≡ vs
unfolding entries_of
values_entries vs n =
    let es = entries_of vs in
    let l = length_values es in
    ext_get_or (pos 0) (values_of es) vs (l ∙ sym n)
    (λ p h. get_or_values es p (omega arith) ∙ ap (value_at es) (omega arith) ∙ value_at_lem 0 vs (64 - length (used_from 0 vs)) p (omega arith))

-- Entries and a count that are kept for the values ws.
pub record KeptFor (es : List Entry) (used : ℕ) (ws : List ℤ) : Type 0 where
  pub kept : Kept es used
  pub ordered : ascend_from 0 (take used es) ≡ true
  pub values : values_of es ≡ ws

pub kept_for : (es : List Entry) (used : ℕ) (ws : List ℤ) → length ws ≡ 64 → es ≡ entries_of ws → used ≡ length (used_from 0 ws) → KeptFor es used ws
unfolding entries_of
kept_for es used ws n e u = record {
  kept = record {
    full = ap length e ∙ length_entries ws n;
    room = omega (arith, used_short 0 ws);
    blank = ap (drop used) e ∙ drop_at (used_from 0 ws) _ used (sym u) ∙ ap (λ m. replicate (64 - m) unused) (sym u);
  };
  ordered = ap (ascend_from 0) (ap (take used) e ∙ take_at (used_from 0 ws) _ used (sym u)) ∙ ascend_used 0 ws (omega arith);
  values = ap values_of e ∙ values_entries ws n;
}
