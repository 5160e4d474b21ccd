-- The rules accept exactly the valid programs, as they are written. Assumes nothing.
use Rattle.std.proofs.Common.{◌≡◌, ℕ, ◌%◌, true, eqb, leb, List, [], ◌∷◌, ◌++◌, length, sym, ap, ◌∙◌, arith}
use mir.Facts.{Fits-of_z}
use Rattle.std.proofs.lemmas.Bool.{and_parts, and_from, eqb-true, leb-true, eq-eqb, le-leb}
use Rattle.lattice.specs.Lattice.{Lattice, Lawful}
use Rattle.records.specs.Records.{Each, Byte, Fit, bytes, records}
use Rattle.records.specs.Rules.{accepted, rule}
use Rattle.records.proofs.Firsts.{first_holds, took_all}
use Rattle.records.proofs.Formats.{records_bytes, bytes_records, length_bytes, length_records, records_fit, each_append}
use Rattle.sheet.specs.Sheet.{Sheet}
use Rattle.machine.specs.Command.{Command, skip, ◌⨾◌, set, combine, release, raise, if_variable, if_condition, while}
use Rattle.machine.specs.Typing.{outermost, WellTyped}
use Rattle.program.specs.Written.{fields, written}
use Rattle.program.specs.Rules.{answer, start, whole_records, program_in}
use Rattle.program.specs.Valid.{NumbersFit, Valid, normal}
use Rattle.program.specs.Acceptance.{UsableSheet, AcceptsExactlyTheWellTyped}
use Rattle.program.proofs.Accepted.{valid_accepted}
use Rattle.program.proofs.Accepting.{accepting_typed, accepting}
use Rattle.program.proofs.Normal.{normal_written, normal_runs}

written_fit : (c : Command) → NumbersFit c → Each Fit (written c)
unfolding written
written_fit skip f = tt
written_fit (c ⨾ d) f = each_append Fit (written c) (written d) (written_fit c f.0) (written_fit d f.1)
written_fit (set a x) f = ((Fits-of_z f).fits, tt)
written_fit (combine s a b c) f = (omega arith, tt)
written_fit (release a b p) f = (omega arith, tt)
written_fit (raise c) f = (omega arith, tt)
written_fit (if_variable b c d) f =
    (omega arith, each_append Fit (written c) (fields 74 0 0 0 ∷ (written d ++ (fields 75 0 0 0 ∷ []))) (written_fit c f.0) (omega arith, each_append Fit (written d) (fields 75 0 0 0 ∷ []) (written_fit d f.1) (omega arith, tt)))
written_fit (if_condition a c d) f =
    (omega arith, each_append Fit (written c) (fields 74 0 0 0 ∷ (written d ++ (fields 75 0 0 0 ∷ []))) (written_fit c f.0) (omega arith, each_append Fit (written d) (fields 75 0 0 0 ∷ []) (written_fit d f.1) (omega arith, tt)))
written_fit (while b c) f = (omega arith, each_append Fit (written c) (fields 75 0 0 0 ∷ []) (written_fit c f) (omega arith, tt))

module _ {C : Lattice} (W : Lawful C) (sh : Sheet) (U : UsableSheet C sh) where
  pub all : (c : Command) → Valid C sh c → program_in C sh (bytes (written c)) ≡ accepted (normal c)
  unfolding program_in
  all c v =
      let bs = bytes (written c) in
      let l = length_bytes (written c) in
      let k : whole_records (bytes (written c)) ≡ true = and_from (eqb (length bs % 8) 0) (leb (length bs) 2048) (eq-eqb (length bs % 8) 0 (omega (arith, l))) (le-leb (length bs) 2048 (omega (arith, l, v.size))) in
      first_holds (rule 11 0 0 (whole_records bs) ∷ []) _ (k, tt) ∙ ap (answer C sh start) (records_bytes (written c) (written_fit c v.numbers)) ∙ valid_accepted W sh U c v

  -- whatever numbers stand for bytes, what is accepted is well-typed
  pub accepted_well_typed : (bs : List ℕ) (c : Command) → program_in C sh bs ≡ accepted c → WellTyped C sh outermost c
  unfolding program_in
  accepted_well_typed bs c h = accepting_typed W sh U (records bs) c (took_all (rule 11 0 0 (whole_records bs) ∷ []) (answer C sh start (records bs)) c h).1

  pub only : (bs : List ℕ) → Each Byte bs → (c : Command) → program_in C sh bs ≡ accepted c → Valid C sh c × (bs ≡ bytes (written c))
  unfolding program_in
  only bs f c h =
      let t = took_all (rule 11 0 0 (whole_records bs) ∷ []) (answer C sh start (records bs)) c h in
      let p = and_parts (eqb (length bs % 8) 0) (leb (length bs) 2048) t.0.0 in
      let g = accepting W sh U (records bs) c (records_fit bs f) t.1 in (
        record { typed = g.0; nested = g.1; numbers = g.2; size = omega (arith, ap length g.3, length_records bs, leb-true (length bs) 2048 p.1) },
        sym (bytes_records bs f (eqb-true (length bs % 8) 0 p.0)) ∙ ap bytes (sym g.3),
      )

  pub acceptance : AcceptsExactlyTheWellTyped C sh
  acceptance = record { only = only; all = all; normal_written = normal_written; normal_runs = normal_runs sh }
