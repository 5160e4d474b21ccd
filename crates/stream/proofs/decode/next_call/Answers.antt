use Rattle.std.proofs.Common.{◌≡◌, true, ◌&&◌, eqb, length, sym, refl, ap, ◌∙◌, inl, inr, rules}
use Rattle.records.specs.Records.{Fit}
use Rattle.stream.specs.Calls.{number_head, CallRead, NoCall}
use Rattle.stream.proofs.Decoding.{too_short, no_short, no_records, read_short}
use Rattle.stream.proofs.Refusing.{refused}
use Rattle.stream.proofs.decode.next_call.Goals as goal
use Rattle.stream.proofs.decode.next_call.Goals.{in_default-via-in-h+else-names_number, in_default-via-in-l+else-names_number-2, in_default-via-in_default-1}

pub returns-in_err-head : goal.returns-in_err-head
returns-in_err-head c =
    refused CallRead NoCall _ _ c.from_residual.ensures.0
    (too_short c.args.input.now (λ e. let l : length c.args.input.now ≡ 0 = ap length e in absurd (search rules)) (rw c.in_err-head.ensures.ok_part at c.next_record.ensures))

pub returns-in_err-sheet-in-h : goal.returns-in_err-sheet-in-h
returns-in_err-sheet-in-h c =
    let f : Fit c.in_ok-head.head = search rules in
    let read = rw c.in_ok-head.ensures.ok_part at c.next_record.ensures in
    refused CallRead NoCall _ _ c.from_residual-in_err-sheet-in-h.ensures.0
    (no_records c.args.input.now c.in_ok-head.rest.now c.in_ok-head.head f read.2 104 (inl refl) c.in-h.is c.in_err-sheet-in-h.ensures)

pub returns-in_err-program-in-l : goal.returns-in_err-program-in-l
returns-in_err-program-in-l c =
    let f : Fit c.in_ok-head.head = search rules in
    let read = rw c.in_ok-head.ensures.ok_part at c.next_record.ensures in
    refused CallRead NoCall _ _ c.from_residual-in_err-program-in-l.ensures.0
    (no_records c.args.input.now c.in_ok-head.rest.now c.in_ok-head.head f read.2 108 (inr refl) c.in-l.is c.in_err-program-in-l.ensures)

pub returns-in_err-call-in_default : goal.returns-in_err-call-in_default
returns-in_err-call-in_default c =
    let f : Fit c.in_ok-head.head = search rules in
    let read = rw c.in_ok-head.ensures.ok_part at c.next_record.ensures in
    let missed = sym c.in_err-call-in_default.ensures.ok_part ∙ c.short_call.ensures in
    let e = c.from_residual-in_err-call-in_default.ensures.0 in
    elim c.in_default.branch [
      | in_default-via-in-h+else-names_number w ↦
          let s : (eqb c.in_ok-head.head.letter 104 && number_head c.in_ok-head.head) ≡ true → ⊥ = search rules in
          let l : (eqb c.in_ok-head.head.letter 108 && number_head c.in_ok-head.head) ≡ true → ⊥ = search rules in
          refused CallRead NoCall _ _ e (no_short c.args.input.now c.in_ok-head.rest.now c.in_ok-head.head f read.2 missed s l)
      | in_default-via-in-l+else-names_number-2 w ↦
          let s : (eqb c.in_ok-head.head.letter 104 && number_head c.in_ok-head.head) ≡ true → ⊥ = search rules in
          let l : (eqb c.in_ok-head.head.letter 108 && number_head c.in_ok-head.head) ≡ true → ⊥ = search rules in
          refused CallRead NoCall _ _ e (no_short c.args.input.now c.in_ok-head.rest.now c.in_ok-head.head f read.2 missed s l)
      | in_default-via-in_default-1 w ↦
          let s : (eqb c.in_ok-head.head.letter 104 && number_head c.in_ok-head.head) ≡ true → ⊥ = search rules in
          let l : (eqb c.in_ok-head.head.letter 108 && number_head c.in_ok-head.head) ≡ true → ⊥ = search rules in
          refused CallRead NoCall _ _ e (no_short c.args.input.now c.in_ok-head.rest.now c.in_ok-head.head f read.2 missed s l)
    ]

pub returns-in_ok-call-in_default : goal.returns-in_ok-call-in_default
returns-in_ok-call-in_default c =
    let f : Fit c.in_ok-head.head = search rules in
    let read = rw c.in_ok-head.ensures.ok_part at c.next_record.ensures in
    read_short c.args.input.now c.in_ok-head.rest.now c.in_ok-head.head f read.2 _ (sym c.in_ok-call-in_default.ensures.ok_part ∙ c.short_call.ensures)
