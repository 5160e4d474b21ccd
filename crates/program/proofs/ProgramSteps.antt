-- The whole program. Assumes nothing.
use Rattle.std.proofs.Common.{◌≡◌, ℕ, suc, ◌+◌, ◌%◌, ◌≤◌, false, eqb, leb, None, List, [], ◌∷◌, length, take, drop, sym, refl, ap, ◌∙◌, subst, arith, drop-cons}
use Rattle.std.proofs.lemmas.Bool.{cond-true, cond-false, and_from, eq-eqb, le-leb}
use Rattle.lattice.specs.Lattice.{Lattice, Lawful}
use Rattle.records.specs.declared.refusal.Refusal.{Refusal}
use Rattle.records.specs.Records.{records}
use Rattle.records.specs.declared.cursor.Cursor.{Cursor}
use Rattle.records.specs.Refusals.{refusal}
use Rattle.sheet.specs.Sheet.{Sheet}
use Rattle.flow.specs.declared.masks.FlowMasks.{FlowMasks}
use Rattle.flow.specs.Flows.{MasksOf}
use Rattle.program.specs.declared.context.Context.{Context as Masks}
use Rattle.program.specs.declared.kept.Instruction.{Instruction}
use Rattle.program.specs.declared.kept.Program.{Program}
use Rattle.program.specs.Kept.{blank, linked}
use Rattle.program.specs.Rules.{at, answer, whole_records, program_in}
use Rattle.program.specs.Acceptance.{UsableSheet}
use Rattle.program.specs.Contexts.{under_none}
use Rattle.program.specs.Reading.{context_of, Alike, Refused, Stand, BlockRead}
use Rattle.program.specs.Forward.{BlockForward}
use Rattle.program.specs.Loading.{ProgramRead, ProgramRefused}
use Rattle.program.proofs.BlockSteps.{long, body, body_placed, body_stands, body_size, refused_at, block_at}
use Rattle.program.proofs.ContextMasks.{masked_outermost}
use Rattle.program.proofs.Reaches.{declared_none}
use Rattle.program.proofs.Steps.{end_of_records}

-- what stands in a list is a slice of it
slice : (xs : List Instruction) (p : ℕ) (ys : List Instruction) → Stand xs p ys → p + length ys ≤ length xs → take (length ys) (drop p xs) ≡ ys
slice xs p [] h l = refl
slice xs p (y ∷ ys) h l =
    let e : suc p ≡ p + 1 = omega arith in
    ap (take (length (y ∷ ys))) (drop-cons xs p blank (omega arith)) ∙ ap (λ z. z ∷ take (length ys) (drop (suc p) xs)) h.0
    ∙ ap (λ zs. y ∷ zs) (ap (λ (i : ℕ). take (length ys) (drop i xs)) e ∙ slice xs (p + 1) ys h.1 (omega arith))

pub wrong_length : (m : FlowMasks) (bs : List ℕ) → whole_records bs ≡ false → ProgramRefused m bs (refusal 11 0 0)
unfolding program_in
wrong_length m bs h = record { answer = λ C sh W U M. cond-false (whole_records bs) _ _ h }

module _ (m : FlowMasks) (bs : List ℕ) (whole : length bs % 8 ≡ 0) (short : length bs ≤ 2048) (pc : Masks) (z : (pc.variables ≡ 0) × (pc.conditions ≡ 0)) (at_start : Cursor) (o : at_start.place ≡ 0) (w : at_start.left.now ≡ bs) where
  e : pc ≡ under_none
  e = λ i. record { variables = z.0 i; conditions = z.1 i }

  starts : (C : Lattice) (sh : Sheet) → program_in C sh bs ≡ answer C sh (at 0 [] (context_of pc) (λ c. c)) (records bs)
  unfolding program_in
  starts C sh =
      cond-true (whole_records bs) _ _ (and_from (eqb (length bs % 8) 0) (leb (length bs) 2048) (eq-eqb _ _ whole) (le-leb _ _ short))
      ∙ ap (λ x. answer C sh (at 0 [] x (λ c. c)) (records bs)) (masked_outermost ∙ ap context_of (sym e))

  alike : (C : Lattice) (sh : Sheet) → Lawful C → UsableSheet C sh → MasksOf C sh m → Alike C sh m pc 0 None []
  alike C sh W U M = subst (λ x. Alike C sh m x 0 None []) (sym e) (record { lawful = W; usable = U; masks = M; declared = declared_none sh; depth = refl; innermost = refl })

  pub program_refused : (x : Refusal) → Refused m pc 0 None at_start.place (records at_start.left.now) x → ProgramRefused m bs x
  program_refused x h =
      let f = subst (λ l. Refused m pc 0 None 0 (records l) x) w (refused_at m pc 0 None o h) in
      record { answer = λ C sh W U M. starts C sh ∙ f.says C sh [] (λ c. c) (alike C sh W U M) }

  pub program_read : (xs : List Instruction) (p : Program) (end : Cursor) → BlockRead m pc 0 None at_start.place (records at_start.left.now) xs p.instructions p.count (records end.left.now)
      → p.count ≡ end.place → BlockForward None at_start end → ProgramRead m bs p
  program_read xs p end h q f =
      let B = subst (λ l. BlockRead m pc 0 None 0 (records l) xs p.instructions p.count (records end.left.now)) w (block_at m pc 0 None o h) in
      let c = body B.reads in
      let n = body_size B.reads in
      record {
        command = c;
        answer = λ C sh W U M.
            starts C sh ∙ B.reads.goes C sh [] (λ c. c) (alike C sh W U M) ∙ ap (λ l. answer C sh (at p.count [] (context_of pc) (λ c. B.reads.commands c)) l) B.ends
            ∙ end_of_records C sh p.count [] (context_of pc) (λ c. B.reads.commands c);
        keeps = record {
          instructions = ap (λ (i : ℕ). take i p.instructions) (omega (arith, n, long c)) ∙ slice p.instructions 0 (linked c) (body_stands B.reads) (omega (arith, n, long c, p.full, p.within));
          placed = body_placed B.reads;
        };
        count = omega (arith, q, o, f.0, f.2, ap length w, whole);
      }
