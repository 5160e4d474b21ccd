-- What is accepted is a valid program, written. Assumes nothing.
use Rattle.std.proofs.Common.{◌≡◌, ℕ, suc, ◌+◌, ◌≤◌, true, ◌&&◌, eqb, List, [], ◌∷◌, ◌++◌, length, sym, refl, ap, ◌∙◌, subst, inl, inr, arith, w32, to_z, of_z}
use mir.Facts.{sfits_to_z}
use Rattle.std.proofs.lemmas.List.{append_assoc, append-nil}
use Rattle.std.proofs.lemmas.Int.{of_z-to_z}
use Rattle.std.proofs.lemmas.Bool.{cases_eq, and_parts, eqb-true, leb-true}
use Rattle.lattice.specs.Lattice.{Lattice, Lawful}
use Rattle.records.specs.declared.Record.{Record}
use Rattle.records.specs.Refusals.{refusal}
use Rattle.records.specs.Records.{Each, Fit}
use Rattle.records.specs.Rules.{accepted, rule}
use Rattle.records.proofs.Firsts.{refused_accepted, took_all}
use Rattle.policy.specs.Policy.{leaf}
use Rattle.policy.specs.Masks.{members}
use Rattle.sheet.specs.Sheet.{Sheet, policy_of, level_of, permit_at}
use Rattle.machine.specs.Command.{Sign, plus, minus, times, less, equal, Command, skip, ◌⨾◌, set, combine, release, raise, while}
use Rattle.machine.specs.SoundSheet.{HasVariable}
use Rattle.machine.specs.Typing.{Context, outermost, under_variable, under_condition, under_conditions, ContextFlowsTo, WellTyped}
use Rattle.program.specs.Deciding.{flows}
use Rattle.program.specs.Written.{fields, letter_of, written}
use Rattle.program.specs.Rules.{Test, on_variable, on_condition, tested, branch, Block, then_block, else_block, loop_block, at, Kind, kind, sets, signs, releases, raises, variable_tests, condition_tests, loops, elses, ends, others, rest_zero, widest, answer, start}
use Rattle.program.specs.Checks.{set_fields, three_fields, raise_fields, variable_test_fields, condition_test_fields, mark_fields}
use Rattle.program.specs.Valid.{Nested, NumbersFit}
use Rattle.program.specs.Acceptance.{UsableSheet}
use Rattle.program.proofs.Deciding.{flows_sound}
use Rattle.program.proofs.Steps as steps
use Rattle.program.specs.Reading.{Declared}
use Rattle.program.proofs.Contexts.{declared_outermost, declared_variable_lem, declared_condition_lem, HasTested, declared_tested, within_took, flows_within, two_read, permit_declared}

-- ── records by their kind ──

abbrev Spelled : ℕ → Kind → Type 0
Spelled l sets = l ≡ 83
Spelled l (signs s) = l ≡ letter_of s
Spelled l releases = l ≡ 68
Spelled l raises = l ≡ 85
Spelled l variable_tests = l ≡ 73
Spelled l condition_tests = l ≡ 81
Spelled l loops = l ≡ 87
Spelled l elses = l ≡ 74
Spelled l ends = l ≡ 75
Spelled l others = Unit {0}

spelled : (l : ℕ) → Spelled l (kind l)
spelled l = elim (cases_eq l 83) [
  | inl e ↦ subst (Spelled l) (sym (steps.kind_set l e)) e
  | inr n83 ↦ elim (cases_eq l 43) [
    | inl e ↦ subst (Spelled l) (sym (steps.kind_sign plus l e)) e
    | inr n43 ↦ elim (cases_eq l 45) [
      | inl e ↦ subst (Spelled l) (sym (steps.kind_sign minus l e)) e
      | inr n45 ↦ elim (cases_eq l 42) [
        | inl e ↦ subst (Spelled l) (sym (steps.kind_sign times l e)) e
        | inr n42 ↦ elim (cases_eq l 60) [
          | inl e ↦ subst (Spelled l) (sym (steps.kind_sign less l e)) e
          | inr n60 ↦ elim (cases_eq l 61) [
            | inl e ↦ subst (Spelled l) (sym (steps.kind_sign equal l e)) e
            | inr n61 ↦ elim (cases_eq l 68) [
              | inl e ↦ subst (Spelled l) (sym (steps.kind_release l e)) e
              | inr n68 ↦ elim (cases_eq l 85) [
                | inl e ↦ subst (Spelled l) (sym (steps.kind_raise l e)) e
                | inr n85 ↦ elim (cases_eq l 73) [
                  | inl e ↦ subst (Spelled l) (sym (steps.kind_variable_test l e)) e
                  | inr n73 ↦ elim (cases_eq l 81) [
                    | inl e ↦ subst (Spelled l) (sym (steps.kind_condition_test l e)) e
                    | inr n81 ↦ elim (cases_eq l 87) [
                      | inl e ↦ subst (Spelled l) (sym (steps.kind_loop l e)) e
                      | inr n87 ↦ elim (cases_eq l 74) [
                        | inl e ↦ subst (Spelled l) (sym (steps.kind_else l e)) e
                        | inr n74 ↦ elim (cases_eq l 75) [
                          | inl e ↦ subst (Spelled l) (sym (steps.kind_end l e)) e
                          | inr n75 ↦ subst (Spelled l) (sym (steps.kind_other l n83 (not_sign n43 n45 n42 n60 n61) n68 n85 n73 n81 n87 n74 n75)) tt
                        ]
                      ]
                    ]
                  ]
                ]
              ]
            ]
          ]
        ]
      ]
    ]
  ]
]
  where
    not_sign : (l ≡ 43 → ⊥) → (l ≡ 45 → ⊥) → (l ≡ 42 → ⊥) → (l ≡ 60 → ⊥) → (l ≡ 61 → ⊥) → (s : Sign) → l ≡ letter_of s → ⊥
    not_sign a b c d e plus = a
    not_sign a b c d e minus = b
    not_sign a b c d e times = c
    not_sign a b c d e less = d
    not_sign a b c d e equal = e

-- the record is the one that is written where its kind and its zero fields say so
set_is : (r : Record) → r.letter ≡ 83 → rest_zero r sets ≡ true → Fit r → r ≡ record { letter = 83; a = r.a; b = 0; c = 0; n = of_z w32 (to_z w32 r.n) }
set_is r e h f =
    let p = and_parts (eqb r.b 0) (eqb r.c 0) h in
    λ i. record { letter = e i; a = r.a; b = eqb-true r.b 0 p.0 i; c = eqb-true r.c 0 p.1 i; n = sym (of_z-to_z w32 r.n f) i }

three_is : (r : Record) (l : ℕ) → r.letter ≡ l → eqb r.n 0 ≡ true → r ≡ fields l r.a r.b r.c
three_is r l e h = λ i. record { letter = e i; a = r.a; b = r.b; c = r.c; n = eqb-true r.n 0 h i }

first_is : (r : Record) (l : ℕ) → r.letter ≡ l → (eqb r.b 0 && (eqb r.c 0 && eqb r.n 0)) ≡ true → r ≡ fields l r.a 0 0
first_is r l e h =
    let p = and_parts (eqb r.b 0) (eqb r.c 0 && eqb r.n 0) h in
    let q = and_parts (eqb r.c 0) (eqb r.n 0) p.1 in
    λ i. record { letter = e i; a = r.a; b = eqb-true r.b 0 p.0 i; c = eqb-true r.c 0 q.0 i; n = eqb-true r.n 0 q.1 i }

second_is : (r : Record) (l : ℕ) → r.letter ≡ l → (eqb r.a 0 && (eqb r.c 0 && eqb r.n 0)) ≡ true → r ≡ fields l 0 r.b 0
second_is r l e h =
    let p = and_parts (eqb r.a 0) (eqb r.c 0 && eqb r.n 0) h in
    let q = and_parts (eqb r.c 0) (eqb r.n 0) p.1 in
    λ i. record { letter = e i; a = eqb-true r.a 0 p.0 i; b = r.b; c = eqb-true r.c 0 q.0 i; n = eqb-true r.n 0 q.1 i }

mark_is : (r : Record) (l : ℕ) → r.letter ≡ l → (eqb r.a 0 && (eqb r.b 0 && (eqb r.c 0 && eqb r.n 0))) ≡ true → r ≡ fields l 0 0 0
mark_is r l e h =
    let o = and_parts (eqb r.a 0) (eqb r.b 0 && (eqb r.c 0 && eqb r.n 0)) h in
    let p = and_parts (eqb r.b 0) (eqb r.c 0 && eqb r.n 0) o.1 in
    let q = and_parts (eqb r.c 0) (eqb r.n 0) p.1 in
    λ i. record { letter = e i; a = eqb-true r.a 0 o.0 i; b = eqb-true r.b 0 p.0 i; c = eqb-true r.c 0 q.0 i; n = eqb-true r.n 0 q.1 i }

-- ── lists ──

module _ {X : Type 0} where
  -- O stands before the block, P in it, T is a command's record
  one_more : (O P rs : List X) (r : X) → O ++ ((P ++ ((r ∷ []) ++ [])) ++ rs) ≡ O ++ (P ++ (r ∷ rs))
  one_more O P rs r = ap (λ l. O ++ l) (append_assoc P (r ∷ []) rs)

  opening : (O P rs : List X) (t : X) → (O ++ (P ++ (t ∷ []))) ++ rs ≡ O ++ (P ++ (t ∷ rs))
  opening O P rs t = append_assoc O (P ++ (t ∷ [])) rs ∙ ap (λ l. O ++ l) (append_assoc P (t ∷ []) rs)

  turning : (O P B rs : List X) (t j : X) → (O ++ (P ++ (t ∷ (B ++ (j ∷ []))))) ++ rs ≡ (O ++ (P ++ (t ∷ []))) ++ (B ++ (j ∷ rs))
  turning O P B rs t j =
      append_assoc O (P ++ (t ∷ (B ++ (j ∷ [])))) rs
      ∙ ap (λ l. O ++ l) (append_assoc P (t ∷ (B ++ (j ∷ []))) rs ∙ ap (λ l. P ++ (t ∷ l)) (append_assoc B (j ∷ []) rs))
      ∙ sym (opening O P (B ++ (j ∷ rs)) t)

  closing_loop : (O P B rs : List X) (t k : X) → O ++ ((P ++ ((t ∷ (B ++ (k ∷ []))) ++ [])) ++ rs) ≡ (O ++ (P ++ (t ∷ []))) ++ (B ++ (k ∷ rs))
  closing_loop O P B rs t k =
      ap (λ l. O ++ ((P ++ l) ++ rs)) (append-nil (t ∷ (B ++ (k ∷ []))))
      ∙ sym (append_assoc O (P ++ (t ∷ (B ++ (k ∷ [])))) rs) ∙ turning O P B rs t k

  closing_test : (O P A B rs : List X) (t j k : X)
      → O ++ ((P ++ ((t ∷ (A ++ (j ∷ (B ++ (k ∷ []))))) ++ [])) ++ rs) ≡ (O ++ (P ++ (t ∷ (A ++ (j ∷ []))))) ++ (B ++ (k ∷ rs))
  closing_test O P A B rs t j k =
      ap (λ l. O ++ ((P ++ ((t ∷ l) ++ [])) ++ rs)) (sym (append_assoc A (j ∷ B) (k ∷ [])))
      ∙ closing_loop O P (A ++ (j ∷ B)) rs t k
      ∙ ap (λ l. (O ++ (P ++ (t ∷ []))) ++ l) (append_assoc A (j ∷ B) (k ∷ rs))
      ∙ sym (turning O P A (B ++ (k ∷ rs)) t j)

-- ── what the records so far have established ──

shallower : (n : ℕ) (c : Command) → Nested (suc n + 1) c → Nested (n + 1 + 1) c
shallower n c h = subst (λ m. Nested m c) (omega arith) h

test_record : Test → Record
test_record (on_variable v) = fields 73 0 v 0
test_record (on_condition c) = fields 81 c 0 0

-- `F` grants that the numbers read have 32 bits
module _ {C : Lattice} (W : Lawful C) (sh : Sheet) (U : UsableSheet C sh) (F : Type 0) where
  -- a whole block
  record Whole (pc : Context) (depth : ℕ) (c : Command) : Type 0 where
    typed : WellTyped C sh pc c
    nested : Nested depth c
    numbers : F → NumbersFit c

  -- the front of a block, whatever follows
  record Front (pc : Context) (depth : ℕ) (commands : Command → Command) : Type 0 where
    typed : (k : Command) → WellTyped C sh pc k → WellTyped C sh pc (commands k)
    nested : (k : Command) → Nested depth k → Nested depth (commands k)
    numbers : F → (k : Command) → NumbersFit k → NumbersFit (commands k)
    writes : (k : Command) → written (commands k) ≡ written (commands skip) ++ written k

  nothing : (pc : Context) (depth : ℕ) → Front pc depth (λ k. k)
  unfolding written
  nothing pc depth = record { typed = λ k h. h; nested = λ k h. h; numbers = λ f k h. h; writes = λ k. refl }

  whole : (pc : Context) (depth : ℕ) (commands : Command → Command) → Front pc depth commands → Whole pc depth (commands skip)
  whole pc depth commands f = record { typed = f.typed skip tt; nested = f.nested skip tt; numbers = λ g. f.numbers g skip tt }

  longer : (pc : Context) (depth : ℕ) (commands : Command → Command) (c : Command) → Front pc depth commands → Whole pc depth c → Front pc depth (λ k. commands (c ⨾ k))
  unfolding written
  longer pc depth commands c f w = record {
    typed = λ k h. f.typed (c ⨾ k) (w.typed, h);
    nested = λ k h. f.nested (c ⨾ k) (w.nested, h);
    numbers = λ g k h. f.numbers g (c ⨾ k) (w.numbers g, h);
    writes = λ k.
        f.writes (c ⨾ k)
        ∙ sym (append_assoc (written (commands skip)) (written c) (written k))
        ∙ ap (λ l. (written (commands skip) ++ l) ++ written k) (sym (append-nil (written c)))
        ∙ ap (λ l. l ++ written k) (sym (f.writes (c ⨾ skip)));
  }

  -- what holds of an open block: the commands before it, and how deep it is
  record Opened (blocks : List Block) (around : Context) (before : Command → Command) : Type 0 where
    declared : Declared sh around
    front : Front around (length blocks + 1) before
    depth : length blocks + 1 ≤ 8

  abbrev Standing : List Block → Context → Type 0
  Standing [] pc = pc ≡ outermost
  Standing (then_block t around before ∷ bs) pc = Opened bs around before × HasTested sh t × (pc ≡ tested t around) × Standing bs around
  Standing (else_block t c around before ∷ bs) pc = Opened bs around before × HasTested sh t × (pc ≡ tested t around) × Whole (tested t around) (length bs + 1 + 1) c × Standing bs around
  Standing (loop_block v around before ∷ bs) pc =
      Opened bs around before × HasVariable sh v × ContextFlowsTo C sh (under_variable v around) (leaf C.lowest) × (pc ≡ under_variable v around) × Standing bs around

  -- the records before the innermost block
  abbrev written_before : List Block → List Record
  written_before [] = []
  written_before (then_block t around before ∷ bs) = written_before bs ++ (written (before skip) ++ (test_record t ∷ []))
  written_before (else_block t c around before ∷ bs) = written_before bs ++ (written (before skip) ++ (test_record t ∷ (written c ++ (fields 74 0 0 0 ∷ []))))
  written_before (loop_block v around before ∷ bs) = written_before bs ++ (written (before skip) ++ (fields 87 0 v 0 ∷ []))

  record Got (blocks : List Block) (commands : Command → Command) (rs : List Record) (x : Command) : Type 0 where
    program : Whole outermost 1 x
    writes : F → written x ≡ written_before blocks ++ (written (commands skip) ++ rs)

  abbrev Reads : List Record → Type 0
  Reads rs = (place : ℕ) (blocks : List Block) (pc : Context) (commands : Command → Command) (x : Command) → Declared sh pc → Front pc (length blocks + 1) commands → Standing blocks pc
      → answer C sh (at place blocks pc commands) rs ≡ accepted x → Got blocks commands rs x

  -- ── one record more ──

  after : (blocks : List Block) (pc : Context) (depth : ℕ) (commands : Command → Command) (c : Command) (r : Record) (rs : List Record) (x : Command)
      → Front pc depth commands → (F → written c ≡ r ∷ []) → Got blocks (λ k. commands (c ⨾ k)) rs x → Got blocks commands (r ∷ rs) x
  unfolding written
  after blocks pc depth commands c r rs x f e g = record {
    program = g.program;
    writes = λ h.
        g.writes h
        ∙ ap (λ l. written_before blocks ++ (l ++ rs)) (f.writes (c ⨾ skip) ∙ ap (λ l. written (commands skip) ++ (l ++ [])) (e h))
        ∙ one_more (written_before blocks) (written (commands skip)) rs r;
  }

  opens_test : (t : Test) (blocks : List Block) (pc : Context) (commands : Command → Command) (r : Record) (rs : List Record) (x : Command)
      → r ≡ test_record t → Got (then_block t pc commands ∷ blocks) (λ k. k) rs x → Got blocks commands (r ∷ rs) x
  unfolding written
  opens_test t blocks pc commands r rs x e g = record {
    program = g.program;
    writes = λ h. g.writes h ∙ opening (written_before blocks) (written (commands skip)) rs (test_record t) ∙ ap (λ y. written_before blocks ++ (written (commands skip) ++ (y ∷ rs))) (sym e);
  }

  opens_loop : (v : ℕ) (blocks : List Block) (pc : Context) (commands : Command → Command) (r : Record) (rs : List Record) (x : Command)
      → r ≡ fields 87 0 v 0 → Got (loop_block v pc commands ∷ blocks) (λ k. k) rs x → Got blocks commands (r ∷ rs) x
  unfolding written
  opens_loop v blocks pc commands r rs x e g = record {
    program = g.program;
    writes = λ h. g.writes h ∙ opening (written_before blocks) (written (commands skip)) rs (fields 87 0 v 0) ∙ ap (λ y. written_before blocks ++ (written (commands skip) ++ (y ∷ rs))) (sym e);
  }

  turns : (t : Test) (blocks : List Block) (around : Context) (before commands : Command → Command) (r : Record) (rs : List Record) (x : Command)
      → r ≡ fields 74 0 0 0 → Got (else_block t (commands skip) around before ∷ blocks) (λ k. k) rs x → Got (then_block t around before ∷ blocks) commands (r ∷ rs) x
  unfolding written
  turns t blocks around before commands r rs x e g = record {
    program = g.program;
    writes = λ h.
        g.writes h
        ∙ turning (written_before blocks) (written (before skip)) (written (commands skip)) rs (test_record t) (fields 74 0 0 0)
        ∙ ap (λ y. written_before (then_block t around before ∷ blocks) ++ (written (commands skip) ++ (y ∷ rs))) (sym e);
  }

  branch_written : (t : Test) (c d : Command) → written (branch t c d) ≡ test_record t ∷ (written c ++ (fields 74 0 0 0 ∷ (written d ++ (fields 75 0 0 0 ∷ []))))
  unfolding written test_record
  branch_written (on_variable v) c d = refl
  branch_written (on_condition a) c d = refl

  closes_test : (t : Test) (c : Command) (blocks : List Block) (around : Context) (depth : ℕ) (before commands : Command → Command) (r : Record) (rs : List Record) (x : Command)
      → Front around depth before → r ≡ fields 75 0 0 0 → Got blocks (λ k. before (branch t c (commands skip) ⨾ k)) rs x → Got (else_block t c around before ∷ blocks) commands (r ∷ rs) x
  unfolding written
  closes_test t c blocks around depth before commands r rs x f e g = record {
    program = g.program;
    writes = λ h.
        g.writes h
        ∙ ap (λ l. written_before blocks ++ (l ++ rs)) (f.writes (branch t c (commands skip) ⨾ skip) ∙ ap (λ l. written (before skip) ++ (l ++ [])) (branch_written t c (commands skip)))
        ∙ closing_test (written_before blocks) (written (before skip)) (written c) (written (commands skip)) rs (test_record t) (fields 74 0 0 0) (fields 75 0 0 0)
        ∙ ap (λ y. written_before (else_block t c around before ∷ blocks) ++ (written (commands skip) ++ (y ∷ rs))) (sym e);
  }

  closes_loop : (v : ℕ) (blocks : List Block) (around : Context) (depth : ℕ) (before commands : Command → Command) (r : Record) (rs : List Record) (x : Command)
      → Front around depth before → r ≡ fields 75 0 0 0 → Got blocks (λ k. before (while v (commands skip) ⨾ k)) rs x → Got (loop_block v around before ∷ blocks) commands (r ∷ rs) x
  unfolding written
  closes_loop v blocks around depth before commands r rs x f e g = record {
    program = g.program;
    writes = λ h.
        g.writes h
        ∙ ap (λ l. written_before blocks ++ (l ++ rs)) (f.writes (while v (commands skip) ⨾ skip))
        ∙ closing_loop (written_before blocks) (written (before skip)) (written (commands skip)) rs (fields 87 0 v 0) (fields 75 0 0 0)
        ∙ ap (λ y. written_before (loop_block v around before ∷ blocks) ++ (written (commands skip) ++ (y ∷ rs))) (sym e);
  }

  -- a test and its two blocks, and a loop, are whole
  whole_test : (t : Test) (pc : Context) (n : ℕ) (c d : Command) → HasTested sh t → n + 1 ≤ 8 → Whole (tested t pc) (n + 1 + 1) c → Whole (tested t pc) (n + 1 + 1) d → Whole pc (n + 1) (branch t c d)
  whole_test (on_variable v) pc n c d h l w z = record { typed = (h, w.typed, z.typed); nested = (l, w.nested, z.nested); numbers = λ g. (w.numbers g, z.numbers g) }
  whole_test (on_condition a) pc n c d h l w z = record { typed = (h, w.typed, z.typed); nested = (l, w.nested, z.nested); numbers = λ g. (w.numbers g, z.numbers g) }

  -- the block that ends, under the context in which it began
  inner : (pc pc' : Context) (n : ℕ) (commands : Command → Command) → pc ≡ pc' → Front pc (suc n + 1) commands → Whole pc' (n + 1 + 1) (commands skip)
  inner pc pc' n commands e f =
      let w = whole pc (suc n + 1) commands f in
      record { typed = subst (λ y. WellTyped C sh y (commands skip)) e w.typed; nested = shallower n (commands skip) w.nested; numbers = w.numbers }

  read_end : Reads []
  unfolding written
  read_end place [] pc commands x d f st h =
      let t = took_all (rule 12 place 0 true ∷ []) (accepted (commands skip)) x (sym (steps.end_of_records C sh place [] pc commands) ∙ h) in
      let e : commands skip ≡ x = cc t.1 in
      let w = whole pc 1 commands f in
      subst (λ y. Got [] commands [] y) e record {
        program = record { typed = subst (λ y. WellTyped C sh y (commands skip)) st w.typed; nested = w.nested; numbers = w.numbers };
        writes = λ g. sym (append-nil (written (commands skip)));
      }
  read_end place (b ∷ bs) pc commands x d f st h = refused_accepted (refusal 12 place 0) x (sym (steps.end_of_records C sh place (b ∷ bs) pc commands) ∙ h)

  module _ (r : Record) (rs : List Record) (fit : F → Fit r) (next : Reads rs) where
    read_set : r.letter ≡ 83 → Reads (r ∷ rs)
    unfolding written
    read_set e place blocks pc commands x d f st h =
        let c = set r.a (to_z w32 r.n) in
        let p = policy_of sh r.a in
        let t = took_all (set_fields r place (length sh.variables)) _ x (sym (steps.set_step C sh place blocks pc commands r rs e) ∙ h) in
        let u = within_took 16 place pc (widest C sh p) _ x t.1 in
        let has = t.0.1.0 in
        after blocks pc (length blocks + 1) commands c r rs x f (λ g. ap (λ y. y ∷ []) (sym (set_is r e t.0.0 (fit g))))
        (next (place + 1) blocks pc (λ k. commands (c ⨾ k)) x d
        (longer pc (length blocks + 1) commands c f record {
          typed = (has, flows_within W sh U pc p d (U.sound.variables r.a has) u.0);
          nested = tt;
          numbers = λ g. sfits_to_z (record { fits = fit g });
        })
        st u.1)

    read_sign : (s : Sign) → r.letter ≡ letter_of s → Reads (r ∷ rs)
    unfolding written
    read_sign s e place blocks pc commands x d f st h =
        let c = combine s r.a r.b r.c in
        let p = policy_of sh r.a in
        let count = length sh.variables in
        let t = took_all (three_fields r place count count) _ x (sym (steps.sign_step C sh place blocks pc commands r rs s e) ∙ h) in
        let reads = under_variable r.b (under_variable r.c pc) in
        let u = within_took 16 place reads (widest C sh p) _ x t.1 in
        let hasA = t.0.1.0 in
        let has_b = t.0.1.1.0 in
        let hasC = t.0.1.1.1.0 in
        let dr = declared_variable_lem sh r.b (under_variable r.c pc) has_b (declared_variable_lem sh r.c pc hasC d) in
        let flow = two_read W sh U r.b r.c pc p (flows_within W sh U reads p dr (U.sound.variables r.a hasA) u.0) in
        after blocks pc (length blocks + 1) commands c r rs x f (λ g. ap (λ y. y ∷ []) (sym (three_is r (letter_of s) e t.0.0)))
        (next (place + 1) blocks pc (λ k. commands (c ⨾ k)) x d
        (longer pc (length blocks + 1) commands c f record { typed = (hasA, has_b, hasC, flow.0, flow.1, flow.2); nested = tt; numbers = λ g. tt }) st u.1)

    read_release : r.letter ≡ 68 → Reads (r ∷ rs)
    unfolding written
    read_release e place blocks pc commands x d f st h =
        let c = release r.a r.b r.c in
        let p = policy_of sh r.a in
        let permit = permit_at sh r.c in
        let t = took_all (three_fields r place (length sh.variables) (length sh.permits)) _ x (sym (steps.release_step C sh place blocks pc commands r rs e) ∙ h) in
        let under = under_conditions (members permit.conditions) pc in
        let u = within_took 16 place under (widest C sh p) _ x t.1 in
        let w = took_all (rule 16 place (512 + r.c) (flows C permit.to p) ∷ rule 18 place 0 (flows C (policy_of sh r.b) permit.from) ∷ []) _ x u.1 in
        let hasA = t.0.1.0 in
        let has_b = t.0.1.1.0 in
        let hasC = t.0.1.1.1.0 in
        let known = U.sound.permits r.c hasC in
        let knownA = U.sound.variables r.a hasA in
        after blocks pc (length blocks + 1) commands c r rs x f (λ g. ap (λ y. y ∷ []) (sym (three_is r 68 e t.0.0)))
        (next (place + 1) blocks pc (λ k. commands (c ⨾ k)) x d
        (longer pc (length blocks + 1) commands c f record {
          typed = (
            hasA,
            has_b,
            hasC,
            flows_within W sh U under p (permit_declared W sh U r.c pc hasC d) knownA u.0,
            flows_sound W permit.to p known.1 knownA w.0.0,
            flows_sound W (policy_of sh r.b) permit.from (U.sound.variables r.b has_b) known.0 w.0.1.0,
          );
          nested = tt;
          numbers = λ g. tt;
        })
        st w.1)

    read_raise : r.letter ≡ 85 → Reads (r ∷ rs)
    unfolding written
    read_raise e place blocks pc commands x d f st h =
        let c = raise r.a in
        let p = leaf (level_of sh r.a) in
        let t = took_all (raise_fields r place (length sh.conditions)) _ x (sym (steps.raise_step C sh place blocks pc commands r rs e) ∙ h) in
        let u = within_took 16 place pc (widest C sh p) _ x t.1 in
        let has = t.0.1.0 in
        after blocks pc (length blocks + 1) commands c r rs x f (λ g. ap (λ y. y ∷ []) (sym (first_is r 85 e t.0.0)))
        (next (place + 1) blocks pc (λ k. commands (c ⨾ k)) x d
        (longer pc (length blocks + 1) commands c f record { typed = (has, flows_within W sh U pc p d (U.sound.conditions r.a has) u.0); nested = tt; numbers = λ g. tt }) st u.1)

    read_variable_test : r.letter ≡ 73 → Reads (r ∷ rs)
    unfolding test_record
    read_variable_test e place blocks pc commands x d f st h =
        let t = took_all (variable_test_fields r place (length sh.variables) (length blocks)) _ x (sym (steps.variable_test_step C sh place blocks pc commands r rs e) ∙ h) in
        let has = t.0.1.0 in
        let within = under_variable r.b pc in
        opens_test (on_variable r.b) blocks pc commands r rs x (second_is r 73 e t.0.0)
        (next (place + 1) (then_block (on_variable r.b) pc commands ∷ blocks) within (λ k. k) x (declared_variable_lem sh r.b pc has d) (nothing within (suc (length blocks) + 1))
        (record { declared = d; front = f; depth = leb-true (length blocks + 1) 8 t.0.1.1.0 }, has, refl, st) t.1)

    read_condition_test : r.letter ≡ 81 → Reads (r ∷ rs)
    unfolding test_record
    read_condition_test e place blocks pc commands x d f st h =
        let t = took_all (condition_test_fields r place (length sh.conditions) (length blocks)) _ x (sym (steps.condition_test_step C sh place blocks pc commands r rs e) ∙ h) in
        let has = t.0.1.0 in
        let within = under_condition r.a pc in
        opens_test (on_condition r.a) blocks pc commands r rs x (first_is r 81 e t.0.0)
        (next (place + 1) (then_block (on_condition r.a) pc commands ∷ blocks) within (λ k. k) x (declared_condition_lem sh r.a pc has d) (nothing within (suc (length blocks) + 1))
        (record { declared = d; front = f; depth = leb-true (length blocks + 1) 8 t.0.1.1.0 }, has, refl, st) t.1)

    read_loop : r.letter ≡ 87 → Reads (r ∷ rs)
    read_loop e place blocks pc commands x d f st h =
        let t = took_all (variable_test_fields r place (length sh.variables) (length blocks)) _ x (sym (steps.loop_step C sh place blocks pc commands r rs e) ∙ h) in
        let within = under_variable r.b pc in
        let u = within_took 17 place within (widest C sh (leaf C.lowest)) _ x t.1 in
        let has = t.0.1.0 in
        let dw = declared_variable_lem sh r.b pc has d in
        opens_loop r.b blocks pc commands r rs x (second_is r 87 e t.0.0)
        (next (place + 1) (loop_block r.b pc commands ∷ blocks) within (λ k. k) x dw (nothing within (suc (length blocks) + 1))
        (record { declared = d; front = f; depth = leb-true (length blocks + 1) 8 t.0.1.1.0 }, has, flows_within W sh U within (leaf C.lowest) dw W.lowest_known u.0, refl, st) u.1)

    read_else : r.letter ≡ 74 → Reads (r ∷ rs)
    read_else e place [] pc commands x d f st h = refused_accepted (refusal 12 place 0) x (sym (steps.misplaced C sh place [] pc commands r rs elses (steps.kind_else r.letter e) refl) ∙ h)
    read_else e place (else_block t c around before ∷ bs) pc commands x d f st h =
        refused_accepted (refusal 12 place 0) x (sym (steps.misplaced C sh place (else_block t c around before ∷ bs) pc commands r rs elses (steps.kind_else r.letter e) refl) ∙ h)
    read_else e place (loop_block v around before ∷ bs) pc commands x d f st h =
        refused_accepted (refusal 12 place 0) x (sym (steps.misplaced C sh place (loop_block v around before ∷ bs) pc commands r rs elses (steps.kind_else r.letter e) refl) ∙ h)
    read_else e place (then_block t around before ∷ bs) pc commands x d f st h =
        let o = st.0 in
        let took = took_all (mark_fields r place) _ x (sym (steps.else_step C sh place pc commands around before bs r rs t e) ∙ h) in
        turns t bs around before commands r rs x (mark_is r 74 e took.0.0)
        (next (place + 1) (else_block t (commands skip) around before ∷ bs) (tested t around) (λ k. k) x (declared_tested sh t around st.1 o.declared) (nothing (tested t around) (suc (length bs) + 1))
        (o, st.1, refl, inner pc (tested t around) (length bs) commands st.2 f, st.3) took.1)

    read_end_mark : r.letter ≡ 75 → Reads (r ∷ rs)
    read_end_mark e place [] pc commands x d f st h = refused_accepted (refusal 12 place 0) x (sym (steps.misplaced C sh place [] pc commands r rs ends (steps.kind_end r.letter e) refl) ∙ h)
    read_end_mark e place (then_block t around before ∷ bs) pc commands x d f st h =
        refused_accepted (refusal 12 place 0) x (sym (steps.misplaced C sh place (then_block t around before ∷ bs) pc commands r rs ends (steps.kind_end r.letter e) refl) ∙ h)
    read_end_mark e place (else_block t c around before ∷ bs) pc commands x d f st h =
        let o = st.0 in
        let took = took_all (mark_fields r place) _ x (sym (steps.end_step C sh place pc commands around before bs r rs t c e) ∙ h) in
        let b = branch t c (commands skip) in
        let w = whole_test t around (length bs) c (commands skip) st.1 o.depth st.3 (inner pc (tested t around) (length bs) commands st.2 f) in
        closes_test t c bs around (length bs + 1) before commands r rs x o.front (mark_is r 75 e took.0.0)
        (next (place + 1) bs around (λ k. before (b ⨾ k)) x o.declared (longer around (length bs + 1) before b o.front w) st.4 took.1)
    read_end_mark e place (loop_block v around before ∷ bs) pc commands x d f st h =
        let o = st.0 in
        let took = took_all (mark_fields r place) _ x (sym (steps.loop_end_step C sh place pc commands around before bs r rs v e) ∙ h) in
        let b = while v (commands skip) in
        let w = inner pc (under_variable v around) (length bs) commands st.3 f in
        closes_loop v bs around (length bs + 1) before commands r rs x o.front (mark_is r 75 e took.0.0)
        (next (place + 1) bs around (λ k. before (b ⨾ k)) x o.declared
        (longer around (length bs + 1) before b o.front record { typed = (st.1, st.2, w.typed); nested = (o.depth, w.nested); numbers = w.numbers }) st.4 took.1)

    read_record : (k : Kind) → kind r.letter ≡ k → Spelled r.letter k → Reads (r ∷ rs)
    read_record sets e l = read_set l
    read_record (signs s) e l = read_sign s l
    read_record releases e l = read_release l
    read_record raises e l = read_raise l
    read_record variable_tests e l = read_variable_test l
    read_record condition_tests e l = read_condition_test l
    read_record loops e l = read_loop l
    read_record elses e l = read_else l
    read_record ends e l = read_end_mark l
    read_record others e l = λ place blocks pc commands x d f st h. refused_accepted (refusal 12 place 0) x (sym (steps.misplaced C sh place blocks pc commands r rs others e refl) ∙ h)

  read : (rs : List Record) → (F → Each Fit rs) → Reads rs
  read [] f = read_end
  read (r ∷ rs) f = read_record r rs (λ g. (f g).0) (read rs (λ g. (f g).1)) (kind r.letter) refl (spelled r.letter)

  got : (rs : List Record) → (F → Each Fit rs) → (x : Command) → answer C sh start rs ≡ accepted x → Got [] (λ k. k) rs x
  got rs f x h = read rs f 0 [] outermost (λ k. k) x (declared_outermost sh) (nothing outermost 1) refl h

module _ {C : Lattice} (W : Lawful C) (sh : Sheet) (U : UsableSheet C sh) (rs : List Record) (x : Command) where
  -- whatever the numbers, what is accepted is well-typed
  pub accepting_typed : answer C sh start rs ≡ accepted x → WellTyped C sh outermost x
  accepting_typed h = (got W sh U ⊥ rs (λ z. absurd z) x h).program.typed

  pub accepting : Each Fit rs → answer C sh start rs ≡ accepted x → WellTyped C sh outermost x × Nested 1 x × NumbersFit x × (written x ≡ rs)
  unfolding written
  accepting f h =
      let g = got W sh U (Unit {0}) rs (λ z. f) x h in
      (g.program.typed, g.program.nested, g.program.numbers tt, g.writes tt)
