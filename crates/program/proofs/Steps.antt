-- The answer one record on, for each letter. Assumes nothing.
use Rattle.std.proofs.Common.{◌≡◌, ℕ, ◌+◌, false, List, [], ◌∷◌, ◌++◌, length, refl, ap, ◌∙◌, w32, to_z}
use Rattle.std.proofs.lemmas.Bool.{ne_eqb, cond-false}
use Rattle.lattice.specs.Lattice.{Lattice}
use Rattle.records.specs.declared.Record.{Record}
use Rattle.records.specs.Rules.{accepted, rule, first, refused_by}
use Rattle.records.proofs.Firsts.{first_append}
use Rattle.policy.specs.Policy.{leaf}
use Rattle.policy.specs.Masks.{members}
use Rattle.sheet.specs.Sheet.{Sheet, policy_of, level_of, permit_at}
use Rattle.machine.specs.Command.{Sign, plus, minus, times, less, equal, Command, skip, ◌⨾◌, set, combine, release, raise, while}
use Rattle.machine.specs.Typing.{Context, under_variable, under_condition, under_conditions}
use Rattle.program.specs.Deciding.{flows}
use Rattle.program.specs.Written.{letter_of}
use Rattle.program.specs.Rules.{Test, on_variable, on_condition, tested, branch, Block, then_block, else_block, loop_block, State, at, Kind, kind, sets, signs, releases, raises, variable_tests, condition_tests, loops, elses, ends, others, may_stand, none, widest, each_within, rules, established, answer}
use Rattle.program.specs.Checks.{set_fields, three_fields, raise_fields, variable_test_fields, condition_test_fields, mark_fields}

-- ── which kind of record a letter opens ──

pub kind_set : (l : ℕ) → l ≡ 83 → kind l ≡ sets
kind_set l e = rw e refl

pub kind_sign : (s : Sign) (l : ℕ) → l ≡ letter_of s → kind l ≡ signs s
kind_sign plus l e = rw e refl
kind_sign minus l e = rw e refl
kind_sign times l e = rw e refl
kind_sign less l e = rw e refl
kind_sign equal l e = rw e refl

pub kind_release : (l : ℕ) → l ≡ 68 → kind l ≡ releases
kind_release l e = rw e refl

pub kind_raise : (l : ℕ) → l ≡ 85 → kind l ≡ raises
kind_raise l e = rw e refl

pub kind_variable_test : (l : ℕ) → l ≡ 73 → kind l ≡ variable_tests
kind_variable_test l e = rw e refl

pub kind_condition_test : (l : ℕ) → l ≡ 81 → kind l ≡ condition_tests
kind_condition_test l e = rw e refl

pub kind_loop : (l : ℕ) → l ≡ 87 → kind l ≡ loops
kind_loop l e = rw e refl

pub kind_else : (l : ℕ) → l ≡ 74 → kind l ≡ elses
kind_else l e = rw e refl

pub kind_end : (l : ℕ) → l ≡ 75 → kind l ≡ ends
kind_end l e = rw e refl

-- a letter that is none of these
pub kind_other : (l : ℕ) → (l ≡ 83 → ⊥) → ((s : Sign) → l ≡ letter_of s → ⊥) → (l ≡ 68 → ⊥) → (l ≡ 85 → ⊥) → (l ≡ 73 → ⊥) → (l ≡ 81 → ⊥) → (l ≡ 87 → ⊥) → (l ≡ 74 → ⊥) → (l ≡ 75 → ⊥)
    → kind l ≡ others
kind_other l s sign d u i q w j k =
    rw (ne_eqb l 83 s, ne_eqb l 43 (sign plus), ne_eqb l 45 (sign minus), ne_eqb l 42 (sign times), ne_eqb l 60 (sign less), ne_eqb l 61 (sign equal), ne_eqb l 68 d, ne_eqb l 85 u, ne_eqb l 73 i, ne_eqb l 81 q, ne_eqb l 87 w, ne_eqb l 74 j, ne_eqb l 75 k)
    refl

-- ── the answer ──

module _ (C : Lattice) (sh : Sheet) (place : ℕ) (blocks : List Block) (pc : Context) (commands : Command → Command) where
  abbrev s : State
  s = at place blocks pc commands

  -- no record left
  pub end_of_records : answer C sh s [] ≡ first (rule 12 place 0 (none blocks) ∷ []) (accepted (commands skip))
  unfolding answer
  end_of_records = refl

  module _ (r : Record) (rs : List Record) where
    pub step : (k : Kind) → kind r.letter ≡ k → answer C sh s (r ∷ rs) ≡ first (rules C sh s r k) (answer C sh (established s r k) rs)
    unfolding answer
    step k e = ap (λ x. first (rules C sh s r x) (answer C sh (established s r x) rs)) e

    -- a letter that may not stand here
    pub misplaced : (k : Kind) → kind r.letter ≡ k → may_stand blocks k ≡ false → answer C sh s (r ∷ rs) ≡ refused_by 12 place 0
    misplaced k e h = step k e ∙ cond-false (may_stand blocks k) _ _ h

    pub set_step : r.letter ≡ 83 → answer C sh s (r ∷ rs)
        ≡ first (set_fields r place (length sh.variables))
        (first (each_within 16 place pc (widest C sh (policy_of sh r.a)))
        (answer C sh (at (place + 1) blocks pc (λ rest. commands (set r.a (to_z w32 r.n) ⨾ rest))) rs))
    set_step e = step sets (kind_set r.letter e) ∙ ap (first (set_fields r place (length sh.variables))) (first_append (each_within 16 place pc (widest C sh (policy_of sh r.a))) [] _)

    pub sign_step : (sign : Sign) → r.letter ≡ letter_of sign → answer C sh s (r ∷ rs)
        ≡ first (three_fields r place (length sh.variables) (length sh.variables))
        (first (each_within 16 place (under_variable r.b (under_variable r.c pc)) (widest C sh (policy_of sh r.a)))
        (answer C sh (at (place + 1) blocks pc (λ rest. commands (combine sign r.a r.b r.c ⨾ rest))) rs))
    sign_step sign e =
        step (signs sign) (kind_sign sign r.letter e)
        ∙ ap (first (three_fields r place (length sh.variables) (length sh.variables))) (first_append (each_within 16 place (under_variable r.b (under_variable r.c pc)) (widest C sh (policy_of sh r.a))) [] _)

    pub release_step : r.letter ≡ 68 → answer C sh s (r ∷ rs)
        ≡ first (three_fields r place (length sh.variables) (length sh.permits))
        (first (each_within 16 place (under_conditions (members (permit_at sh r.c).conditions) pc) (widest C sh (policy_of sh r.a)))
        (first (rule 16 place (512 + r.c) (flows C (permit_at sh r.c).to (policy_of sh r.a)) ∷ rule 18 place 0 (flows C (policy_of sh r.b) (permit_at sh r.c).from) ∷ [])
        (answer C sh (at (place + 1) blocks pc (λ rest. commands (release r.a r.b r.c ⨾ rest))) rs)))
    release_step e =
        let within = each_within 16 place (under_conditions (members (permit_at sh r.c).conditions) pc) (widest C sh (policy_of sh r.a)) in
        let sixteen = rule 16 place (512 + r.c) (flows C (permit_at sh r.c).to (policy_of sh r.a)) ∷ [] in
        step releases (kind_release r.letter e)
        ∙ ap (first (three_fields r place (length sh.variables) (length sh.permits)))
        (first_append (within ++ sixteen) (rule 18 place 0 (flows C (policy_of sh r.b) (permit_at sh r.c).from) ∷ []) _ ∙ first_append within sixteen _)

    pub raise_step : r.letter ≡ 85 → answer C sh s (r ∷ rs)
        ≡ first (raise_fields r place (length sh.conditions))
        (first (each_within 16 place pc (widest C sh (leaf (level_of sh r.a))))
        (answer C sh (at (place + 1) blocks pc (λ rest. commands (raise r.a ⨾ rest))) rs))
    raise_step e = step raises (kind_raise r.letter e) ∙ ap (first (raise_fields r place (length sh.conditions))) (first_append (each_within 16 place pc (widest C sh (leaf (level_of sh r.a)))) [] _)

    pub variable_test_step : r.letter ≡ 73 → answer C sh s (r ∷ rs)
        ≡ first (variable_test_fields r place (length sh.variables) (length blocks))
        (answer C sh (at (place + 1) (then_block (on_variable r.b) pc commands ∷ blocks) (under_variable r.b pc) (λ rest. rest)) rs)
    variable_test_step e = step variable_tests (kind_variable_test r.letter e)

    pub condition_test_step : r.letter ≡ 81 → answer C sh s (r ∷ rs)
        ≡ first (condition_test_fields r place (length sh.conditions) (length blocks))
        (answer C sh (at (place + 1) (then_block (on_condition r.a) pc commands ∷ blocks) (under_condition r.a pc) (λ rest. rest)) rs)
    condition_test_step e = step condition_tests (kind_condition_test r.letter e)

    pub loop_step : r.letter ≡ 87 → answer C sh s (r ∷ rs)
        ≡ first (variable_test_fields r place (length sh.variables) (length blocks))
        (first (each_within 17 place (under_variable r.b pc) (widest C sh (leaf C.lowest)))
        (answer C sh (at (place + 1) (loop_block r.b pc commands ∷ blocks) (under_variable r.b pc) (λ rest. rest)) rs))
    loop_step e = step loops (kind_loop r.letter e)

module _ (C : Lattice) (sh : Sheet) (place : ℕ) (pc : Context) (commands : Command → Command) (around : Context) (before : Command → Command) (blocks : List Block) (r : Record) (rs : List Record) where
  -- J in the first block of a test
  pub else_step : (t : Test) → r.letter ≡ 74 → answer C sh (at place (then_block t around before ∷ blocks) pc commands) (r ∷ rs)
      ≡ first (mark_fields r place) (answer C sh (at (place + 1) (else_block t (commands skip) around before ∷ blocks) (tested t around) (λ rest. rest)) rs)
  else_step t e = step C sh place (then_block t around before ∷ blocks) pc commands r rs elses (kind_else r.letter e)

  -- K in the second block of a test
  pub end_step : (t : Test) (c : Command) → r.letter ≡ 75 → answer C sh (at place (else_block t c around before ∷ blocks) pc commands) (r ∷ rs)
      ≡ first (mark_fields r place) (answer C sh (at (place + 1) blocks around (λ rest. before (branch t c (commands skip) ⨾ rest))) rs)
  end_step t c e = step C sh place (else_block t c around before ∷ blocks) pc commands r rs ends (kind_end r.letter e)

  -- K in a loop's block
  pub loop_end_step : (v : ℕ) → r.letter ≡ 75 → answer C sh (at place (loop_block v around before ∷ blocks) pc commands) (r ∷ rs)
      ≡ first (mark_fields r place) (answer C sh (at (place + 1) blocks around (λ rest. before (while v (commands skip) ⨾ rest))) rs)
  loop_end_step v e = step C sh place (loop_block v around before ∷ blocks) pc commands r rs ends (kind_end r.letter e)
