-- A valid program, written, is accepted in its normal form. Assumes nothing.
use Rattle.std.proofs.Common.{◌≡◌, ℕ, suc, ◌+◌, List, [], ◌∷◌, ◌++◌, length, sym, refl, ap, ◌∙◌, subst, arith, w32, of_z}
use Rattle.std.proofs.lemmas.List.{append_assoc, append-nil}
use Rattle.std.proofs.lemmas.Int.{to_z-of_z}
use Rattle.std.proofs.lemmas.Bool.{le-leb}
use Rattle.lattice.specs.Lattice.{Lattice, Lawful}
use Rattle.records.specs.declared.Record.{Record}
use Rattle.records.specs.Rules.{Reading, accepted, rule, first}
use Rattle.records.proofs.Firsts.{first_holds}
use Rattle.policy.specs.Policy.{Policy, leaf, KnownLevels}
use Rattle.policy.specs.Masks.{members}
use Rattle.sheet.specs.Sheet.{Sheet, policy_of, level_of, permit_at}
use Rattle.machine.specs.Command.{Command, skip, ◌⨾◌, set, combine, release, raise, if_variable, if_condition, while}
use Rattle.machine.specs.Typing.{Context, outermost, under_variable, under_condition, under_conditions, ContextFlowsTo, WellTyped}
use Rattle.program.specs.Deciding.{flows}
use Rattle.program.specs.Written.{fields, letter_of, written}
use Rattle.program.specs.Rules.{Test, on_variable, on_condition, tested, branch, Block, then_block, else_block, loop_block, at, widest, each_within, answer, start}
use Rattle.program.specs.Checks.{set_fields, three_fields, raise_fields, variable_test_fields, condition_test_fields}
use Rattle.program.specs.Valid.{Nested, NumbersFit, Valid, before, normal}
use Rattle.program.specs.Acceptance.{UsableSheet}
use Rattle.program.proofs.Deciding.{flows_complete}
use Rattle.program.proofs.Steps as steps
use Rattle.program.specs.Reading.{Declared}
use Rattle.program.proofs.Contexts.{declared_outermost, declared_variable_lem, declared_condition_lem, within_passes, within_flows, reads_two, permit_declared}

abbrev J : Record
J = fields 74 0 0 0

abbrev K : Record
K = fields 75 0 0 0

abbrev test_record : Test → Record
test_record (on_variable v) = fields 73 0 v 0
test_record (on_condition c) = fields 81 c 0 0

three_parts : {X : Type 0} (xs ys ws : List X) (y z : X) → (xs ++ (y ∷ (ys ++ (z ∷ [])))) ++ ws ≡ xs ++ (y ∷ (ys ++ (z ∷ ws)))
three_parts xs ys ws y z = append_assoc xs (y ∷ (ys ++ (z ∷ []))) ws ∙ ap (λ l. xs ++ (y ∷ l)) (append_assoc ys (z ∷ []) ws)

pub deeper : (n : ℕ) (c : Command) → Nested (n + 1 + 1) c → Nested (suc n + 1) c
deeper n c h = subst (λ m. Nested m c) (omega arith) h

module _ {C : Lattice} (W : Lawful C) (sh : Sheet) (U : UsableSheet C sh) (a : Reading Command) where
  -- `a` is what the rules answer after the command, wherever that is
  abbrev Goes : Command → List Block → Context → Type 0
  Goes c blocks pc =
      (place : ℕ) (commands : Command → Command) (rest : List Record) → ((n : ℕ) → answer C sh (at n blocks pc (λ k. commands (before c k))) rest ≡ a)
      → answer C sh (at place blocks pc commands) (written c ++ rest) ≡ a

  test_goes : (t : Test) (c d : Command) (blocks : List Block) (pc : Context) (place : ℕ) (commands : Command → Command) (rest : List Record)
      → Goes c (then_block t pc commands ∷ blocks) (tested t pc)
      → Goes d (else_block t (normal c) pc commands ∷ blocks) (tested t pc)
      → ((n : ℕ) → answer C sh (at n blocks pc (λ k. commands (branch t (normal c) (normal d) ⨾ k))) rest ≡ a)
      → answer C sh (at place (then_block t pc commands ∷ blocks) (tested t pc) (λ k. k)) ((written c ++ (J ∷ (written d ++ (K ∷ [])))) ++ rest) ≡ a
  test_goes t c d blocks pc place commands rest f g k =
      ap (answer C sh (at place (then_block t pc commands ∷ blocks) (tested t pc) (λ k. k))) (three_parts (written c) (written d) rest J K)
      ∙ f place (λ k. k) (J ∷ (written d ++ (K ∷ rest))) (λ n.
      steps.else_step C sh n (tested t pc) (before c) pc commands blocks J (written d ++ (K ∷ rest)) t refl
      ∙ g (n + 1) (λ k. k) (K ∷ rest) (λ m.
      steps.end_step C sh m (tested t pc) (before d) pc commands blocks K rest t (normal c) refl
      ∙ k (m + 1)))

  module _ (number place : ℕ) where
    open_within : (pc : Context) (p : Policy) → Declared sh pc → KnownLevels C p → ContextFlowsTo C sh pc p
        → (x : Reading Command) → first (each_within number place pc (widest C sh p)) x ≡ x
    open_within pc p d k f x = within_passes number place pc (widest C sh p) x (within_flows W sh U pc p d k f)

  goes : (c : Command) (blocks : List Block) (pc : Context) → Declared sh pc → WellTyped C sh pc c → Nested (length blocks + 1) c → NumbersFit c → Goes c blocks pc
  unfolding written before
  goes skip blocks pc d t n f place commands rest k = k place
  goes (c ⨾ e) blocks pc d t n f place commands rest k =
      ap (answer C sh (at place blocks pc commands)) (append_assoc (written c) (written e) rest)
      ∙ goes c blocks pc d t.0 n.0 f.0 place commands (written e ++ rest) (λ m. goes e blocks pc d t.1 n.1 f.1 m (λ k. commands (before c k)) rest k)
  goes (set v x) blocks pc d t n f place commands rest k =
      steps.set_step C sh place blocks pc commands (record { letter = 83; a = v; b = 0; c = 0; n = of_z w32 x }) rest refl
      ∙ first_holds (set_fields (record { letter = 83; a = v; b = 0; c = 0; n = of_z w32 x }) place (length sh.variables)) _ (refl, (t.0, tt))
      ∙ open_within 16 place pc (policy_of sh v) d (U.sound.variables v t.0) t.1 _
      ∙ ap (λ y. answer C sh (at (place + 1) blocks pc (λ k. commands (set v y ⨾ k))) rest) (to_z-of_z w32 x f)
      ∙ k (place + 1)
  goes (combine s v b c) blocks pc d t n f place commands rest k =
      steps.sign_step C sh place blocks pc commands (fields (letter_of s) v b c) rest s refl
      ∙ first_holds (three_fields (fields (letter_of s) v b c) place (length sh.variables) (length sh.variables)) _ (refl, (t.0, (t.1, (t.2, tt))))
      ∙ open_within 16 place (under_variable b (under_variable c pc)) (policy_of sh v) (declared_variable_lem sh b (under_variable c pc) t.1 (declared_variable_lem sh c pc t.2 d)) (U.sound.variables v t.0)
      (reads_two W sh U b c pc (policy_of sh v) t.3 t.4 t.5) _
      ∙ k (place + 1)
  goes (release v b p) blocks pc d t n f place commands rest k =
      let permit = permit_at sh p in
      let known = U.sound.permits p t.2 in
      steps.release_step C sh place blocks pc commands (fields 68 v b p) rest refl
      ∙ first_holds (three_fields (fields 68 v b p) place (length sh.variables) (length sh.permits)) _ (refl, (t.0, (t.1, (t.2, tt))))
      ∙ open_within 16 place (under_conditions (members permit.conditions) pc) (policy_of sh v) (permit_declared W sh U p pc t.2 d) (U.sound.variables v t.0) t.3 _
      ∙ first_holds (rule 16 place (512 + p) (flows C permit.to (policy_of sh v)) ∷ rule 18 place 0 (flows C (policy_of sh b) permit.from) ∷ []) _ (
        flows_complete W permit.to (policy_of sh v) known.1 (U.sound.variables v t.0) t.4,
        (flows_complete W (policy_of sh b) permit.from (U.sound.variables b t.1) known.0 t.5, tt),
      )
      ∙ k (place + 1)
  goes (raise c) blocks pc d t n f place commands rest k =
      steps.raise_step C sh place blocks pc commands (fields 85 c 0 0) rest refl
      ∙ first_holds (raise_fields (fields 85 c 0 0) place (length sh.conditions)) _ (refl, (t.0, tt))
      ∙ open_within 16 place pc (leaf (level_of sh c)) d (U.sound.conditions c t.0) t.1 _
      ∙ k (place + 1)
  goes (if_variable b c e) blocks pc d t n f place commands rest k =
      let d' = declared_variable_lem sh b pc t.0 d in
      steps.variable_test_step C sh place blocks pc commands (fields 73 0 b 0) _ refl
      ∙ first_holds (variable_test_fields (fields 73 0 b 0) place (length sh.variables) (length blocks)) _ (refl, (t.0, (le-leb (length blocks + 1) 8 n.0, tt)))
      ∙ test_goes (on_variable b) c e blocks pc (place + 1) commands rest
      (goes c (then_block (on_variable b) pc commands ∷ blocks) (under_variable b pc) d' t.1 (deeper (length blocks) c n.1) f.0)
      (goes e (else_block (on_variable b) (normal c) pc commands ∷ blocks) (under_variable b pc) d' t.2 (deeper (length blocks) e n.2) f.1)
      k
  goes (if_condition b c e) blocks pc d t n f place commands rest k =
      let d' = declared_condition_lem sh b pc t.0 d in
      steps.condition_test_step C sh place blocks pc commands (fields 81 b 0 0) _ refl
      ∙ first_holds (condition_test_fields (fields 81 b 0 0) place (length sh.conditions) (length blocks)) _ (refl, (t.0, (le-leb (length blocks + 1) 8 n.0, tt)))
      ∙ test_goes (on_condition b) c e blocks pc (place + 1) commands rest
      (goes c (then_block (on_condition b) pc commands ∷ blocks) (under_condition b pc) d' t.1 (deeper (length blocks) c n.1) f.0)
      (goes e (else_block (on_condition b) (normal c) pc commands ∷ blocks) (under_condition b pc) d' t.2 (deeper (length blocks) e n.2) f.1)
      k
  goes (while b c) blocks pc d t n f place commands rest k =
      let d' = declared_variable_lem sh b pc t.0 d in
      steps.loop_step C sh place blocks pc commands (fields 87 0 b 0) ((written c ++ (K ∷ [])) ++ rest) refl
      ∙ first_holds (variable_test_fields (fields 87 0 b 0) place (length sh.variables) (length blocks)) _ (refl, (t.0, (le-leb (length blocks + 1) 8 n.0, tt)))
      ∙ open_within 17 place (under_variable b pc) (leaf C.lowest) d' W.lowest_known t.1 _
      ∙ ap (answer C sh (at (place + 1) (loop_block b pc commands ∷ blocks) (under_variable b pc) (λ k. k))) (append_assoc (written c) (K ∷ []) rest)
      ∙ goes c (loop_block b pc commands ∷ blocks) (under_variable b pc) d' t.2 (deeper (length blocks) c n.1) f (place + 1) (λ k. k) (K ∷ rest) (λ m.
      steps.loop_end_step C sh m (under_variable b pc) (before c) pc commands blocks K rest b refl
      ∙ k (m + 1))

pub valid_accepted : {C : Lattice} → Lawful C → (sh : Sheet) → UsableSheet C sh → (c : Command) → Valid C sh c → answer C sh start (written c) ≡ accepted (normal c)
valid_accepted {C} W sh U c v =
    ap (answer C sh start) (sym (append-nil (written c)))
    ∙ goes W sh U (accepted (normal c)) c [] outermost (declared_outermost sh) v.typed v.nested v.numbers 0 (λ k. k) [] (λ n. steps.end_of_records C sh n [] outermost (before c))
