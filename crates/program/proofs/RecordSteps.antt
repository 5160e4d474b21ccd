-- The rules that are asked of one record. Assumes nothing.
use Rattle.std.proofs.Common.{◌≡◌, ℕ, ◌+◌, ◌<◌, true, ltb, Some, None, Option, List, [], ◌∷◌, get_or, Result, ok_or, Ok, Err, sym, refl, ap, ◌∙◌, subst, arith}
use Rattle.std.proofs.lemmas.Bool.{cond-true, ltb-true}
use Rattle.lattice.specs.Lattice.{Lattice}
use Rattle.records.specs.declared.Record.{Record}
use Rattle.records.specs.declared.refusal.Refusal.{Refusal}
use Rattle.records.specs.Refusals.{refusal}
use Rattle.records.specs.Rules.{Reading, refused, Rule, rule, first, judged}
use Rattle.records.proofs.Firsts.{AllHold, first_holds, judged_ok, judged_err}
use Rattle.policy.specs.Policy.{Policy, leaf, KnownLevels}
use Rattle.policy.specs.Masks.{bit, members}
use Rattle.sheet.specs.Sheet.{Sheet, policy_of, level_of, permit_at}
use Rattle.machine.specs.Command.{Command}
use Rattle.machine.specs.SoundSheet.{HasVariable, HasCondition, HasPermit}
use Rattle.machine.specs.Typing.{Context, under_variable, under_conditions}
use Rattle.flow.specs.declared.masks.Inflow.{Inflow}
use Rattle.flow.specs.declared.masks.PermitFlow.{PermitFlow}
use Rattle.flow.specs.declared.masks.FlowMasks.{FlowMasks}
use Rattle.flow.specs.Flows.{no_inflow, no_variable_flow, no_permit, Admits}
use Rattle.program.specs.declared.context.Context.{Context as Masks}
use Rattle.program.specs.declared.innermost.Innermost.{Innermost}
use Rattle.program.specs.declared.innermost.Innermost.TheVariants.{First, Second, Loop}
use Rattle.program.specs.declared.innermost.RecordKind.{RecordKind}
use Rattle.program.specs.declared.innermost.RecordKind.TheVariants.{Set, Sign as OneSign, Release, Raise, VariableTest, ConditionTest, Loop as While, Mark}
use Rattle.program.specs.declared.kept.Sign.{Sign as KeptSign}
use Rattle.program.specs.Kept.{sign_of}
use Rattle.program.specs.Rules.{Block, at, Kind, kind, sets, signs, releases, raises, variable_tests, condition_tests, loops, elses, ends, may_stand, rest_zero, widest, each_within, established, answer}
use Rattle.program.specs.Deciding.{flows}
use Rattle.program.specs.Checks.{masked, set_fields, three_fields, raise_fields, variable_test_fields, condition_test_fields, mark_fields}
use Rattle.program.specs.Contexts.{with_variable, with_conditions}
use Rattle.program.specs.Letters.{kind_at}
use Rattle.program.specs.Reading.{context_of, Declared, Alike, Refused, Named, Passed}
use Rattle.program.proofs.ContextMasks.{masked_variable, masked_conditions}
use Rattle.program.proofs.LetterSteps.{Letter, letter_of_lem, kind_found, first_in, last_in, first_in_lem, last_in_lem}
use Rattle.program.proofs.Reaches.{declared_variable, declared_masks, flows_mask, flowing_mask, reaches}
use Rattle.program.proofs.Steps as steps

-- ── the rules of a record, over a sheet's masks ──

pub found : {k j : RecordKind} {o x : Option RecordKind} → k ≡ j → o ≡ x → o ≡ Some k → Some j ≡ x
found e f g = sym (ap Some e) ∙ sym g ∙ f

pub none_found : {K : Type 0} {o : Option K} {d e : Refusal} → Err e ≡ ok_or o d → o ≡ None → e ≡ d
none_found {K = K} {d = d} {e = e} f g = let h : ◌≡◌ {A = Result K Refusal} (Err e) (Err d) = f ∙ ap (λ x. ok_or x d) g in cc

module _ (m : FlowMasks) (pc : Masks) (opened : ℕ) (inner : Option Innermost) (place : ℕ) (r : Record) where
  abbrev Stuck : Refusal → Type 0
  Stuck e = (rs : List Record) → Refused m pc opened inner place (r ∷ rs) e

  -- the answer at this record, in these rules and then in what follows them
  abbrev Asks : Kind → (Lattice → Sheet → Reading Command → Reading Command) → Type 0
  Asks k rules =
      (C : Lattice) (sh : Sheet) (blocks : List Block) (commands : Command → Command) → Alike C sh m pc opened inner blocks → (rs : List Record)
      → answer C sh (at place blocks (context_of pc) commands) (r ∷ rs) ≡ rules C sh (answer C sh (established (at place blocks (context_of pc) commands) r k) rs)

  letter : (k : Kind) → kind r.letter ≡ k → Letter k r.letter
  letter k e = subst (λ x. Letter x r.letter) e (letter_of_lem r.letter)

  passed : (k : RecordKind) (kd : Kind) → Some k ≡ kind_at r.letter inner → kind r.letter ≡ kd → rest_zero r kd ≡ true → Named m r kd → Asks kd (λ C sh a. a) → Passed m pc opened inner place r k
  passed k kd e q z n f = record {
    is = e;
    rest = ap (rest_zero r) q ∙ z;
    named = subst (Named m r) (sym q) n;
    goes = λ C sh blocks commands A rs. f C sh blocks commands A rs ∙ ap (λ x. answer C sh (established (at place blocks (context_of pc) commands) r x) rs) (sym q);
  }

  pub passed_as : {k k' : RecordKind} → k ≡ k' → Passed m pc opened inner place r k' → Passed m pc opened inner place r k
  passed_as e h = subst (Passed m pc opened inner place r) (sym e) h

  -- a record that is asked its fields alone
  pub record Fielded (k : RecordKind) (kd : Kind) (F : List Rule) : Type 0 where
    pub is : Some k ≡ kind_at r.letter inner
    pub same : kind r.letter ≡ kd
    pub asks : Asks kd (λ C sh a. first F a)
    pub zero : AllHold F → rest_zero r kd ≡ true
    pub names : AllHold F → Named m r kd

  pub fields_refused : {X : Type 0} {k : RecordKind} {kd : Kind} {F : List Rule} (x : X) (e : Refusal) → Fielded k kd F → Err e ≡ judged F x → Stuck e
  fields_refused {F = F} x e f h rs = record { says = λ C sh blocks commands A. f.asks C sh blocks commands A rs ∙ judged_err F x e h _ }

  pub fields_passed : {X : Type 0} {k : RecordKind} {kd : Kind} {F : List Rule} (x y : X) → Fielded k kd F → Ok y ≡ judged F x → Passed m pc opened inner place r k
  fields_passed {k = k} {kd = kd} {F = F} x y f h =
      let p = (judged_ok F x y h).1 in
      passed k kd f.is f.same (f.zero p) (f.names p) (λ C sh blocks commands A rs. f.asks C sh blocks commands A rs ∙ first_holds F _ p)

  -- a record that is asked its fields, and then what reaches its target
  pub record Reaching (k : RecordKind) (kd : Kind) (F : List Rule) (x number : ℕ) (within : Masks) (inflow : ℕ → Inflow) : Type 0 where
    pub is : Some k ≡ kind_at r.letter inner
    pub same : kind r.letter ≡ kd
    pub context : Context
    pub target : Lattice → Sheet → Policy
    pub asks : Asks kd (λ C sh a. first F (first (each_within number place context (widest C sh (target C sh))) a))
    pub masks : AllHold F → context ≡ context_of within
    pub admits : AllHold F → (C : Lattice) (sh : Sheet) (blocks : List Block) → Alike C sh m pc opened inner blocks → Declared sh (context_of within) × KnownLevels C (target C sh) × Admits C sh (inflow x) (target C sh)
    pub zero : AllHold F → rest_zero r kd ≡ true
    pub names : AllHold F → Named m r kd

  module _ {k : RecordKind} {kd : Kind} {F : List Rule} {x number : ℕ} {within : Masks} {inflow : ℕ → Inflow} (R : Reaching k kd F x number within inflow) where
    pub reach_fields : (e : Refusal) → Err e ≡ judged F x → Stuck e
    reach_fields e h rs = record { says = λ C sh blocks commands A. R.asks C sh blocks commands A rs ∙ judged_err F x e h _ }

    module _ (t : ℕ) (w : Masks) (h : Ok t ≡ judged F x) (we : w ≡ within) where
      abbrev reached : Reading Command → Reading Command
      reached a = first (each_within number place (context_of w) (masked (inflow t).variables (inflow t).conditions)) a

      reach_asks : Asks kd (λ C sh a. reached a)
      reach_asks C sh blocks commands A rs =
          let p = judged_ok F x t h in
          let a = answer C sh (established (at place blocks (context_of pc) commands) r kd) rs in
          let d = R.admits p.1 C sh blocks A in
          R.asks C sh blocks commands A rs ∙ first_holds F _ p.1
          ∙ ap (λ c. first (each_within number place c (widest C sh (R.target C sh))) a) (R.masks p.1)
          ∙ reaches A.lawful sh A.usable number place within (inflow x) (R.target C sh) a d.0 d.1 d.2
          ∙ (λ i. first (each_within number place (context_of (sym we i)) (masked (inflow (sym p.0 i)).variables (inflow (sym p.0 i)).conditions)) a)

      pub reach_refused : (e : Refusal) → ((a : Reading Command) → reached a ≡ refused e) → Stuck e
      reach_refused e f rs = record { says = λ C sh blocks commands A. reach_asks C sh blocks commands A rs ∙ f _ }

      pub reach_passed : ((a : Reading Command) → reached a ≡ a) → Passed m pc opened inner place r k
      reach_passed f =
          let p = (judged_ok F x t h).1 in
          passed k kd R.is R.same (R.zero p) (R.names p) (λ C sh blocks commands A rs. reach_asks C sh blocks commands A rs ∙ f _)

  -- ── each kind ──

  has_variable : {C : Lattice} {sh : Sheet} {blocks : List Block} (v : ℕ) → Alike C sh m pc opened inner blocks → ltb v m.variables ≡ true → HasVariable sh v
  has_variable v A h = subst (λ n. ltb v n ≡ true) A.masks.variables h

  has_condition : {C : Lattice} {sh : Sheet} {blocks : List Block} (c : ℕ) → Alike C sh m pc opened inner blocks → ltb c m.conditions ≡ true → HasCondition sh c
  has_condition c A h = subst (λ n. ltb c n ≡ true) A.masks.conditions h

  place_of : (v : ℕ) → ltb v m.variables ≡ true → v < 64
  place_of v h = omega (arith, ltb-true v m.variables h, m.counts)

  pub setting : Some Set ≡ kind_at r.letter inner → Reaching Set sets (set_fields r place m.variables) r.a 16 pc (λ t. (get_or m.variable t no_variable_flow).inflow)
  setting h =
      let q = kind_found (Some Set) r.letter inner h in
      record {
        is = h;
        same = q;
        context = context_of pc;
        target = λ C sh. policy_of sh r.a;
        asks = λ C sh blocks commands A rs.
            steps.set_step C sh place blocks (context_of pc) commands r rs (letter sets q)
            ∙ ap (λ n. first (set_fields r place n) (first (each_within 16 place (context_of pc) (widest C sh (policy_of sh r.a))) (answer C sh (established (at place blocks (context_of pc) commands) r sets) rs))) (sym A.masks.variables);
        masks = λ p. refl;
        admits = λ p C sh blocks A. let v = has_variable r.a A p.1.0 in (A.declared, A.usable.sound.variables r.a v, A.masks.variable r.a v);
        zero = λ p. p.0;
        names = λ p. ltb-true r.a m.variables p.1.0;
      }

  pub raising : Some Raise ≡ kind_at r.letter inner → Reaching Raise raises (raise_fields r place m.conditions) r.a 16 pc (λ t. get_or m.condition t no_inflow)
  raising h =
      let q = kind_found (Some Raise) r.letter inner h in
      record {
        is = h;
        same = q;
        context = context_of pc;
        target = λ C sh. leaf (level_of sh r.a);
        asks = λ C sh blocks commands A rs.
            steps.raise_step C sh place blocks (context_of pc) commands r rs (letter raises q)
            ∙ ap (λ n. first (raise_fields r place n) (first (each_within 16 place (context_of pc) (widest C sh (leaf (level_of sh r.a)))) (answer C sh (established (at place blocks (context_of pc) commands) r raises) rs))) (sym A.masks.conditions);
        masks = λ p. refl;
        admits = λ p C sh blocks A. let v = has_condition r.a A p.1.0 in (A.declared, A.usable.sound.conditions r.a v, A.masks.condition r.a v);
        zero = λ p. p.0;
        names = λ p. ltb-true r.a m.conditions p.1.0;
      }

  pub combining : (s : KeptSign) → Some (OneSign s) ≡ kind_at r.letter inner
      → Reaching (OneSign s) (signs (sign_of s)) (three_fields r place m.variables m.variables) r.a 16 (with_variable r.b (with_variable r.c pc)) (λ t. (get_or m.variable t no_variable_flow).inflow)
  combining s h =
      let q = kind_found (Some (OneSign s)) r.letter inner h in
      record {
        is = h;
        same = q;
        context = under_variable r.b (under_variable r.c (context_of pc));
        target = λ C sh. policy_of sh r.a;
        asks = λ C sh blocks commands A rs.
            steps.sign_step C sh place blocks (context_of pc) commands r rs (sign_of s) (letter (signs (sign_of s)) q)
            ∙ ap (λ n. first (three_fields r place n n) (first (each_within 16 place (under_variable r.b (under_variable r.c (context_of pc))) (widest C sh (policy_of sh r.a))) (answer C sh (established (at place blocks (context_of pc) commands) r (signs (sign_of s))) rs))) (sym A.masks.variables);
        masks = λ p.
            ap (under_variable r.b) (masked_variable r.c pc.variables pc.conditions (place_of r.c p.1.1.1.0))
            ∙ masked_variable r.b (with_variable r.c pc).variables pc.conditions (place_of r.b p.1.1.0);
        admits = λ p C sh blocks A.
            let v = has_variable r.a A p.1.0 in (
              declared_variable sh (with_variable r.c pc) r.b (place_of r.b p.1.1.0) (has_variable r.b A p.1.1.0)
                  (declared_variable sh pc r.c (place_of r.c p.1.1.1.0) (has_variable r.c A p.1.1.1.0) A.declared),
              A.usable.sound.variables r.a v,
              A.masks.variable r.a v,
            );
        zero = λ p. p.0;
        names = λ p. (ltb-true r.a m.variables p.1.0, ltb-true r.b m.variables p.1.1.0, ltb-true r.c m.variables p.1.1.1.0);
      }

  pub looping : Some While ≡ kind_at r.letter inner → Reaching While loops (variable_test_fields r place m.variables opened) r.b 17 (with_variable r.b pc) (λ t. m.lowest)
  looping h =
      let q = kind_found (Some While) r.letter inner h in
      record {
        is = h;
        same = q;
        context = under_variable r.b (context_of pc);
        target = λ C sh. leaf C.lowest;
        asks = λ C sh blocks commands A rs.
            steps.loop_step C sh place blocks (context_of pc) commands r rs (letter loops q)
            ∙ (λ i. first (variable_test_fields r place (sym A.masks.variables i) (A.depth i)) (first (each_within 17 place (under_variable r.b (context_of pc)) (widest C sh (leaf C.lowest))) (answer C sh (established (at place blocks (context_of pc) commands) r loops) rs)));
        masks = λ p. masked_variable r.b pc.variables pc.conditions (place_of r.b p.1.0);
        admits = λ p C sh blocks A.
            (declared_variable sh pc r.b (place_of r.b p.1.0) (has_variable r.b A p.1.0) A.declared, A.lawful.lowest_known, A.masks.lowest);
        zero = λ p. p.0;
        names = λ p. ltb-true r.b m.variables p.1.0;
      }

  pub testing_variable : Some VariableTest ≡ kind_at r.letter inner → Fielded VariableTest variable_tests (variable_test_fields r place m.variables opened)
  testing_variable h =
      let q = kind_found (Some VariableTest) r.letter inner h in
      record {
        is = h;
        same = q;
        asks = λ C sh blocks commands A rs.
            steps.variable_test_step C sh place blocks (context_of pc) commands r rs (letter variable_tests q)
            ∙ (λ i. first (variable_test_fields r place (sym A.masks.variables i) (A.depth i)) (answer C sh (established (at place blocks (context_of pc) commands) r variable_tests) rs));
        zero = λ p. p.0;
        names = λ p. ltb-true r.b m.variables p.1.0;
      }

  pub testing_condition : Some ConditionTest ≡ kind_at r.letter inner → Fielded ConditionTest condition_tests (condition_test_fields r place m.conditions opened)
  testing_condition h =
      let q = kind_found (Some ConditionTest) r.letter inner h in
      record {
        is = h;
        same = q;
        asks = λ C sh blocks commands A rs.
            steps.condition_test_step C sh place blocks (context_of pc) commands r rs (letter condition_tests q)
            ∙ (λ i. first (condition_test_fields r place (sym A.masks.conditions i) (A.depth i)) (answer C sh (established (at place blocks (context_of pc) commands) r condition_tests) rs));
        zero = λ p. p.0;
        names = λ p. ltb-true r.a m.conditions p.1.0;
      }

  pub misplaced : None ≡ kind_at r.letter inner → Stuck (refusal 12 place 0)
  misplaced h rs = record {
    says = λ C sh blocks commands A.
        steps.misplaced C sh place blocks (context_of pc) commands r rs (kind r.letter) refl (kind_found None r.letter inner h blocks A.innermost);
  }

module _ (m : FlowMasks) (pc : Masks) (opened : ℕ) (place : ℕ) (r : Record) where
  else_mark : Some Mark ≡ kind_at r.letter (Some First) → Fielded m pc opened (Some First) place r Mark elses (mark_fields r place)
  else_mark h =
      let q = kind_found (Some Mark) r.letter (Some First) h in
      record {
        is = h;
        same = q;
        asks = λ C sh blocks commands A rs. steps.step C sh place blocks (context_of pc) commands r rs elses q ∙ cond-true (may_stand blocks elses) _ _ (first_in_lem blocks ∙ ap first_in A.innermost);
        zero = λ p. p.0;
        names = λ p. tt;
      }

  end_mark : (inner : Option Innermost) → Some Mark ≡ kind_at r.letter inner → kind r.letter ≡ ends → last_in inner ≡ true → Fielded m pc opened inner place r Mark ends (mark_fields r place)
  end_mark inner h q l = record {
    is = h;
    same = q;
    asks = λ C sh blocks commands A rs. steps.step C sh place blocks (context_of pc) commands r rs ends q ∙ cond-true (may_stand blocks ends) _ _ (last_in_lem blocks ∙ ap last_in A.innermost ∙ l);
    zero = λ p. p.0;
    names = λ p. tt;
  }

  pub marking : (inner : Option Innermost) → Some Mark ≡ kind_at r.letter inner → (k : Kind) × Fielded m pc opened inner place r Mark k (mark_fields r place)
  marking None h = absurd (kind_found (Some Mark) r.letter None h)
  marking (Some First) h = (elses, else_mark h)
  marking (Some Second) h = (ends, end_mark (Some Second) h (kind_found (Some Mark) r.letter (Some Second) h) refl)
  marking (Some Loop) h = (ends, end_mark (Some Loop) h (kind_found (Some Mark) r.letter (Some Loop) h) refl)

-- ── a release ──

module _ (m : FlowMasks) (pc : Masks) (opened : ℕ) (inner : Option Innermost) (place : ℕ) (r : Record) (h : Some Release ≡ kind_at r.letter inner) where
  abbrev threes : List Rule
  threes = three_fields r place m.variables m.permits

  abbrev permit : PermitFlow
  permit = get_or m.permit r.c no_permit

  q : kind r.letter ≡ releases
  q = kind_found (Some Release) r.letter inner h

  release_asks : Asks m pc opened inner place r releases (λ C sh a. first threes
      (first (each_within 16 place (under_conditions (members (permit_at sh r.c).conditions) (context_of pc)) (widest C sh (policy_of sh r.a)))
      (first (rule 16 place (512 + r.c) (flows C (permit_at sh r.c).to (policy_of sh r.a)) ∷ rule 18 place 0 (flows C (policy_of sh r.b) (permit_at sh r.c).from) ∷ []) a)))
  release_asks C sh blocks commands A rs =
      steps.release_step C sh place blocks (context_of pc) commands r rs (letter m pc opened inner place r releases q)
      ∙ (λ i. first (three_fields r place (sym A.masks.variables i) (sym A.masks.permits i))
      (first (each_within 16 place (under_conditions (members (permit_at sh r.c).conditions) (context_of pc)) (widest C sh (policy_of sh r.a)))
      (first (rule 16 place (512 + r.c) (flows C (permit_at sh r.c).to (policy_of sh r.a)) ∷ rule 18 place 0 (flows C (policy_of sh r.b) (permit_at sh r.c).from) ∷ [])
      (answer C sh (established (at place blocks (context_of pc) commands) r releases) rs))))

  pub release_fields : (e : Refusal) → Err e ≡ judged threes r.a → Stuck m pc opened inner place r e
  release_fields e j rs = record { says = λ C sh blocks commands A. release_asks C sh blocks commands A rs ∙ judged_err threes r.a e j _ }

  module _ (t : ℕ) (j : Ok t ≡ judged threes r.a) where
    abbrev reached_by : Reading Command → Reading Command
    reached_by a =
        first (each_within 16 place (context_of (with_conditions permit.conditions pc)) (masked (get_or m.variable t no_variable_flow).inflow.variables (get_or m.variable t no_variable_flow).inflow.conditions))
        (first (rule 16 place (512 + r.c) (bit r.a permit.targets) ∷ rule 18 place 0 (bit r.b permit.sources) ∷ []) a)

    release_reaches : Asks m pc opened inner place r releases (λ C sh a. reached_by a)
    release_reaches C sh blocks commands A rs =
        let p = judged_ok threes r.a t j in
        let a = answer C sh (established (at place blocks (context_of pc) commands) r releases) rs in
        let hasA : HasVariable sh r.a = subst (λ n. ltb r.a n ≡ true) A.masks.variables p.1.1.0 in
        let has_b : HasVariable sh r.b = subst (λ n. ltb r.b n ≡ true) A.masks.variables p.1.1.1.0 in
        let has_p : HasPermit sh r.c = subst (λ n. ltb r.c n ≡ true) A.masks.permits p.1.1.1.1.0 in
        let P = A.masks.permit r.c has_p in
        let known = A.usable.sound.permits r.c has_p in
        let W = A.lawful in
        let U = A.usable in
        let mask = (permit_at sh r.c).conditions in
        let c : under_conditions (members mask) (context_of pc) ≡ context_of (with_conditions mask pc) = masked_conditions mask pc.variables pc.conditions in
        let d : Declared sh (context_of (with_conditions mask pc)) = declared_masks sh pc mask (λ n e. U.sound.named r.c n has_p e) A.declared in
        let to : flows C (permit_at sh r.c).to (policy_of sh r.a) ≡ bit r.a permit.targets = flowing_mask W sh U (permit_at sh r.c).to permit.targets r.a known.1 P.targets hasA in
        let from : flows C (policy_of sh r.b) (permit_at sh r.c).from ≡ bit r.b permit.sources = flows_mask W sh U (permit_at sh r.c).from permit.sources r.b known.0 P.sources has_b in
        release_asks C sh blocks commands A rs ∙ first_holds threes _ p.1
        ∙ (λ i. first (each_within 16 place (c i) (widest C sh (policy_of sh r.a))) (first (rule 16 place (512 + r.c) (to i) ∷ rule 18 place 0 (from i) ∷ []) a))
        ∙ reaches W sh U 16 place (with_conditions mask pc) (get_or m.variable r.a no_variable_flow).inflow (policy_of sh r.a) _ d (U.sound.variables r.a hasA) (A.masks.variable r.a hasA)
        ∙ (λ i. first (each_within 16 place (context_of (with_conditions (sym P.conditions i) pc)) (masked (get_or m.variable (sym p.0 i) no_variable_flow).inflow.variables (get_or m.variable (sym p.0 i) no_variable_flow).inflow.conditions))
        (first (rule 16 place (512 + r.c) (bit r.a permit.targets) ∷ rule 18 place 0 (bit r.b permit.sources) ∷ []) a))

    pub release_refused : (e : Refusal) → ((a : Reading Command) → reached_by a ≡ refused e) → Stuck m pc opened inner place r e
    release_refused e f rs = record { says = λ C sh blocks commands A. release_reaches C sh blocks commands A rs ∙ f _ }

    pub release_passed : ((a : Reading Command) → reached_by a ≡ a) → Passed m pc opened inner place r Release
    release_passed f =
        let p = (judged_ok threes r.a t j).1 in
        passed m pc opened inner place r Release releases h q p.0
        (ltb-true r.a m.variables p.1.0, ltb-true r.b m.variables p.1.1.0, ltb-true r.c m.permits p.1.1.1.0)
        (λ C sh blocks commands A rs. release_reaches C sh blocks commands A rs ∙ f _)
