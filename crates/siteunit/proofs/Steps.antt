-- What a call on a box owes, from one step of the machine. Assumes nothing.
use Rattle.std.proofs.Common.{◌≡◌, ℕ, ◌<◌, eqb, not, List, [], ◌∷◌, get_or, ℤ, Some, None, Ok, Err, Result, sym, refl, ap, ◌∙◌, subst, arith}
use mathlib.Core.Option as program
use lib.Bits.{bit_and}
use Rattle.std.proofs.lemmas.Bool.{lt-ltb}
use Rattle.lattice.specs.Lattice.{Lattice}
use Rattle.records.specs.declared.refusal.Refusal.{Refusal}
use Rattle.policy.specs.Policy.{wiped_by}
use Rattle.policy.specs.Masks.{members}
use Rattle.policy.proofs.Masks.{wiped_mask}
use Rattle.sheet.specs.Sheet.{Sheet, policy_of}
use Rattle.machine.specs.Command.{Command}
use Rattle.machine.specs.Memory as machine
use Rattle.machine.specs.Run.{Outcome, done, spent, run}
use Rattle.machine.specs.Calls.{Call, Answer}
use Rattle.machine.specs.Machine.{System, State, bare, ready, Step, answered, obeyed, ended, first_step, step, readable_at}
use Rattle.machine.proofs.Wiping.{Clean, CleanState, clean_final}
use Rattle.flow.specs.Flows.{no_variable_flow}
use Rattle.program.specs.declared.kept.Program.{Program}
use Rattle.program.specs.Kept.{Keeps}
use Rattle.interpreter.specs.declared.interpret.Ending.{Ending}
use Rattle.interpreter.specs.declared.memory.Memory.{Memory}
use Rattle.interpreter.specs.Meaning.{Enforces, meaning, Answers}
use Rattle.interpreter.proofs.Masks as masks
use Rattle.siteunit.specs.declared.kept.KeptSheet.{KeptSheet}
use Rattle.siteunit.specs.declared.site.SiteBox.{SiteBox}
use Rattle.siteunit.specs.Standing.{no_access, KeepsSheet, KeptAs, LoadedAs, Ready}
use Rattle.siteunit.specs.Obeying.{system_of, answer_of, nothing, ending, StandsFor, WipedIn, Obeys}

never : {X A : Type 0} {x : X} → None ≡ Some x → A
never e = cc

pub accepts : {T A : Type 0} {x : T} (e : Refusal) → Ok x ≡ Err e → A
accepts e q = cc

-- the rules, by what is kept
module _ (C : Lattice) (sh : Sheet) (k : KeptSheet) (K : KeepsSheet C sh k) where
  pub is_readable : (v l : ℕ) → v < k.masks.variables → C.below (get_or k.access v no_access).present l ≡ readable_at C sh l v
  is_readable v l h = ap (λ x. C.below x l) (K.present v (lt-ltb v _ (omega (arith, K.masks.variables))))

  pub is_dry : (v u : ℕ) → not (wiped_by (members u) (policy_of sh v)) ≡ eqb (bit_and (get_or k.masks.variable v no_variable_flow).wipers u) 0
  is_dry v u = wiped_mask (members u) (policy_of sh v) _ u (K.masks.wipers v) (λ c. refl)

  pub enforces : Enforces k.masks sh
  enforces = masks.enforces K.masks

module _ {X Y : Type 0} (lattice : X → Lattice) (values : Y → List ℤ) (image : List ℤ → List ℕ) (b : SiteBox X Y) where
  abbrev C : Lattice
  C = lattice b.lattice

  abbrev S : System
  S = system_of C image

  -- what is owed at one state
  abbrev pub Goes : {T : Type 0} → (T → Answer) → SiteBox X Y → Call → Result T Refusal → State → Type 0
  Goes told b' call r st = (answer_of told r ≡ (step S st call).answer) × StandsFor lattice values b' (step S st call).next

  pub goes : {T : Type 0} (told : T → Answer) (b' : SiteBox X Y) (call : Call) (r : Result T Refusal) (st : State) (s : Step) → step S st call ≡ s → answer_of told r ≡ s.answer → StandsFor lattice values b' s.next
      → Goes told b' call r st
  goes told b' call r st s e a h = (a ∙ sym (ap (λ t. t.answer) e), subst (λ (t : Step). StandsFor lattice values b' t.next) (sym e) h)

  obeys : {T : Type 0} (told : T → Answer) (b' : SiteBox X Y) (call : Call) (r : Result T Refusal) → b'.lattice ≡ b.lattice → ((e : Refusal) → r ≡ Err e → b' ≡ b)
      → ((st : State) → StandsFor lattice values b st → Goes told b' call r st) → Obeys lattice values image told b b' call r
  obeys told b' call r l k f = record { lattice = l; kept = k; answer = λ st s. (f st s).0; next = λ st s. (f st s).1; wiped = λ st s. wiped_in (step S st call).next (f st s).1 }
    where
      wiped_in : (st : State) → StandsFor lattice values b' st → WipedIn lattice values b' st
      wiped_in bare h = tt
      wiped_in (ready sh p m) h = h.wiped

  -- on a box without a sheet
  pub begins : {T : Type 0} (told : T → Answer) (b' : SiteBox X Y) (call : Call) (r : Result T Refusal) (s : Step) → b.sheet ≡ None → b'.lattice ≡ b.lattice → ((e : Refusal) → r ≡ Err e → b' ≡ b)
      → first_step S call ≡ s → answer_of told r ≡ s.answer → StandsFor lattice values b' s.next → Obeys lattice values image told b b' call r
  begins told b' call r s is l k e a h = obeys told b' call r l k first
    where
      first : (st : State) → StandsFor lattice values b st → Goes told b' call r st
      first bare _ = goes told b' call r bare s e a h
      first (ready sh p m) R = absurd (subst (KeptAs C sh) is R.sheet)

  -- on a box with a sheet
  module _ (k : KeptSheet) (is : b.sheet ≡ Some k) where
    abbrev pub here : Sheet → program.Option Command → State
    here sh p = ready sh p (meaning values b.memory)

    abbrev pub Here : Sheet → program.Option Command → Type 0
    Here sh p = Ready C b.sheet b.program (values b.memory.store) b.memory.up sh p (meaning values b.memory)

    pub follows : {T : Type 0} (told : T → Answer) (b' : SiteBox X Y) (call : Call) (r : Result T Refusal) → b'.lattice ≡ b.lattice → ((e : Refusal) → r ≡ Err e → b' ≡ b)
        → ((sh : Sheet) (p : program.Option Command) → Here sh p → KeepsSheet C sh k → Goes told b' call r (here sh p)) → Obeys lattice values image told b b' call r
    follows told b' call r l kept f = obeys told b' call r l kept each
      where
        each : (st : State) → StandsFor lattice values b st → Goes told b' call r st
        each bare h = never (sym h ∙ is)
        each (ready sh p m) h =
            let R : Here sh p = record { sheet = h.sheet; program = h.program; memory = refl; wiped = h.wiped } in
            subst (λ n. Goes told b' call r (ready sh p n)) (sym h.memory) (f sh p R (subst (KeptAs C sh) is h.sheet))

    -- it changes nothing
    pub tells : {T : Type 0} (told : T → Answer) (call : Call) (r : Result T Refusal)
        → ((sh : Sheet) (p : program.Option Command) → KeepsSheet C sh k → step S (here sh p) call ≡ answered (here sh p) (answer_of told r)) → Obeys lattice values image told b b call r
    tells told call r does = follows told b call r refl (λ e q. refl) (λ sh p R K. goes told b call r (here sh p) (answered (here sh p) (answer_of told r)) (does sh p K) refl R)

    -- it changes the memory
    pub changes : (memory : Memory Y) (call : Call) (next : Sheet → machine.Memory)
        → ((sh : Sheet) (p : program.Option Command) → KeepsSheet C sh k → step S (here sh p) call ≡ obeyed (ready sh p (next sh)))
        → ((sh : Sheet) → KeepsSheet C sh k → meaning values memory ≡ next sh) → Obeys lattice values image nothing b (record b { memory = memory }) call (Ok (tt {0}))
    changes memory call next does becomes = follows nothing (record b { memory = memory }) call (Ok (tt {0})) refl (λ e q. accepts e q) (λ sh p R K.
        let clean : Clean sh (next sh) = subst (λ (t : Step). CleanState t.next) (does sh p K) (clean_final S (here sh p) (call ∷ []) R.wiped) in
        goes nothing (record b { memory = memory }) call (Ok (tt {0})) (here sh p) (obeyed (ready sh p (next sh))) (does sh p K) refl (record {
          sheet = R.sheet;
          program = R.program;
          memory = sym (becomes sh K);
          wiped = subst (Clean sh) (sym (becomes sh K)) clean;
        }))

    -- a pass: the answer and the memory are those of the machine's run
    pub passes : (turns : ℕ) (memory : Memory Y) (r : Ending) (k' : Program) → b.program ≡ Some k'
        → ((sh : Sheet) (c : Command) → KeepsSheet C sh k → Keeps k' c → Answers r turns (meaning values memory) (run sh c turns (meaning values b.memory)))
        → Obeys lattice values image ending b (record b { memory = memory }) (Call.pass turns) (Ok r)
    passes turns memory r k' is-loaded runs = follows ending (record b { memory = memory }) (Call.pass turns) (Ok r) refl (λ e q. accepts e q) (λ sh p R K. some sh p R K (subst (LoadedAs p) is-loaded R.program))
      where
        ends : (sh : Sheet) (c : Command) → Here sh (program.some c) → (out : Outcome) → Answers r turns (meaning values memory) out → CleanState (ended sh c turns out).next
            → (ending r ≡ (ended sh c turns out).answer) × StandsFor lattice values (record b { memory = memory }) (ended sh c turns out).next
        ends sh c R (done left m rs) a h = (ap ending a.0, record { sheet = R.sheet; program = R.program; memory = sym a.1; wiped = subst (Clean sh) (sym a.1) h })
        ends sh c R (spent m rs) a h = (ap ending a.0, record { sheet = R.sheet; program = R.program; memory = sym a.1; wiped = subst (Clean sh) (sym a.1) h })

        some : (sh : Sheet) (p : program.Option Command) → Here sh p → KeepsSheet C sh k → LoadedAs p (Some k') → Goes ending (record b { memory = memory }) (Call.pass turns) (Ok r) (here sh p)
        some sh program.none R K h = absurd h
        some sh (program.some c) R K h =
            ends sh c R (run sh c turns (meaning values b.memory)) (runs sh c K h) (clean_final S (here sh (program.some c)) (Call.pass turns ∷ []) R.wiped)
