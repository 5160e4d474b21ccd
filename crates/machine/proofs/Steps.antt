-- Two boxes that an observer cannot tell apart, and what keeps them so: a call that remains, and a call that is struck.
use Rattle.std.proofs.Common.{◌≡◌, ℕ, ◌-◌, Bool, true, false, cond, not, ◌&&◌, List, [], ◌∷◌, ◌++◌, length, ℤ, pos, refl, ap, ◌∙◌, subst, true≢false}
use mathlib.Core.Bool.{false≢true}
use mathlib.Core.Option.{Option, none, some}
use Rattle.std.proofs.lemmas.Bool.{not-false, ltb-true}
use Rattle.lattice.specs.Lattice.{Lawful, Known}
use Rattle.records.specs.Rules.{Rule, Reading, accepted, refused}
use Rattle.records.proofs.Firsts.{AllHold}
use Rattle.sheet.specs.Sheet.{Sheet, declared_variable, declared_condition}
use Rattle.machine.specs.Command.{Command}
use Rattle.machine.specs.Typing.{outermost, WellTyped}
use Rattle.machine.specs.Memory.{Memory, cleared, held, every}
use Rattle.machine.specs.Run.{Outcome, done, spent, run}
use Rattle.machine.specs.Calls.{Call, Answer}
use Rattle.machine.specs.Machine.{System, State, bare, ready, Step, answered, asked, is_variable, may_be_fed, is_level, may_know, is_long_enough, readable_at, asks, begun, loaded, ended, passed, rules_of, effect, first_step, step}
use Rattle.machine.specs.Observation.{Observer, hidden, released_at}
use Rattle.machine.specs.Promises.{SoundReaders}
use Rattle.machine.proofs.Asking.{asked_keeps, asked_both}
use Rattle.machine.proofs.Memories.{View, Fair, sees, sees_condition, releases, visible_declared, Agree, agree_refl, agree_sym, agree_trans, wiped_same, write_visible, write_hidden, raised_both, raised_hidden, lowered_both, lowered_hidden}
use Rattle.machine.proofs.Runs.{Track, track}
use Rattle.machine.proofs.Every.{all_of}
use Rattle.machine.proofs.Values.{held_same}

-- a lawful lattice, sound readers and a known level
pub record Setting (S : System) (o : Observer) : Type 0 where
  pub lawful : Lawful S.lattice
  pub readers : SoundReaders S.readers
  pub level : Known S.lattice o.level

pub record Accepts (S : System) (sh : Sheet) : Type 0 where
  pub bytes : List ℕ
  pub read : S.readers.sheet S.lattice bytes ≡ accepted sh

module _ (S : System) (o : Observer) where
  abbrev pub view_of : Sheet → View
  view_of sh = record { lattice = S.lattice; observer = o; sheet = sh }

  abbrev pub WellTypedProgram : Sheet → Option Command → Type 0
  WellTypedProgram sh none = Unit {0}
  WellTypedProgram sh (some c) = WellTyped S.lattice sh outermost c

  pub data Twin : State → State → Type 0 where
    bares : Twin bare bare
    readies : {sh : Sheet} {p : Option Command} {m m' : Memory} → Accepts S sh → WellTypedProgram sh p → Agree (view_of sh) m m' → Twin (ready sh p m) (ready sh p m')

  pub twin_sym : {st st' : State} → Twin st st' → Twin st' st
  twin_sym bares = bares
  twin_sym (readies {sh = sh} {p = p} A w a) = readies {p = p} A w (agree_sym (view_of sh) a)

  pub twin_trans : {a b c : State} → Twin a b → Twin b c → Twin a c
  twin_trans bares bares = bares
  twin_trans (readies {sh = sh} {p = p} A w a) (readies A' w' a') = readies {p = p} A w (agree_trans (view_of sh) a a')

  -- two steps alike, unless what permits stored tells them apart
  record Follows (sh : Sheet) (t t' : Step) : Type 0 where
    so : (r r' : List ℤ) → releases (view_of sh) t.releases ++ r ≡ releases (view_of sh) t'.releases ++ r' → Twin t.next t'.next × (t.answer ≡ t'.answer) × (r ≡ r')

  follows_answered : (sh : Sheet) {st st' : State} {x x' : Answer} → Twin st st' → x ≡ x' → Follows sh (answered st x) (answered st' x')
  follows_answered sh h e = record { so = λ r r' k. (h, e, k) }

  follows_ended : (sh : Sheet) (c : Command) (n : ℕ) (x x' : Outcome) → Accepts S sh → WellTypedProgram sh (some c) → Track (view_of sh) x x' → Follows sh (ended sh c n x) (ended sh c n x')
  follows_ended sh c n (done k m l) (done k' m' l') A w t =
      record { so = λ r r' e. let q = t r r' e in (readies {p = some c} A w q.0.1, ap (λ i. Answer.done (n - i)) q.0.0, q.1) }
  follows_ended sh c n (done k m l) (spent m' l') A w t = record { so = λ r r' e. absurd (t r r' e).0 }
  follows_ended sh c n (spent m l) (done k' m' l') A w t = record { so = λ r r' e. absurd (t r r' e).0 }
  follows_ended sh c n (spent m l) (spent m' l') A w t = record { so = λ r r' e. let q = t r r' e in (readies {p = some c} A w q.0, refl, q.1) }

  -- a step that the observer does not see
  record Ignored (sh : Sheet) (st : State) (t : Step) : Type 0 where
    twin : Twin st t.next
    silent : releases (view_of sh) t.releases ≡ []

  ignored_answered : (sh : Sheet) {st st' : State} {x : Answer} → Twin st st' → Ignored sh st (answered st' x)
  ignored_answered sh h = record { twin = h; silent = refl }

-- the parts of a test that says "not hidden" or "hidden"
shown : (d o : Bool) → (d && not o) ≡ false → d ≡ true → o ≡ true
shown true true h e = refl
shown true false h e = absurd (true≢false h)
shown false o h e = absurd (false≢true e)

shown_visible : (d o : Bool) → (d && not o) ≡ false → cond d o true ≡ true
shown_visible true o h = shown true o h refl
shown_visible false o h = refl

unseen : (d o : Bool) → (d && not o) ≡ true → (d ≡ true) × (o ≡ false)
unseen true true h = absurd (false≢true h)
unseen true false h = (refl, refl)
unseen false o h = absurd (false≢true h)

module _ {S : System} {o : Observer} (G : Setting S o) where
  fair : {sh : Sheet} → Accepts S sh → Fair (view_of S o sh)
  fair {sh} A = record { lawful = G.lawful; level = G.level; sheet = G.readers.sheets S.lattice G.lawful A.bytes sh A.read }

  module _ {sh : Sheet} (A : Accepts S sh) (p : Option Command) (w : WellTypedProgram S o sh p) where
    -- where every variable can be seen, all values agree
    all_held : (m m' : Memory) → Agree (view_of S o sh) m m' → every (length sh.variables) (sees (view_of S o sh)) ≡ true → held m ≡ held m'
    all_held m m' a h = held_same m m' (λ v. a.values v (go v (declared_variable sh v) refl))
      where
        go : (v : ℕ) (d : Bool) → declared_variable sh v ≡ d → cond d (sees (view_of S o sh) v) true ≡ true
        go v true e = all_of (length sh.variables) (sees (view_of S o sh)) h v (ltb-true v (length sh.variables) e)
        go v false e = refl

    -- a call that remains is asked the same
    same_rules : (m m' : Memory) → Agree (view_of S o sh) m m' → (c : Call) → hidden S.lattice o (ready sh p m) c ≡ false → rules_of S sh m c ≡ rules_of S sh m' c
    same_rules m m' a (Call.sheet xs) h = refl
    same_rules m m' a (Call.load xs) h = refl
    same_rules m m' a (Call.feed v x) h =
        ap (λ b. is_variable sh v ∷ may_be_fed sh v ∷ asks 20 (not b) ∷ []) (wiped_same (fair A) m m' v (shown_visible (declared_variable sh v) (sees (view_of S o sh) v) h) a)
    same_rules m m' a (Call.raise c) h = refl
    same_rules m m' a (Call.lower c) h = refl
    same_rules m m' a (Call.pass n) h = refl
    same_rules m m' a (Call.look l v) h = refl
    same_rules m m' a (Call.ask l c) h = refl
    same_rules m m' a (Call.image l size) h =
        ap (λ xs. is_level S.lattice l ∷ may_know (every (length sh.variables) (readable_at S.lattice sh l)) ∷ is_long_enough (S.image xs) size ∷ [])
        (all_held m m' a (not-false (every (length sh.variables) (sees (view_of S o sh))) h))

    follows_load : (m m' : Memory) → Agree (view_of S o sh) m m' → (xs : List ℕ) (x : Reading Command) → S.readers.program S.lattice sh xs ≡ x
        → Follows S o sh (loaded sh p m xs x) (loaded sh p m' xs x)
    follows_load m m' a xs (refused r) e = follows_answered S o sh (readies {p = p} A w a) refl
    follows_load m m' a xs (accepted c) e =
        follows_answered S o sh (readies {p = some c} A (G.readers.programs S.lattice G.lawful A.bytes sh A.read xs c e) a) refl

  follows_pass : {sh : Sheet} (A : Accepts S sh) (p : Option Command) → WellTypedProgram S o sh p → (m m' : Memory) → Agree (view_of S o sh) m m' → (n : ℕ)
      → Follows S o sh (passed sh p m n) (passed sh p m' n)
  follows_pass {sh} A none w m m' a n = follows_answered S o sh (readies {p = none} A w a) refl
  follows_pass {sh} A (some c) w m m' a n = follows_ended S o sh c n (run sh c n m) (run sh c n m') A w (track (fair A) c outermost w n m m' a)

  module _ {sh : Sheet} (A : Accepts S sh) (p : Option Command) (w : WellTypedProgram S o sh p) where
    -- a call that remains does the same
    follows_effect : (m m' : Memory) → Agree (view_of S o sh) m m' → (c : Call) → hidden S.lattice o (ready sh p m) c ≡ false → AllHold (rules_of S sh m c)
        → Follows S o sh (effect S sh p m c) (effect S sh p m' c)
    follows_effect m m' a (Call.sheet xs) h k = follows_answered S o sh (readies {p = p} A w a) refl
    follows_effect m m' a (Call.load xs) h k = follows_load A p w m m' a xs (S.readers.program S.lattice sh xs) refl
    follows_effect m m' a (Call.feed v x) h k =
        follows_answered S o sh (readies {p = p} A w (write_visible (fair A) m m' v x x (shown_visible (declared_variable sh v) (sees (view_of S o sh) v) h) refl a)) refl
    follows_effect m m' a (Call.raise c) h k = follows_answered S o sh (readies {p = p} A w (raised_both (fair A) m m' c a)) refl
    follows_effect m m' a (Call.lower c) h k = follows_answered S o sh (readies {p = p} A w (lowered_both (fair A) m m' c a)) refl
    follows_effect m m' a (Call.pass n) h k = follows_pass A p w m m' a n
    follows_effect m m' a (Call.look l v) h k =
        follows_answered S o sh (readies {p = p} A w a) (ap Answer.number (a.values v (shown_visible (declared_variable sh v) (sees (view_of S o sh) v) h)))
    follows_effect m m' a (Call.ask l c) h k =
        follows_answered S o sh (readies {p = p} A w a)
        (ap (λ u. Answer.number (cond u (pos 1) (pos 0))) (a.up c (shown (declared_condition sh c) (sees_condition (view_of S o sh) c) h k.1.0)))
    follows_effect m m' a (Call.image l size) h k =
        follows_answered S o sh (readies {p = p} A w a)
        (ap (λ xs. Answer.bytes (S.image xs)) (all_held A p w m m' a (not-false (every (length sh.variables) (sees (view_of S o sh))) h)))

    follows : (m m' : Memory) → Agree (view_of S o sh) m m' → (c : Call) → hidden S.lattice o (ready sh p m) c ≡ false
        → Follows S o sh (step S (ready sh p m) c) (step S (ready sh p m') c)
    follows m m' a c h =
        let same = asked_both (Follows S o sh) (ready sh p m) (ready sh p m') (rules_of S sh m c) (effect S sh p m c) (effect S sh p m' c)
        (λ r. follows_answered S o sh (readies {p = p} A w a) refl) (follows_effect m m' a c h) in
        subst (λ (qs : List Rule). Follows S o sh (step S (ready sh p m) c) (asked (ready sh p m') qs (effect S sh p m' c))) (same_rules A p w m m' a c h) same

    -- a call that is struck does nothing that can be seen
    ignored_effect : (m : Memory) (c : Call) → hidden S.lattice o (ready sh p m) c ≡ true → Ignored S o sh (ready sh p m) (effect S sh p m c)
    ignored_effect m (Call.sheet xs) h = absurd (false≢true h)
    ignored_effect m (Call.load xs) h = absurd (false≢true h)
    ignored_effect m (Call.feed v x) h =
        let u = unseen (declared_variable sh v) (sees (view_of S o sh) v) h in
        ignored_answered S o sh (readies {p = p} A w (write_hidden (fair A) m v x (visible_declared (view_of S o sh) v u.0 ∙ u.1)))
    ignored_effect m (Call.raise c) h =
        let u = unseen (declared_condition sh c) (sees_condition (view_of S o sh) c) h in
        ignored_answered S o sh (readies {p = p} A w (raised_hidden (fair A) m c u.1))
    ignored_effect m (Call.lower c) h =
        let u = unseen (declared_condition sh c) (sees_condition (view_of S o sh) c) h in
        ignored_answered S o sh (readies {p = p} A w (lowered_hidden (fair A) m c u.1))
    ignored_effect m (Call.pass n) h = absurd (false≢true h)
    ignored_effect m (Call.look l v) h = ignored_answered S o sh (readies {p = p} A w (agree_refl (view_of S o sh) m))
    ignored_effect m (Call.ask l c) h = ignored_answered S o sh (readies {p = p} A w (agree_refl (view_of S o sh) m))
    ignored_effect m (Call.image l size) h = ignored_answered S o sh (readies {p = p} A w (agree_refl (view_of S o sh) m))

    ignored : (m : Memory) (c : Call) → hidden S.lattice o (ready sh p m) c ≡ true → Ignored S o sh (ready sh p m) (step S (ready sh p m) c)
    ignored m c h =
        asked_keeps (Ignored S o sh (ready sh p m)) (ready sh p m) (rules_of S sh m c) (effect S sh p m c)
        (λ r. ignored_answered S o sh (readies {p = p} A w (agree_refl (view_of S o sh) m))) (ignored_effect m c h)

  twin_begun : (xs : List ℕ) (x : Reading Sheet) → S.readers.sheet S.lattice xs ≡ x → Twin S o (begun x).next (begun x).next
  twin_begun xs (refused r) e = bares
  twin_begun xs (accepted sh) e = readies {p = none} (record { bytes = xs; read = e }) tt (agree_refl (view_of S o sh) cleared)

  twin_first : (c : Call) → Twin S o (first_step S c).next (first_step S c).next
  twin_first (Call.sheet xs) = twin_begun xs (S.readers.sheet S.lattice xs) refl
  twin_first (Call.load xs) = bares
  twin_first (Call.feed v x) = bares
  twin_first (Call.raise c) = bares
  twin_first (Call.lower c) = bares
  twin_first (Call.pass n) = bares
  twin_first (Call.look l v) = bares
  twin_first (Call.ask l c) = bares
  twin_first (Call.image l size) = bares

  abbrev pub Seen : State → State → Call → Call → Type 0
  Seen st st' c d =
      (r r' : List ℤ) → released_at S.lattice o st (step S st c).releases ++ r ≡ released_at S.lattice o st' (step S st' d).releases ++ r' →
      Twin S o (step S st c).next (step S st' d).next × ((step S st c).answer ≡ (step S st' d).answer) × (r ≡ r')

  -- two boxes alike, at a call that remains
  pub seen : {st st' : State} → Twin S o st st' → (c : Call) → hidden S.lattice o st c ≡ false → Seen st st' c c
  seen bares c h = λ r r' e. (twin_first c, refl, e)
  seen (readies {p = p} {m = m} {m' = m'} A w a) c h = (follows A p w m m' a c h).so

  -- two boxes alike, at a call that is struck
  pub struck : {st st' : State} → Twin S o st st' → (c : Call) → hidden S.lattice o st c ≡ true → Twin S o (step S st c).next st' × (released_at S.lattice o st (step S st c).releases ≡ [])
  struck bares c h = absurd (false≢true h)
  struck (readies {p = p} {m = m} A w a) c h =
      let i = ignored A p w m c h in
      (twin_trans S o (twin_sym S o i.twin) (readies {p = p} A w a), i.silent)
