-- Commands one after another, and blocks within commands. Assumes nothing.
use Rattle.std.proofs.Common.{◌≡◌, ℕ, ◌+◌, ◌-◌, ◌*◌, ◌%◌, ◌^◌, ◌<◌, ◌≤◌, true, false, ltb, ◌≢◌, ◌⊎◌, Some, None, Option, List, [], ◌∷◌, ◌++◌, length, get_or, sym, refl, ap, ◌∙◌, subst, inl, inr, arith, length-append, length-set, get_or-set_other, get_or-set_same, w32, to_z}
use lib.ListN as list
use Rattle.std.proofs.lemmas.List.{append_assoc, append-nil}
use Rattle.std.proofs.lemmas.Bool.{cond-false, lt-ltb}
use Rattle.lattice.specs.Lattice.{Lattice}
use Rattle.records.specs.declared.Record.{Record}
use Rattle.records.specs.declared.refusal.Refusal.{Refusal}
use Rattle.records.specs.Refusals.{refusal}
use Rattle.sheet.specs.Sheet.{Sheet}
use Rattle.machine.specs.Command.{Command, skip, ◌⨾◌, set, combine, release, raise, if_variable, if_condition, while}
use Rattle.machine.specs.Typing.{under_variable}
use Rattle.flow.specs.declared.masks.FlowMasks.{FlowMasks}
use Rattle.program.specs.declared.context.Context.{Context as Masks}
use Rattle.program.specs.declared.innermost.Innermost.{Innermost}
use Rattle.program.specs.declared.innermost.Innermost.TheVariants.{First, Second, Loop}
use Rattle.program.specs.declared.innermost.RecordKind.{RecordKind}
use Rattle.program.specs.declared.innermost.RecordKind.TheVariants.{Set, Sign as OneSign, Release, Raise, VariableTest, ConditionTest, Loop as While, Mark}
use Rattle.program.specs.declared.kept.Instruction.{Instruction}
use Rattle.program.specs.declared.kept.Instruction.TheVariants as kept
use Rattle.program.specs.declared.kept.Sign.{Sign as KeptSign}
use Rattle.program.specs.Kept.{blank, sign_of, size, linked, Placed}
use Rattle.program.specs.Keeping.{kept_as}
use Rattle.program.specs.Rules.{Test, on_variable, on_condition, branch, Block, then_block, else_block, loop_block, at, Kind, kind, sets, signs, releases, raises, loops, none, established, answer}
use Rattle.program.specs.Contexts.{with_variable, with_conditions, inside_of}
use Rattle.program.specs.Letters.{innermost_of}
use Rattle.program.specs.Reading.{context_of, Declared, Alike, Refused, Named, Passed, opening, Branches, Stand, Reads, BlockRead, end_of}
use Rattle.program.proofs.ContextMasks.{masked_variable, masked_condition}
use Rattle.program.proofs.LetterSteps.{kept_sign-of, kind_found}
use Rattle.program.proofs.Reaches.{declared_variable, declared_condition}
use Rattle.program.proofs.Steps as steps

-- ── where instructions stand ──

stand_at : (xs : List Instruction) {p q : ℕ} (ys : List Instruction) → p ≡ q → Stand xs p ys → Stand xs q ys
stand_at xs ys e h = subst (λ (i : ℕ). Stand xs i ys) e h

stand_same : (xs zs : List Instruction) (p : ℕ) (ys : List Instruction) → ((i : ℕ) → p ≤ i → i < p + length ys → get_or zs i blank ≡ get_or xs i blank) → Stand xs p ys → Stand zs p ys
stand_same xs zs p [] e h = tt
stand_same xs zs p (y ∷ ys) e h = (e p (omega arith) (omega arith) ∙ h.0, stand_same xs zs (p + 1) ys (λ i a b. e i (omega arith) (omega arith)) h.1)

stand_join : (xs : List Instruction) (p : ℕ) (ys zs : List Instruction) → Stand xs p ys → Stand xs (p + length ys) zs → Stand xs p (ys ++ zs)
stand_join xs p [] zs h k = stand_at xs zs (omega arith) k
stand_join xs p (y ∷ ys) zs h k = (h.0, stand_join xs (p + 1) ys zs h.1 (stand_at xs zs (omega arith) k))

over : (xs : List Instruction) (p i : ℕ) (x : Instruction) → (i ≡ p → ⊥) → get_or (list.set xs p x) i blank ≡ get_or xs i blank
over xs p i x n = get_or-set_other xs p i x blank n

pub long : (c : Command) → length (linked c) ≡ size c
long skip = refl
long (c ⨾ d) = length-append (linked c) (linked d) ∙ omega (arith, long c, long d)
long (set a x) = refl
long (combine s a b c) = refl
long (release a b r) = refl
long (raise c) = refl
long (if_variable b c d) =
    let p = length-append (linked c) (kept.Jump (size d + 1) ∷ (linked d ++ (kept.End ∷ []))) in
    let q = length-append (linked d) (kept.End ∷ []) in
    omega (arith, long c, long d, p, q)
long (if_condition a c d) =
    let p = length-append (linked c) (kept.Jump (size d + 1) ∷ (linked d ++ (kept.End ∷ []))) in
    let q = length-append (linked d) (kept.End ∷ []) in
    omega (arith, long c, long d, p, q)
long (while b c) = let p = length-append (linked c) (kept.Again b (size c + 1) ∷ []) in omega (arith, long c, p)

-- ── commands one after another ──

module _ (m : FlowMasks) (pc : Masks) (opened : ℕ) (inner : Option Innermost) where
  pub reads_none : (place : ℕ) (rs : List Record) (xs : List Instruction) → Reads m pc opened inner place rs xs xs place rs
  reads_none place rs xs = record {
    commands = λ c. c;
    instructions = [];
    placed = λ c p. p;
    links = λ c. refl;
    stand = tt;
    reached = omega arith;
    earlier = λ i h. refl;
    goes = λ C sh blocks around A. refl;
  }

  pub reads_more : {place mid next : ℕ} {rs ls left : List Record} {xs ys zs : List Instruction} → Reads m pc opened inner place rs xs ys mid ls → Reads m pc opened inner mid ls ys zs next left → Reads m pc opened inner place rs xs zs next left
  reads_more {place = place} {xs = xs} {ys = ys} {zs = zs} a b =
      let x = a.instructions in
      let y = b.instructions in
      let e = a.reached in
      let f = b.reached in
      record {
        commands = λ c. a.commands (b.commands c);
        instructions = x ++ y;
        placed = λ c p. a.placed (b.commands c) (b.placed c p);
        links = λ c. a.links (b.commands c) ∙ ap (λ l. x ++ l) (b.links c) ∙ sym (append_assoc x y (linked c));
        stand = stand_join zs place x y (stand_same ys zs place x (λ i h k. b.earlier i (omega arith)) a.stand) (stand_at zs y e b.stand);
        reached = omega (arith, length-append x y);
        earlier = λ i h. b.earlier i (omega arith) ∙ a.earlier i h;
        goes = λ C sh blocks around A. a.goes C sh blocks around A ∙ b.goes C sh blocks (λ c. around (a.commands c)) A;
      }

  pub refused_after : {place mid : ℕ} {rs ls : List Record} {xs ys : List Instruction} {e : Refusal} → Reads m pc opened inner place rs xs ys mid ls → Refused m pc opened inner mid ls e → Refused m pc opened inner place rs e
  refused_after a f = record { says = λ C sh blocks around A. a.goes C sh blocks around A ∙ f.says C sh blocks (λ c. around (a.commands c)) A }

  pub refused_as : {place : ℕ} {rs ls : List Record} {e : Refusal} → rs ≡ ls → Refused m pc opened inner place ls e → Refused m pc opened inner place rs e
  refused_as {place = place} {e = e} q f = subst (λ l. Refused m pc opened inner place l e) (sym q) f

  pub reads_as : {place next : ℕ} {rs ls left : List Record} {xs ys : List Instruction} → rs ≡ ls → Reads m pc opened inner place ls xs ys next left → Reads m pc opened inner place rs xs ys next left
  reads_as {place = place} {next = next} {left = left} {xs = xs} {ys = ys} q f = subst (λ l. Reads m pc opened inner place l xs ys next left) (sym q) f

-- ── where a block ends ──

module _ (m : FlowMasks) (pc : Masks) (opened : ℕ) where
  pub block_marked : (inner : Option Innermost) {start place next : ℕ} {rs left rest : List Record} {xs ys : List Instruction} (r : Record) → Passed m pc opened inner place r Mark
      → Reads m pc opened inner start rs xs ys place left → left ≡ r ∷ rest → next ≡ place + 1 → BlockRead m pc opened inner start rs xs ys (end_of inner next) rest
  block_marked None r p R e n = absurd (kind_found (Some Mark) r.letter None p.is)
  block_marked (Some i) {start = start} {place = place} {next = next} {rs = rs} {left = left} {xs = xs} {ys = ys} r p R e n =
      let q : place ≡ next - 1 = omega arith in
      record {
        left = left;
        reads = subst (λ k. Reads m pc opened (Some i) start rs xs ys k left) q R;
        ends = (r, e, subst (λ k. Passed m pc opened (Some i) k r Mark) q p);
      }

  pub block_ended : (inner : Option Innermost) {start place : ℕ} {rs left : List Record} {xs ys : List Instruction} → inner ≡ None → Reads m pc opened inner start rs xs ys place left → left ≡ []
      → BlockRead m pc opened inner start rs xs ys (end_of inner place) left
  block_ended None {left = left} e R l = record { left = left; reads = R; ends = l }
  block_ended (Some i) e R l = absurd (cc e)

  some_block : {i : Innermost} (blocks : List Block) → innermost_of blocks ≡ Some i → none blocks ≡ false
  some_block [] h = cc
  some_block (b ∷ bs) h = refl

  pub left_open : {i : Innermost} (inner : Option Innermost) (place : ℕ) → inner ≡ Some i → Refused m pc opened inner place [] (refusal 12 place 0)
  left_open inner place e = record {
    says = λ C sh blocks around A. steps.end_of_records C sh place blocks (context_of pc) around ∙ cond-false (none blocks) _ _ (some_block blocks (A.innermost ∙ e));
  }

-- ── a command without blocks ──

module _ (m : FlowMasks) (pc : Masks) (opened : ℕ) (inner : Option Innermost) (place : ℕ) (r : Record) where
  -- one record, one command
  alone : (k : RecordKind) (kd : Kind) (c : Command) (rs : List Record) (xs : List Instruction) → Passed m pc opened inner place r k → kind r.letter ≡ kd → linked c ≡ kept_as k r 0 ∷ [] → Placed c
      → ((C : Lattice) (sh : Sheet) (blocks : List Block) (around : Command → Command)
      → answer C sh (established (at place blocks (context_of pc) around) r kd) rs ≡ answer C sh (at (place + 1) blocks (context_of pc) (λ d. around (c ⨾ d))) rs)
      → place < length xs → Reads m pc opened inner place (r ∷ rs) xs (list.set xs place (kept_as k r 0)) (place + 1) rs
  alone k kd c rs xs p q l s g h = record {
    commands = λ d. c ⨾ d;
    instructions = kept_as k r 0 ∷ [];
    placed = λ d e. (s, e);
    links = λ d. ap (λ ys. ys ++ linked d) l;
    stand = (get_or-set_same xs place (kept_as k r 0) blank h, tt);
    reached = refl;
    earlier = λ i e. over xs place i (kept_as k r 0) (λ z. omega arith);
    goes = λ C sh blocks around A. p.goes C sh blocks around A rs ∙ ap (λ x. answer C sh (established (at place blocks (context_of pc) around) r x) rs) q ∙ g C sh blocks around;
  }

  module _ (rs : List Record) (xs : List Instruction) (h : place < length xs) where
    abbrev Kept : RecordKind → Type 0
    Kept k = Reads m pc opened inner place (r ∷ rs) xs (list.set xs place (kept_as k r 0)) (place + 1) rs

    plain_set : Passed m pc opened inner place r Set → Kept Set
    plain_set p =
        let q = kind_found (Some Set) r.letter inner p.is in
        let a : r.a < m.variables = subst (Named m r) q p.named in
        alone Set sets (set r.a (to_z w32 r.n)) rs xs p q refl (omega (arith, m.counts)) (λ C sh blocks around. refl) h

    plain_sign : (s : KeptSign) → Passed m pc opened inner place r (OneSign s) → Kept (OneSign s)
    plain_sign s p =
        let q = kind_found (Some (OneSign s)) r.letter inner p.is in
        let a : r.a < m.variables = (subst (Named m r) q p.named).0 in
        alone (OneSign s) (signs (sign_of s)) (combine (sign_of s) r.a r.b r.c) rs xs p q (ap (λ x. kept.Combine x r.a r.b r.c ∷ []) (kept_sign-of s)) (omega (arith, m.counts)) (λ C sh blocks around. refl) h

    plain_release : Passed m pc opened inner place r Release → Kept Release
    plain_release p =
        let q = kind_found (Some Release) r.letter inner p.is in
        let a : r.a < m.variables = (subst (Named m r) q p.named).0 in
        alone Release releases (release r.a r.b r.c) rs xs p q refl (omega (arith, m.counts)) (λ C sh blocks around. refl) h

    plain_raise : Passed m pc opened inner place r Raise → Kept Raise
    plain_raise p =
        let q = kind_found (Some Raise) r.letter inner p.is in
        let a : r.a < m.conditions = subst (Named m r) q p.named in
        alone Raise raises (raise r.a) rs xs p q refl (omega (arith, m.counts)) (λ C sh blocks around. refl) h

    pub plain_reads : (k : RecordKind) (x : Instruction) → x ≡ kept_as k r 0 → Passed m pc opened inner place r k → k ≢ VariableTest → k ≢ ConditionTest → k ≢ While → k ≢ Mark
        → Reads m pc opened inner place (r ∷ rs) xs (list.set xs place x) (place + 1) rs
    plain_reads k x e p v c w n = subst (λ y. Reads m pc opened inner place (r ∷ rs) xs (list.set xs place y) (place + 1) rs) (sym e) (by k p v c w n)
      where
        by : (j : RecordKind) → Passed m pc opened inner place r j → j ≢ VariableTest → j ≢ ConditionTest → j ≢ While → j ≢ Mark → Kept j
        by Set p v c w n = plain_set p
        by (OneSign s) p v c w n = plain_sign s p
        by Release p v c w n = plain_release p
        by Raise p v c w n = plain_raise p
        by VariableTest p v c w n = absurd (v refl)
        by ConditionTest p v c w n = absurd (c refl)
        by While p v c w n = absurd (w refl)
        by Mark p v c w n = absurd (n refl)

-- ── the command that a block is ──

module _ {m : FlowMasks} {pc : Masks} {opened : ℕ} {inner : Option Innermost} {place next : ℕ} {rs left : List Record} {xs ys : List Instruction} (R : Reads m pc opened inner place rs xs ys next left) where
  abbrev pub body : Command
  body = R.commands skip

  body_linked : linked body ≡ R.instructions
  body_linked = R.links skip ∙ append-nil R.instructions

  pub body_placed : Placed body
  body_placed = R.placed skip tt

  pub body_stands : Stand ys place (linked body)
  body_stands = subst (Stand ys place) (sym body_linked) R.stand

  pub body_size : next ≡ place + size body
  body_size = let a = R.reached in let b = ap length body_linked in let c = long body in omega (arith, a, b, c)

-- ── a loop ──

deeper : (bs : List Block) (b : Block) (opened : ℕ) → length bs ≡ opened → length (b ∷ bs) ≡ opened + 1
deeper bs b opened e = omega (arith, e)

module _ (m : FlowMasks) (pc : Masks) (opened : ℕ) (inner : Option Innermost) (place : ℕ) (r : Record) (rs : List Record) (inside : Masks) (p : Passed m pc opened inner place r While) (e : inside ≡ with_variable r.b pc) where
  q : kind r.letter ≡ loops
  q = kind_found (Some While) r.letter inner p.is

  tested_there : r.b < m.variables
  tested_there = subst (Named m r) q p.named

  loop_context : under_variable r.b (context_of pc) ≡ context_of inside
  loop_context = masked_variable r.b pc.variables pc.conditions (omega (arith, tested_there, m.counts)) ∙ ap context_of (sym e)

  loop_alike : (C : Lattice) (sh : Sheet) (blocks : List Block) (around : Command → Command) → Alike C sh m pc opened inner blocks → Alike C sh m inside (opened + 1) (Some Loop) (loop_block r.b (context_of pc) around ∷ blocks)
  loop_alike C sh blocks around A = record {
    lawful = A.lawful;
    usable = A.usable;
    masks = A.masks;
    declared = subst (λ x. Declared sh (context_of x)) (sym e) (declared_variable sh pc r.b (omega (arith, tested_there, m.counts)) (subst (λ n. ltb r.b n ≡ true) A.masks.variables (lt-ltb r.b m.variables tested_there)) A.declared);
    depth = deeper blocks (loop_block r.b (context_of pc) around) opened A.depth;
    innermost = refl;
  }

  loop_opens : (C : Lattice) (sh : Sheet) (blocks : List Block) (around : Command → Command) → Alike C sh m pc opened inner blocks
      → answer C sh (at place blocks (context_of pc) around) (r ∷ rs) ≡ answer C sh (at (place + 1) (loop_block r.b (context_of pc) around ∷ blocks) (context_of inside) (λ c. c)) rs
  loop_opens C sh blocks around A =
      p.goes C sh blocks around A rs ∙ ap (λ x. answer C sh (established (at place blocks (context_of pc) around) r x) rs) q
      ∙ ap (λ x. answer C sh (at (place + 1) (loop_block r.b (context_of pc) around ∷ blocks) x (λ c. c)) rs) loop_context

  pub loop_refused : (x : Refusal) → Refused m inside (opened + 1) (Some Loop) (place + 1) rs x → Refused m pc opened inner place (r ∷ rs) x
  loop_refused x f = record { says = λ C sh blocks around A. loop_opens C sh blocks around A ∙ f.says C sh (loop_block r.b (context_of pc) around ∷ blocks) (λ c. c) (loop_alike C sh blocks around A) }

  module _ (xs ys : List Instruction) (end : ℕ) (rest : List Record) (B : BlockRead m inside (opened + 1) (Some Loop) (place + 1) rs xs ys end rest) where
    abbrev inner_block : Command
    inner_block = body B.reads

    loop_goes : (C : Lattice) (sh : Sheet) (blocks : List Block) (around : Command → Command) → Alike C sh m pc opened inner blocks
        → answer C sh (at place blocks (context_of pc) around) (r ∷ rs) ≡ answer C sh (at (end + 1) blocks (context_of pc) (λ c. around (while r.b inner_block ⨾ c))) rest
    loop_goes C sh blocks around A =
        let bs = loop_block r.b (context_of pc) around ∷ blocks in
        let A' = loop_alike C sh blocks around A in
        let k = B.ends.0 in
        let mark = B.ends.2 in
        loop_opens C sh blocks around A ∙ B.reads.goes C sh bs (λ c. c) A' ∙ ap (λ l. answer C sh (at end bs (context_of inside) (λ c. B.reads.commands c)) l) B.ends.1
        ∙ mark.goes C sh bs (λ c. B.reads.commands c) A' rest
        ∙ ap (λ x. answer C sh (established (at end bs (context_of inside) (λ c. B.reads.commands c)) k x) rest) (kind_found (Some Mark) k.letter (Some Loop) mark.is)

    pub loop_reads : (x y : Instruction) → end < length ys → x ≡ kept.Loop r.b (end - place) → y ≡ kept.Again r.b (end - place)
        → Reads m pc opened inner place (r ∷ rs) xs (list.set (list.set ys place x) end y) (end + 1) rest
    loop_reads x y l ex ey =
        let c = inner_block in
        let f = body_size B.reads in
        let us = list.set (list.set ys place x) end y in
        let n : end - place ≡ size c + 1 = omega arith in
        let long-x : length (list.set ys place x) ≡ length ys = length-set ys place x in
        let elsewhere : (i : ℕ) → (i ≡ place → ⊥) → (i ≡ end → ⊥) → get_or us i blank ≡ get_or ys i blank = λ i f g. over (list.set ys place x) end i y g ∙ over ys place i x f in
        let start : get_or us place blank ≡ kept.Loop r.b (size c + 1) = over (list.set ys place x) end place y (λ z. omega arith) ∙ get_or-set_same ys place x blank (omega arith) ∙ ex ∙ ap (kept.Loop r.b) n in
        let last : get_or us end blank ≡ kept.Again r.b (size c + 1) = get_or-set_same (list.set ys place x) end y blank (omega arith) ∙ ey ∙ ap (kept.Again r.b) n in
        let K : List Instruction = kept.Again r.b (size c + 1) ∷ [] in
        record {
          commands = λ d. while r.b c ⨾ d;
          instructions = linked (while r.b c);
          placed = λ d h. (body_placed B.reads, h);
          links = λ d. refl;
          stand = (
            start,
            stand_join us (place + 1) (linked c) K (stand_same ys us (place + 1) (linked c) (λ i g h. elsewhere i (λ z. omega arith) (λ z. omega (arith, long c))) (body_stands B.reads))
                (stand_at us K (omega (arith, long c)) (last, tt)),
          );
          reached = let a = long (while r.b c) in omega (arith, a);
          earlier = λ i h. elsewhere i (λ z. omega arith) (λ z. omega arith) ∙ B.reads.earlier i (omega arith);
          goes = loop_goes;
        }

-- ── a test and its two blocks ──

module _ (m : FlowMasks) (pc : Masks) (opened : ℕ) (inner : Option Innermost) (place : ℕ) (r : Record) where
  branches_variable : Passed m pc opened inner place r VariableTest → (inside : Masks) → inside ≡ with_variable r.b pc → Branches m pc opened inner place r VariableTest (on_variable r.b) inside
  branches_variable p inside e =
      let q = kind_found (Some VariableTest) r.letter inner p.is in
      let v : r.b < m.variables = subst (Named m r) q p.named in
      let small : r.b < 64 = omega (arith, m.counts) in
      record {
        opens = λ n. refl;
        under = masked_variable r.b pc.variables pc.conditions small ∙ ap context_of (sym e);
        declared = λ C sh blocks A. subst (λ x. Declared sh (context_of x)) (sym e) (declared_variable sh pc r.b small (subst (λ n. ltb r.b n ≡ true) A.masks.variables (lt-ltb r.b m.variables v)) A.declared);
        goes = λ C sh blocks around A rs. p.goes C sh blocks around A rs ∙ ap (λ x. answer C sh (established (at place blocks (context_of pc) around) r x) rs) q;
      }

  branches_condition : Passed m pc opened inner place r ConditionTest → (inside : Masks) → inside ≡ with_conditions ((1 * 2 ^ r.a) % 2 ^ 16) pc → Branches m pc opened inner place r ConditionTest (on_condition r.a) inside
  branches_condition p inside e =
      let q = kind_found (Some ConditionTest) r.letter inner p.is in
      let v : r.a < m.conditions = subst (Named m r) q p.named in
      let small : r.a < 16 = omega (arith, m.counts) in
      record {
        opens = λ n. refl;
        under = masked_condition r.a pc.variables pc.conditions small ∙ ap context_of (sym e);
        declared = λ C sh blocks A. subst (λ x. Declared sh (context_of x)) (sym e) (declared_condition sh pc r.a small (subst (λ n. ltb r.a n ≡ true) A.masks.conditions (lt-ltb r.a m.conditions v)) A.declared);
        goes = λ C sh blocks around A rs. p.goes C sh blocks around A rs ∙ ap (λ x. answer C sh (established (at place blocks (context_of pc) around) r x) rs) q;
      }

module _ (m : FlowMasks) (pc : Masks) (opened : ℕ) (inner : Option Innermost) (place : ℕ) (r : Record) where
  pub branches : (k : RecordKind) (inside : Masks) → inside ≡ inside_of k r pc → Passed m pc opened inner place r k → (k ≡ VariableTest) ⊎ (k ≡ ConditionTest) → (t : Test) × Branches m pc opened inner place r k t inside
  branches k inside e h (inl q) =
      (on_variable r.b, subst (λ x. Branches m pc opened inner place r x (on_variable r.b) inside) (sym q) (branches_variable m pc opened inner place r (subst (Passed m pc opened inner place r) q h) inside (e ∙ ap (λ x. inside_of x r pc) q)))
  branches k inside e h (inr q) =
      (on_condition r.a, subst (λ x. Branches m pc opened inner place r x (on_condition r.a) inside) (sym q) (branches_condition m pc opened inner place r (subst (Passed m pc opened inner place r) q h) inside (e ∙ ap (λ x. inside_of x r pc) q)))

branch_linked : (t : Test) (c d : Command) → linked (branch t c d) ≡ opening t (size c + 1) ∷ (linked c ++ (kept.Jump (size d + 1) ∷ (linked d ++ (kept.End ∷ []))))
branch_linked (on_variable v) c d = refl
branch_linked (on_condition a) c d = refl

branch_placed : (t : Test) (c d : Command) → Placed c → Placed d → Placed (branch t c d)
branch_placed (on_variable v) c d h k = (h, k)
branch_placed (on_condition a) c d h k = (h, k)

branch_size : (t : Test) (c d : Command) → size (branch t c d) ≡ size c + size d + 3
branch_size (on_variable v) c d = refl
branch_size (on_condition a) c d = refl

module _ (m : FlowMasks) (pc : Masks) (opened : ℕ) (inner : Option Innermost) (place : ℕ) (r : Record) (rs : List Record) (k : RecordKind) (t : Test) (inside : Masks) (T : Branches m pc opened inner place r k t inside) where
  within : (C : Lattice) (sh : Sheet) (blocks : List Block) (b : Block) (i : Option Innermost) → innermost_of (b ∷ blocks) ≡ i → Alike C sh m pc opened inner blocks → Alike C sh m inside (opened + 1) i (b ∷ blocks)
  within C sh blocks b i e A = record {
    lawful = A.lawful;
    usable = A.usable;
    masks = A.masks;
    declared = T.declared C sh blocks A;
    depth = deeper blocks b opened A.depth;
    innermost = e;
  }

  test_opens : (C : Lattice) (sh : Sheet) (blocks : List Block) (around : Command → Command) → Alike C sh m pc opened inner blocks
      → answer C sh (at place blocks (context_of pc) around) (r ∷ rs) ≡ answer C sh (at (place + 1) (then_block t (context_of pc) around ∷ blocks) (context_of inside) (λ c. c)) rs
  test_opens C sh blocks around A = T.goes C sh blocks around A rs ∙ ap (λ x. answer C sh (at (place + 1) (then_block t (context_of pc) around ∷ blocks) x (λ c. c)) rs) T.under

  module _ (xs ys : List Instruction) (middle : ℕ) (second : List Record) (B : BlockRead m inside (opened + 1) (Some First) (place + 1) rs xs ys middle second) where
    abbrev then_block_lem : Command
    then_block_lem = body B.reads

    test_turns : (C : Lattice) (sh : Sheet) (blocks : List Block) (around : Command → Command) → Alike C sh m pc opened inner blocks
        → answer C sh (at place blocks (context_of pc) around) (r ∷ rs) ≡ answer C sh (at (middle + 1) (else_block t then_block_lem (context_of pc) around ∷ blocks) (context_of inside) (λ c. c)) second
    test_turns C sh blocks around A =
        let bs = then_block t (context_of pc) around ∷ blocks in
        let A' = within C sh blocks (then_block t (context_of pc) around) (Some First) refl A in
        let k = B.ends.0 in
        let mark = B.ends.2 in
        test_opens C sh blocks around A ∙ B.reads.goes C sh bs (λ c. c) A' ∙ ap (λ l. answer C sh (at middle bs (context_of inside) (λ c. B.reads.commands c)) l) B.ends.1
        ∙ mark.goes C sh bs (λ c. B.reads.commands c) A' second
        ∙ ap (λ x. answer C sh (established (at middle bs (context_of inside) (λ c. B.reads.commands c)) k x) second) (kind_found (Some Mark) k.letter (Some First) mark.is)
        ∙ ap (λ x. answer C sh (at (middle + 1) (else_block t then_block_lem (context_of pc) around ∷ blocks) x (λ c. c)) second) T.under

    pub second_refused : (x : Refusal) → Refused m inside (opened + 1) (Some Second) (middle + 1) second x → Refused m pc opened inner place (r ∷ rs) x
    second_refused x f = record {
      says = λ C sh blocks around A.
          test_turns C sh blocks around A ∙ f.says C sh (else_block t then_block_lem (context_of pc) around ∷ blocks) (λ c. c) (within C sh blocks (else_block t then_block_lem (context_of pc) around) (Some Second) refl A);
    }

    module _ (zs : List Instruction) (end : ℕ) (rest : List Record) (D : BlockRead m inside (opened + 1) (Some Second) (middle + 1) second ys zs end rest) where
      abbrev else_block_lem : Command
      else_block_lem = body D.reads

      branch_goes : (C : Lattice) (sh : Sheet) (blocks : List Block) (around : Command → Command) → Alike C sh m pc opened inner blocks
          → answer C sh (at place blocks (context_of pc) around) (r ∷ rs) ≡ answer C sh (at (end + 1) blocks (context_of pc) (λ c. around (branch t then_block_lem else_block_lem ⨾ c))) rest
      branch_goes C sh blocks around A =
          let bs = else_block t then_block_lem (context_of pc) around ∷ blocks in
          let A' = within C sh blocks (else_block t then_block_lem (context_of pc) around) (Some Second) refl A in
          let k = D.ends.0 in
          let mark = D.ends.2 in
          test_turns C sh blocks around A ∙ D.reads.goes C sh bs (λ c. c) A' ∙ ap (λ l. answer C sh (at end bs (context_of inside) (λ c. D.reads.commands c)) l) D.ends.1
          ∙ mark.goes C sh bs (λ c. D.reads.commands c) A' rest
          ∙ ap (λ x. answer C sh (established (at end bs (context_of inside) (λ c. D.reads.commands c)) k x) rest) (kind_found (Some Mark) k.letter (Some Second) mark.is)

      pub branch_reads : (x y z : Instruction) → end < length zs → x ≡ kept_as k r (middle - place) → y ≡ kept.Jump (end - middle) → z ≡ kept.End
          → Reads m pc opened inner place (r ∷ rs) xs (list.set (list.set (list.set zs place x) middle y) end z) (end + 1) rest
      branch_reads x y z l ex ey ez =
          let c = then_block_lem in
          let d = else_block_lem in
          let f = body_size B.reads in
          let g = body_size D.reads in
          let vs = list.set zs place x in
          let ws = list.set vs middle y in
          let us = list.set ws end z in
          let nc : middle - place ≡ size c + 1 = omega arith in
          let nd : end - middle ≡ size d + 1 = omega arith in
          let long-x : length vs ≡ length zs = length-set zs place x in
          let long-y : length ws ≡ length vs = length-set vs middle y in
          let elsewhere : (i : ℕ) → (i ≡ place → ⊥) → (i ≡ middle → ⊥) → (i ≡ end → ⊥) → get_or us i blank ≡ get_or zs i blank = λ i f g h. over ws end i z h ∙ over vs middle i y g ∙ over zs place i x f in
          let start : get_or us place blank ≡ opening t (size c + 1) =
          over ws end place z (λ q. omega arith) ∙ over vs middle place y (λ q. omega arith) ∙ get_or-set_same zs place x blank (omega arith) ∙ ex ∙ ap (kept_as k r) nc ∙ sym (T.opens (size c + 1)) in
          let mid : get_or us middle blank ≡ kept.Jump (size d + 1) = over ws end middle z (λ q. omega arith) ∙ get_or-set_same vs middle y blank (omega arith) ∙ ey ∙ ap kept.Jump nd in
          let last : get_or us end blank ≡ kept.End = get_or-set_same ws end z blank (omega arith) ∙ ez in
          let K : List Instruction = kept.End ∷ [] in
          let J : List Instruction = kept.Jump (size d + 1) ∷ (linked d ++ K) in
          let stand-c : Stand us (place + 1) (linked c) = stand_same ys us (place + 1) (linked c) (λ i g h. elsewhere i (λ q. omega arith) (λ q. omega (arith, long c)) (λ q. omega (arith, long c)) ∙ D.reads.earlier i (omega (arith, long c))) (body_stands B.reads) in
          let stand-d : Stand us (middle + 1) (linked d) = stand_same zs us (middle + 1) (linked d) (λ i g h. elsewhere i (λ q. omega arith) (λ q. omega arith) (λ q. omega (arith, long d))) (body_stands D.reads) in
          let stand-j : Stand us middle J = (mid, stand_join us (middle + 1) (linked d) K stand-d (stand_at us K (omega (arith, long d)) (last, tt))) in
          record {
            commands = λ a. branch t c d ⨾ a;
            instructions = linked (branch t c d);
            placed = λ a h. (branch_placed t c d (body_placed B.reads) (body_placed D.reads), h);
            links = λ a. refl;
            stand = subst (Stand us place) (sym (branch_linked t c d)) (start, stand_join us (place + 1) (linked c) J stand-c (stand_at us J (omega (arith, long c)) stand-j));
            reached = let a = long (branch t c d) in let b = branch_size t c d in omega (arith, a, b);
            earlier = λ i h. elsewhere i (λ q. omega arith) (λ q. omega arith) (λ q. omega arith) ∙ D.reads.earlier i (omega arith) ∙ B.reads.earlier i (omega arith);
            goes = branch_goes;
          }

-- ── equal places, contexts, masks and kinds ──

module _ (m : FlowMasks) (pc : Masks) (opened : ℕ) (inner : Option Innermost) {p q : ℕ} (e : p ≡ q) where
  pub refused_at : {rs : List Record} {x : Refusal} → Refused m pc opened inner p rs x → Refused m pc opened inner q rs x
  refused_at {rs = rs} {x = x} h = subst (λ n. Refused m pc opened inner n rs x) e h

  pub block_at : {next : ℕ} {rs rest : List Record} {xs ys : List Instruction} → BlockRead m pc opened inner p rs xs ys next rest → BlockRead m pc opened inner q rs xs ys next rest
  block_at {next = next} {rs = rs} {rest = rest} {xs = xs} {ys = ys} h = subst (λ n. BlockRead m pc opened inner n rs xs ys next rest) e h

  pub reads_to : {place : ℕ} {rs left : List Record} {xs ys : List Instruction} → Reads m pc opened inner place rs xs ys p left → Reads m pc opened inner place rs xs ys q left
  reads_to {place = place} {rs = rs} {left = left} {xs = xs} {ys = ys} h = subst (λ n. Reads m pc opened inner place rs xs ys n left) e h

pub block_kept : {m : FlowMasks} {pc : Masks} {opened place next : ℕ} {inner : Option Innermost} {rs rest : List Record} {xs ys zs : List Instruction}
    → BlockRead m pc opened inner place rs xs ys next rest → ys ≡ zs → BlockRead m pc opened inner place rs xs zs next rest
block_kept {m} {pc} {opened} {place} {next} {inner} {rs} {rest} {xs} {ys} {zs} h e = subst (λ l. BlockRead m pc opened inner place rs xs l next rest) e h

module _ {m m' : FlowMasks} (d : m ≡ m') {pc pc' : Masks} (opened : ℕ) (inner : Option Innermost) (e : pc ≡ pc') where
  pub passed_under : {place : ℕ} {r : Record} {k k' : RecordKind} → k ≡ k' → Passed m pc opened inner place r k → Passed m' pc' opened inner place r k'
  passed_under {place = place} {r = r} f h = coe 0 1 (i. Passed (d i) (e i) opened inner place r (f i)) h

  pub refused_under : {place : ℕ} {rs : List Record} {x : Refusal} → Refused m pc opened inner place rs x → Refused m' pc' opened inner place rs x
  refused_under {place = place} {rs = rs} {x = x} h = coe 0 1 (i. Refused (d i) (e i) opened inner place rs x) h

  pub reads_under : {place next : ℕ} {rs left : List Record} {xs ys : List Instruction} → Reads m pc opened inner place rs xs ys next left → Reads m' pc' opened inner place rs xs ys next left
  reads_under {place = place} {next = next} {rs = rs} {left = left} {xs = xs} {ys = ys} h = coe 0 1 (i. Reads (d i) (e i) opened inner place rs xs ys next left) h

  pub block_under : {place next : ℕ} {rs rest : List Record} {xs ys : List Instruction} → BlockRead m pc opened inner place rs xs ys next rest → BlockRead m' pc' opened inner place rs xs ys next rest
  block_under {place = place} {next = next} {rs = rs} {rest = rest} {xs = xs} {ys = ys} h = coe 0 1 (i. BlockRead (d i) (e i) opened inner place rs xs ys next rest) h
