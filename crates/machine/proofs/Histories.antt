-- Whole lists of calls on two boxes: where what remains for the observer went in alike, it is answered alike.
use Rattle.std.proofs.Common.{◌≡◌, Bool, true, false, cond, List, [], ◌∷◌, ◌++◌, map, ℤ, sym, refl, ap, ◌∙◌, subst, ap₂}
use Rattle.machine.specs.Calls.{Call, Answer}
use Rattle.machine.specs.Machine.{System, State, Event, step, event, history, final}
use Rattle.machine.specs.Observation.{Observer, hidden, observed, observed_calls, observed_answers, observed_releases}
use Rattle.machine.proofs.Steps.{Setting, Twin, twin_sym, Seen, seen, struck}

abbrev call_of : Event → Call
call_of e = e.call

abbrev answer_of : Event → Answer
answer_of e = e.answer

module _ (S : System) (o : Observer) where
  abbrev struck_at : State → Call → Bool
  struck_at st c = hidden S.lattice o st c

  abbrev Calls : State → List Call → List Call
  Calls st cs = observed_calls S.lattice o (history S st cs)

  abbrev Answers : State → List Call → List Answer
  Answers st cs = observed_answers S.lattice o (history S st cs)

  abbrev Releases : State → List Call → List ℤ
  Releases st cs = observed_releases S.lattice o (history S st cs)

  -- any part of the events, where the first call is struck and where it remains
  part_struck : {A : Type 0} (f : Event → A) (st : State) (c : Call) (cs : List Call) → struck_at st c ≡ true
      → map f (observed S.lattice o (history S st (c ∷ cs))) ≡ map f (observed S.lattice o (history S (step S st c).next cs))
  part_struck f st c cs h =
      let rest = observed S.lattice o (history S (step S st c).next cs) in
      ap (λ t. map f (cond t rest (event S st c ∷ rest))) h

  part_seen : {A : Type 0} (f : Event → A) (st : State) (c : Call) (cs : List Call) → struck_at st c ≡ false
      → map f (observed S.lattice o (history S st (c ∷ cs))) ≡ (f (event S st c) ∷ map f (observed S.lattice o (history S (step S st c).next cs)))
  part_seen f st c cs h =
      let rest = observed S.lattice o (history S (step S st c).next cs) in
      ap (λ t. map f (cond t rest (event S st c ∷ rest))) h

  pub record Followed (st st' : State) (cs ds : List Call) : Type 0 where
    pub answers : Answers st cs ≡ Answers st' ds
    pub twin : Twin S o (final S st cs) (final S st' ds)

  -- all that the observer knows to have gone in alike
  abbrev Follow : State → State → List Call → List Call → Type 0
  Follow st st' cs ds = Twin S o st st' → Calls st cs ≡ Calls st' ds → Releases st cs ≡ Releases st' ds → Followed st st' cs ds

  abbrev after : State → Call → State
  after st c = (step S st c).next

module _ {S : System} {o : Observer} (G : Setting S o) where
  -- a struck call on the right, or on the left
  skip_right : (st st' : State) (cs : List Call) (d : Call) (ds : List Call) → struck_at S o st' d ≡ true → Follow S o st (after S o st' d) cs ds → Follow S o st st' cs (d ∷ ds)
  skip_right st st' cs d ds h k t e f =
      let q = struck G (twin_sym S o t) d h in
      let z = k (twin_sym S o q.0) (e ∙ part_struck S o call_of st' d ds h) (f ∙ ap (λ x. x ++ Releases S o (after S o st' d) ds) q.1) in
      record { answers = z.answers ∙ sym (part_struck S o answer_of st' d ds h); twin = z.twin }

  skip_left : (st st' : State) (c : Call) (cs ds : List Call) → struck_at S o st c ≡ true → Follow S o (after S o st c) st' cs ds → Follow S o st st' (c ∷ cs) ds
  skip_left st st' c cs ds h k t e f =
      let q = struck G t c h in
      let z = k q.0 (sym (part_struck S o call_of st c cs h) ∙ e) (sym (ap (λ x. x ++ Releases S o (after S o st c) cs) q.1) ∙ f) in
      record { answers = part_struck S o answer_of st c cs h ∙ z.answers; twin = z.twin }

  -- both lists go on with the same call
  both : (st st' : State) (c d : Call) (cs ds : List Call) → struck_at S o st c ≡ false → struck_at S o st' d ≡ false
      → Follow S o (after S o st c) (after S o st' d) cs ds → Follow S o st st' (c ∷ cs) (d ∷ ds)
  both st st' c d cs ds h h' k t e f =
      let e' : (c ∷ Calls S o (after S o st c) cs) ≡ (d ∷ Calls S o (after S o st' d) ds) = sym (part_seen S o call_of st c cs h) ∙ e ∙ part_seen S o call_of st' d ds h' in
      let same : c ≡ d = cc in
      let rest : Calls S o (after S o st c) cs ≡ Calls S o (after S o st' d) ds = cc in
      let one = subst (λ (x : Call). Seen G st st' c x) same (seen G t c h) in
      let z = one (Releases S o (after S o st c) cs) (Releases S o (after S o st' d) ds) f in
      let more = k z.0 rest z.2 in
      record {
        answers = part_seen S o answer_of st c cs h ∙ ap₂ (λ x xs. x ∷ xs) z.1 more.answers ∙ sym (part_seen S o answer_of st' d ds h');
        twin = more.twin;
      }

  ends : (ds : List Call) (st st' : State) → Follow S o st st' [] ds
  ends [] st st' t e f = record { answers = refl; twin = t }
  ends (d ∷ ds) st st' t e f = go (struck_at S o st' d) refl (ends ds st (after S o st' d))
    where
      go : (b : Bool) → struck_at S o st' d ≡ b → Follow S o st (after S o st' d) [] ds → Followed S o st st' [] (d ∷ ds)
      go true h k = skip_right st st' [] d ds h k t e f
      go false h k = let no : [] ≡ (d ∷ Calls S o (after S o st' d) ds) = e ∙ part_seen S o call_of st' d ds h in cc

  advance : (c : Call) (cs : List Call) → ((ds : List Call) (st st' : State) → Follow S o st st' cs ds) → (ds : List Call) (st st' : State) → struck_at S o st c ≡ false → Follow S o st st' (c ∷ cs) ds
  advance c cs k [] st st' h t e f = let no : [] ≡ (c ∷ Calls S o (after S o st c) cs) = sym e ∙ part_seen S o call_of st c cs h in cc
  advance c cs k (d ∷ ds) st st' h t e f = go (struck_at S o st' d) refl (advance c cs k ds st (after S o st' d) h)
    where
      go : (b : Bool) → struck_at S o st' d ≡ b → Follow S o st (after S o st' d) (c ∷ cs) ds → Followed S o st st' (c ∷ cs) (d ∷ ds)
      go true h' j = skip_right st st' (c ∷ cs) d ds h' j t e f
      go false h' j = both st st' c d cs ds h h' (k ds (after S o st c) (after S o st' d)) t e f

  pub follow : (cs ds : List Call) (st st' : State) → Follow S o st st' cs ds
  follow [] ds st st' t e f = ends ds st st' t e f
  follow (c ∷ cs) ds st st' t e f = go (struck_at S o st c) refl (follow cs)
    where
      go : (b : Bool) → struck_at S o st c ≡ b → ((ds : List Call) (st st' : State) → Follow S o st st' cs ds) → Followed S o st st' (c ∷ cs) ds
      go true h k = skip_left st st' c cs ds h (k ds (after S o st c) st') t e f
      go false h k = advance c cs k ds st st' h t e f
