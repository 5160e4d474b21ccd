-- Which call stands at the front of a stream. Assumes nothing.
use Rattle.std.proofs.Common.{◌≡◌, ℕ, ◌*◌, ◌/◌, ◌%◌, ◌<◌, Bool, true, false, cond, ◌&&◌, eqb, ◌⊎◌, List, [], ◌∷◌, ◌++◌, length, Some, None, Option, sym, refl, ap, ◌∙◌, subst, inl, inr, arith, w32, to_z}
use Rattle.std.proofs.lemmas.List.{length-append, append_assoc}
use Rattle.std.proofs.lemmas.Int.{of_z-to_z}
use Rattle.std.proofs.lemmas.Bool.{and_parts, eqb-true}
use Rattle.records.specs.declared.Record.{Record}
use Rattle.records.specs.Records.{Fit, bytes}
use Rattle.records.proofs.Formats.{length_bytes, record_front}
use Rattle.machine.specs.Calls.{Call}
use Rattle.stream.specs.declared.calls.Call as coded
use Rattle.stream.specs.declared.calls.Call.TheVariants.{Feed, Raise, Lower, Pass, Look, Ask, Image}
use Rattle.stream.specs.Calls.{call_record, head_of, body_of, call_bytes, heard, plain_head, number_head, name_head, short_call, CallRead, NoCall}

-- ── the heads ──

module _ (r : Record) (l : ℕ) where
  head_plain : (eqb r.letter l && plain_head r) ≡ true → r ≡ call_record l r.a r.n
  head_plain h =
      let p = and_parts (eqb r.letter l) (plain_head r) h in
      let q = and_parts (eqb r.b 0) (eqb r.c 0) p.1 in
      λ i. record { letter = eqb-true r.letter l p.0 i; a = r.a; b = eqb-true r.b 0 q.0 i; c = eqb-true r.c 0 q.1 i; n = r.n }

  head_number : (eqb r.letter l && number_head r) ≡ true → r ≡ call_record l 0 r.n
  head_number h =
      let p = and_parts (eqb r.letter l) (number_head r) h in
      let o = and_parts (eqb r.a 0) (plain_head r) p.1 in
      let q = and_parts (eqb r.b 0) (eqb r.c 0) o.1 in
      λ i. record { letter = eqb-true r.letter l p.0 i; a = eqb-true r.a 0 o.0 i; b = eqb-true r.b 0 q.0 i; c = eqb-true r.c 0 q.1 i; n = r.n }

  head_name : (eqb r.letter l && name_head r) ≡ true → r ≡ call_record l r.a 0
  head_name h =
      let p = and_parts (eqb r.letter l) (name_head r) h in
      let o = and_parts (plain_head r) (eqb r.n 0) p.1 in
      let q = and_parts (eqb r.b 0) (eqb r.c 0) o.0 in
      λ i. record { letter = eqb-true r.letter l p.0 i; a = r.a; b = eqb-true r.b 0 q.0 i; c = eqb-true r.c 0 q.1 i; n = eqb-true r.n 0 o.1 i }

-- ── calls without further bytes ──

abbrev Short : Record → coded.Call → Type 0
Short r call = (head_of (heard 0 call) ≡ r) × (body_of (heard 0 call) ≡ [])

pick : (b : Bool) (r : Record) (x call : coded.Call) (o : Option coded.Call) → (b ≡ true → Short r x) → Some call ≡ cond b (Some x) o → (Some call ≡ o → Short r call) → Short r call
pick true r x call o s h k = let e : x ≡ call = cc h in subst (Short r) e (s refl)
pick false r x call o s h k = k h

short_read : (r : Record) (call : coded.Call) → Fit r → Some call ≡ short_call r → Short r call
short_read r call f h =
    pick (eqb r.letter 102 && plain_head r) r (Feed r.a (to_z w32 r.n)) call _ (λ e. (ap (call_record 102 r.a) (of_z-to_z w32 r.n f) ∙ sym (head_plain r 102 e), refl)) h
    (λ h1. pick (eqb r.letter 117 && name_head r) r (Raise r.a) call _ (λ e. (sym (head_name r 117 e), refl)) h1
    (λ h2. pick (eqb r.letter 100 && name_head r) r (Lower r.a) call _ (λ e. (sym (head_name r 100 e), refl)) h2
    (λ h3. pick (eqb r.letter 112 && number_head r) r (Pass r.n) call _ (λ e. (sym (head_number r 112 e), refl)) h3
    (λ h4. pick (eqb r.letter 107 && plain_head r) r (Look r.n r.a) call _ (λ e. (sym (head_plain r 107 e), refl)) h4
    (λ h5. pick (eqb r.letter 113 && plain_head r) r (Ask r.n r.a) call _ (λ e. (sym (head_plain r 113 e), refl)) h5
    (λ h6. pick (eqb r.letter 105 && number_head r) r (Image r.n) call None (λ e. (sym (head_number r 105 e), refl)) h6
    (λ h7. let z : ◌≡◌ {A = ℕ} 0 1 = cc h7 in absurd (omega arith))))))))

-- a sheet or a program: the head of a call that needs further bytes
abbrev Long : Record → Type 0
Long r = ((eqb r.letter 104 && number_head r) ≡ true) ⊎ ((eqb r.letter 108 && number_head r) ≡ true)

missed : {X : Type 0} (x : coded.Call) → None ≡ Some x → X
missed x h = let z : ◌≡◌ {A = ℕ} 0 1 = cc h in absurd (omega arith)

short_missed : (r : Record) (c : Call) → head_of c ≡ r → None ≡ short_call r → Long r
short_missed r (Call.sheet xs) e h = inl (ap (λ s. eqb s.letter 104 && number_head s) (sym e))
short_missed r (Call.load xs) e h = inr (ap (λ s. eqb s.letter 108 && number_head s) (sym e))
short_missed r (Call.feed v x) e h = missed _ (h ∙ ap short_call (sym e))
short_missed r (Call.raise c) e h = missed _ (h ∙ ap short_call (sym e))
short_missed r (Call.lower c) e h = missed _ (h ∙ ap short_call (sym e))
short_missed r (Call.pass n) e h = missed _ (h ∙ ap short_call (sym e))
short_missed r (Call.look l v) e h = missed _ (h ∙ ap short_call (sym e))
short_missed r (Call.ask l c) e h = missed _ (h ∙ ap short_call (sym e))
short_missed r (Call.image l s) e h = missed _ (h ∙ ap short_call (sym e))

-- ── what is no call ──

pub too_short : (input : List ℕ) → (input ≡ [] → ⊥) → length input < 8 → NoCall input
too_short input s l = record {
  some = s;
  none = λ c rest f e. absurd (omega (arith, l, ap length e, length-append (call_bytes c) rest, length-append (bytes (head_of c ∷ [])) (body_of c), length_bytes (head_of c ∷ [])));
}

module _ (input rest : List ℕ) (head : Record) (f : Fit head) (stands : input ≡ bytes (head ∷ []) ++ rest) where
  something : input ≡ [] → ⊥
  something e = absurd (omega (arith, ap length e, ap length stands, length-append (bytes (head ∷ [])) rest, length_bytes (head ∷ [])))

  front : (c : Call) (after : List ℕ) → Fit (head_of c) → input ≡ call_bytes c ++ after → (head_of c ≡ head) × (rest ≡ body_of c ++ after)
  front c after g e =
      let p = record_front (head_of c) head (body_of c ++ after) rest g f (sym (append_assoc (bytes (head_of c ∷ [])) (body_of c) after) ∙ sym e ∙ stands) in
      (p.0, sym p.1)

  pub no_short : None ≡ short_call head → ((eqb head.letter 104 && number_head head) ≡ true → ⊥) → ((eqb head.letter 108 && number_head head) ≡ true → ⊥) → NoCall input
  no_short h s l = record {
    some = something;
    none = λ c after g e. elim (short_missed head c (front c after g e).0 h) [ inl k ↦ s k | inr k ↦ l k ];
  }

  -- announced records that are not there
  pub no_records : (letter : ℕ) → (letter ≡ 104) ⊎ (letter ≡ 108) → head.letter ≡ letter → length rest < 8 * head.n → NoCall input
  no_records letter w e l = record {
    some = something;
    none = λ c after g k. let p = front c after g k in missing c after p.0 p.1 l;
  }
    where
      fewer : (xs after : List ℕ) → length xs / 8 ≡ head.n → rest ≡ xs ++ after → length rest < 8 * head.n → ⊥
      fewer xs after n r m = absurd (omega (arith, n, ap length r, length-append xs after, m))

      other : {X : Type 0} (k : ℕ) → k ≡ head.letter → (k ≡ 104 → ⊥) → (k ≡ 108 → ⊥) → X
      other k q a b = elim w [ inl z ↦ absurd (a (q ∙ e ∙ z)) | inr z ↦ absurd (b (q ∙ e ∙ z)) ]

      missing : (c : Call) (after : List ℕ) → head_of c ≡ head → rest ≡ body_of c ++ after → length rest < 8 * head.n → ⊥
      missing (Call.sheet xs) after h r m = fewer xs after (ap (λ s. s.n) h) r m
      missing (Call.load xs) after h r m = fewer xs after (ap (λ s. s.n) h) r m
      missing (Call.feed v x) after h r m = other 102 (ap (λ s. s.letter) h) (λ z. absurd (omega arith)) (λ z. absurd (omega arith))
      missing (Call.raise c) after h r m = other 117 (ap (λ s. s.letter) h) (λ z. absurd (omega arith)) (λ z. absurd (omega arith))
      missing (Call.lower c) after h r m = other 100 (ap (λ s. s.letter) h) (λ z. absurd (omega arith)) (λ z. absurd (omega arith))
      missing (Call.pass n) after h r m = other 112 (ap (λ s. s.letter) h) (λ z. absurd (omega arith)) (λ z. absurd (omega arith))
      missing (Call.look l v) after h r m = other 107 (ap (λ s. s.letter) h) (λ z. absurd (omega arith)) (λ z. absurd (omega arith))
      missing (Call.ask l c) after h r m = other 113 (ap (λ s. s.letter) h) (λ z. absurd (omega arith)) (λ z. absurd (omega arith))
      missing (Call.image l s) after h r m = other 105 (ap (λ s. s.letter) h) (λ z. absurd (omega arith)) (λ z. absurd (omega arith))

  -- ── what is a call ──

  pub read_short : (call : coded.Call) → Some call ≡ short_call head → CallRead input call rest
  read_short call h =
      let p = short_read head call f h in
      record {
        stands = stands ∙ ap (λ s. bytes (s ∷ []) ++ rest) (sym p.0) ∙ ap (λ b. bytes (head_of (heard 0 call) ∷ []) ++ (b ++ rest)) (sym p.1) ∙ sym (append_assoc (bytes (head_of (heard 0 call) ∷ [])) (body_of (heard 0 call)) rest);
        whole = ap (λ b. length b % 8) p.1;
      }
