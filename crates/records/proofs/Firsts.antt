-- The first of a list of rules that fails. Assumes nothing.
use Rattle.std.proofs.Common.{◌≡◌, ℕ, zero, suc, ◌+◌, ◌<◌, ◌≤◌, Bool, true, false, cond, not, ◌||◌, List, [], ◌∷◌, ◌++◌, Ok, Err, sym, refl, ap, ◌∙◌, subst, inl, inr, arith}
use Rattle.std.proofs.lemmas.Bool.{cases_eq, cond-true, cond-false}
use Rattle.records.specs.declared.refusal.Refusal.{Refusal}
use Rattle.records.specs.Rules.{Reading, accepted, refused, Rule, each_from, first, judged}

pub refused_accepted : {X Y : Type 0} (e : Refusal) (x : X) → refused e ≡ accepted x → Y
refused_accepted e x h = let z : ◌≡◌ {A = ℕ} 0 1 = cc h in absurd (omega arith)

err_ok : {X Y : Type 0} (e : Refusal) (x : X) → Ok x ≡ Err e → Y
err_ok e x h = let z : ◌≡◌ {A = ℕ} 0 1 = cc h in absurd (omega arith)

pub first_append : {X : Type 0} (xs ys : List Rule) (a : Reading X) → first (xs ++ ys) a ≡ first xs (first ys a)
first_append [] ys a = refl
first_append (q ∷ qs) ys a = ap (λ x. cond q.holds x (refused q.refusal)) (first_append qs ys a)

-- ── rules one by one ──

pub took : {X : Type 0} (b : Bool) (a : Reading X) (e : Refusal) (x : X) → cond b a (refused e) ≡ accepted x → (b ≡ true) × (a ≡ accepted x)
took true a e x h = (refl, h)
took false a e x h = refused_accepted e x h

abbrev pub AllHold : List Rule → Type 0
AllHold [] = Unit {0}
AllHold (q ∷ qs) = (q.holds ≡ true) × AllHold qs

pub took_all : {X : Type 0} (qs : List Rule) (a : Reading X) (x : X) → first qs a ≡ accepted x → AllHold qs × (a ≡ accepted x)
took_all [] a x h = (tt, h)
took_all (q ∷ qs) a x h =
    let t = took q.holds (first qs a) q.refusal x h in
    let r = took_all qs a x t.1 in
    ((t.0, r.0), r.1)

pub first_holds : {X : Type 0} (qs : List Rule) (a : Reading X) → AllHold qs → first qs a ≡ a
first_holds [] a h = refl
first_holds (q ∷ qs) a h = cond-true q.holds _ _ h.0 ∙ first_holds qs a h.1

-- ── the result of a check ──

pub judged_ok : {X : Type 0} (qs : List Rule) (x y : X) → Ok y ≡ judged qs x → (y ≡ x) × AllHold qs
judged_ok [] x y h = (cc h, tt)
judged_ok (q ∷ qs) x y h = go q.holds refl (λ k. judged_ok qs x y k) h
  where
    go : (b : Bool) → q.holds ≡ b → (Ok y ≡ judged qs x → (y ≡ x) × AllHold qs) → Ok y ≡ cond b (judged qs x) (Err q.refusal) → (y ≡ x) × ((q.holds ≡ true) × AllHold qs)
    go true e f k = ((f k).0, (e, (f k).1))
    go false e f k = err_ok q.refusal y k

pub judged_err : {X Y : Type 0} (qs : List Rule) (x : X) (e : Refusal) → Err e ≡ judged qs x → (a : Reading Y) → first qs a ≡ refused e
judged_err [] x e h a = err_ok e x (sym h)
judged_err (q ∷ qs) x e h a = go q.holds (λ k. judged_err qs x e k a) h
  where
    go : (b : Bool) → (Err e ≡ judged qs x → first qs a ≡ refused e) → Err e ≡ cond b (judged qs x) (Err q.refusal) → cond b (first qs a) (refused q.refusal) ≡ refused e
    go true f k = f k
    go false f k = let z : q.refusal ≡ e = cc k in ap refused z

-- ── a rule for each of so many numbers ──

pub each_holds : {X : Type 0} (i k : ℕ) (f : ℕ → Rule) (a : Reading X) → ((c : ℕ) → c < i + k → (f c).holds ≡ true) → first (each_from i k f) a ≡ a
each_holds i zero f a h = refl
each_holds i (suc k) f a h = cond-true (f i).holds _ _ (h i (omega arith)) ∙ each_holds (i + 1) k f a (λ c l. h c (omega arith))

pub each_refuses : {X : Type 0} (i k t : ℕ) (f : ℕ → Rule) (a : Reading X) → i ≤ t → t < i + k → ((c : ℕ) → c < t → (f c).holds ≡ true) → (f t).holds ≡ false
    → first (each_from i k f) a ≡ refused (f t).refusal
each_refuses i zero t f a l m h e = absurd (omega arith)
each_refuses i (suc k) t f a l m h e =
    elim (cases_eq i t) [
      | inl q ↦ subst (λ x. cond (f x).holds (first (each_from (i + 1) k f) a) (refused (f x).refusal) ≡ refused (f t).refusal) (sym q) (cond-false (f t).holds _ _ e)
      | inr q ↦ cond-true (f i).holds _ _ (h i (omega arith)) ∙ each_refuses (i + 1) k t f a (omega arith) (omega arith) h e
    ]

pub each_same : {X : Type 0} (i k : ℕ) (f g : ℕ → Rule) (a : Reading X) → ((c : ℕ) → c < i + k → f c ≡ g c) → first (each_from i k f) a ≡ first (each_from i k g) a
each_same i zero f g a h = refl
each_same i (suc k) f g a h = λ j. cond (h i (omega arith) j).holds (each_same (i + 1) k f g a (λ c l. h c (omega arith)) j) (refused (h i (omega arith) j).refusal)

pub took_each : {X : Type 0} (i k : ℕ) (f : ℕ → Rule) (a : Reading X) (x : X) → first (each_from i k f) a ≡ accepted x → ((c : ℕ) → i ≤ c → c < i + k → (f c).holds ≡ true) × (a ≡ accepted x)
took_each i zero f a x h = (λ c l m. absurd (omega arith), h)
took_each i (suc k) f a x h =
    let t = took (f i).holds (first (each_from (i + 1) k f) a) (f i).refusal x h in
    let r = took_each (i + 1) k f a x t.1 in
    (λ c l m. elim (cases_eq c i) [ inl e ↦ ap (λ y. (f y).holds) e ∙ t.0 | inr e ↦ r.0 c (omega arith) (omega arith) ], r.1)

-- ── rules that ask one thing where another holds ──

pub implies : (x y : Bool) → (x ≡ true → y ≡ true) → (not x || y) ≡ true
implies true y h = h refl
implies false y h = refl

pub implied : (x y : Bool) → (not x || y) ≡ true → x ≡ true → y ≡ true
implied true y h e = h
implied false y h e = let z : ◌≡◌ {A = ℕ} 0 1 = cc e in absurd (omega arith)
