-- One call more. Assumes nothing.
use Rattle.std.proofs.Common.{◌≡◌, ℕ, ◌+◌, ◌<◌, List, [], ◌∷◌, ◌++◌, map, length, get_or, take, ℤ, Ok, Err, Result, MatchResult, sym, refl, ap, ◌∙◌, subst}
use Rattle.std.proofs.lemmas.List.{take_more, map_push}
use Rattle.lattice.specs.Lattice.{Lattice}
use Rattle.records.specs.declared.refusal.Refusal.{Refusal}
use Rattle.machine.specs.Calls as machine
use Rattle.machine.specs.Machine.{System, State, bare, step, history, final}
use Rattle.siteunit.specs.declared.site.SiteBox.{SiteBox}
use Rattle.siteunit.specs.Obeying.{system_of, answer_of, StandsFor, Obeys}
use Rattle.stream.specs.declared.answers.Answer.{Answer}
use Rattle.stream.specs.declared.answers.Answer.TheVariants.{Refused}
use Rattle.stream.specs.declared.calls.Call.{Call}
use Rattle.stream.specs.Calls.{heard}
use Rattle.session.specs.Sessions.{told, answers_to}

final_push : (S : System) (st : State) (cs : List machine.Call) (c : machine.Call) → final S st (cs ++ c ∷ []) ≡ (step S (final S st cs) c).next
final_push S st [] c = refl
final_push S st (d ∷ cs) c = final_push S (step S st d).next cs c

answers_push : (S : System) (st : State) (cs : List machine.Call) (c : machine.Call)
    → map (λ e. e.answer) (history S st (cs ++ c ∷ [])) ≡ map (λ e. e.answer) (history S st cs) ++ ((step S (final S st cs) c).answer ∷ [])
answers_push S st [] c = refl
answers_push S st (d ∷ cs) c = ap (λ l. (step S st d).answer ∷ l) (answers_push S (step S st d).next cs c)

-- the answer that tells a result
pub tells : (r : Result Answer Refusal) (a : Answer) → MatchResult r (λ x. a ≡ x) (λ e. a ≡ Refused e) → told a ≡ answer_of told r
tells (Ok x) a h = ap told h
tells (Err e) a h = ap told h

module _ {X Y : Type 0} (lattice_of : X → Lattice) (values_of : Y → List ℤ) (image : List ℤ → List ℕ) (lat : X) where
  abbrev S : System
  S = system_of (lattice_of lat) image

  -- the box stands where the machine does after these calls, and these answers are the machine's
  pub record Sofar (b : SiteBox X Y) (vs : List Answer) (cs : List machine.Call) : Type 0 where
    pub lattice : b.lattice ≡ lat
    pub stands : StandsFor lattice_of values_of b (final S bare cs)
    pub answers : map told vs ≡ answers_to S cs

  run_more : (b b' : SiteBox X Y) (vs ws : List Answer) (cs : List machine.Call) (c : machine.Call) (r : Result Answer Refusal) (a : Answer)
      → Sofar b vs cs → Obeys lattice_of values_of image told b b' c r → told a ≡ answer_of told r → ws ≡ vs ++ a ∷ [] → Sofar b' ws (cs ++ c ∷ [])
  run_more b b' vs ws cs c r a h o t e =
      let st : State = final S bare cs in
      let same : system_of (lattice_of b.lattice) image ≡ S = ap (λ x. system_of (lattice_of x) image) h.lattice in
      let told-so : told a ≡ (step S st c).answer = t ∙ o.answer st h.stands ∙ ap (λ T. (step T st c).answer) same in
      let there : StandsFor lattice_of values_of b' (step S st c).next = subst (λ (T : System). StandsFor lattice_of values_of b' (step T st c).next) same (o.next st h.stands) in
      record {
        lattice = o.lattice ∙ h.lattice;
        stands = subst (StandsFor lattice_of values_of b') (sym (final_push S bare cs c)) there;
        answers =
            ap (map told) e ∙ map_push told vs a ∙ ap (λ l. l ++ (told a ∷ [])) h.answers
            ∙ ap (λ x. answers_to S cs ++ (x ∷ [])) told-so ∙ sym (answers_push S bare cs c);
      }

  pub run_next : (calls : List Call) (i : ℕ) (d : Call) → i < length calls → (b b' : SiteBox X Y) (vs ws : List Answer) (r : Result Answer Refusal) (a : Answer)
      → Sofar b vs (map (heard 320) (take i calls)) → Obeys lattice_of values_of image told b b' (heard 320 (get_or calls i d)) r → told a ≡ answer_of told r → ws ≡ vs ++ a ∷ []
      → Sofar b' ws (map (heard 320) (take (i + 1) calls))
  run_next calls i d l b b' vs ws r a h o t e =
      subst (Sofar b' ws) (sym (ap (map (heard 320)) (take_more calls i d l) ∙ map_push (heard 320) (take i calls) (get_or calls i d)))
      (run_more b b' vs ws (map (heard 320) (take i calls)) (heard 320 (get_or calls i d)) r a h o t e)
