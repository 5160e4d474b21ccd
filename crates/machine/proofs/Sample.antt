-- The readers of the sample meet what the promises ask of readers.
use Rattle.std.proofs.Common.{◌≡◌, ℕ, true, ◌&&◌, eqb, List, refl, ap, subst, arith}
use mathlib.Core.Bool.{false≢true}
use Rattle.std.specs.Int.{int_wrap}
use Rattle.std.proofs.lemmas.Bool.{eqb-true, and_parts}
use Rattle.std.proofs.lemmas.Bool.Decides.{nat_tests}
use Rattle.lattice.specs.Lattice.{Lattice, Lawful}
use Rattle.lattice.specs.Chain.{chain}
use Rattle.records.specs.Records.{bytes, records}
use Rattle.records.specs.Rules.{accepted, first}
use Rattle.records.proofs.Firsts.{took_all}
use Rattle.policy.specs.Policy.{Policy, leaf, erase, FlowsTo}
use Rattle.policy.specs.Masks.{bit}
use Rattle.sheet.specs.Sheet.{Sheet, policy_of}
use Rattle.sheet.specs.Rules.{sheet_in, answer}
use Rattle.machine.specs.Command.{Command}
use Rattle.machine.specs.SoundSheet.{SoundSheet, HasVariable}
use Rattle.machine.specs.SheetReader.{are_bytes}
use Rattle.machine.specs.Typing.{outermost, WellTyped}
use Rattle.machine.specs.Promises.{SoundReaders}
use Rattle.machine.specs.Sample.{sample_program, sample_readers, same_policy, program_rules, SampleStands}
use Rattle.machine.proofs.Examples.{from_top}
use Rattle.policy.proofs.RowLevels.{known_under}
use Rattle.machine.proofs.Sheets.{reader_sound}

chain_lawful : (t : ℕ) → Lawful (chain t)
chain_lawful t = record {
  reflexive = λ a h. grind (arith, nat_tests);
  transitive = λ a b c h k l e f. grind (arith, nat_tests);
  antisymmetric = λ a b h k e f. grind (arith, nat_tests);
  join_known = λ a b h k. grind (arith, nat_tests);
  join_left = λ a b h k. grind (arith, nat_tests);
  join_right = λ a b h k. grind (arith, nat_tests);
  join_least = λ a b c h k l e f. grind (arith, nat_tests);
  lowest_known = grind (arith, nat_tests);
  lowest_below = λ a h. grind (arith, nat_tests);
  highest_known = grind (arith, nat_tests);
  highest_above = λ a h. grind (arith, nat_tests);
  unknown_below = λ a b h. grind (arith, nat_tests);
  unknown_above = λ a b h. grind (arith, nat_tests);
  unknown_join_left = λ a b h. grind (arith, nat_tests);
  unknown_join_right = λ a b h. grind (arith, nat_tests);
}

same_policy_lem : (p q : Policy) → same_policy p q ≡ true → p ≡ q
same_policy_lem (leaf l) (leaf k) h = ap leaf (eqb-true l k h)
same_policy_lem (leaf l) (erase d r t) h = absurd (false≢true h)
same_policy_lem (erase c p q) (leaf k) h = absurd (false≢true h)
same_policy_lem (erase c p q) (erase d r t) h =
    let a = and_parts (eqb c d) (same_policy p r && same_policy q t) h in
    let b = and_parts (same_policy p r) (same_policy q t) a.1 in
    let e = eqb-true c d a.0 in
    let f = same_policy_lem p r b.0 in
    let g = same_policy_lem q t b.1 in
    λ i. erase (e i) (f i) (g i)

program_sound : (C : Lattice) → Lawful C → (sh : Sheet) → SoundSheet C sh → (xs : List ℕ) (c : Command)
    → first (program_rules sh xs) (accepted sample_program) ≡ accepted c → WellTyped C sh outermost c
program_sound C W sh G xs c e =
    let t = took_all (program_rules sh xs) (accepted sample_program) c e in
    let r = t.0 in
    let h : sample_program ≡ c = cc t.1 in
    let target = r.1.0 in
    let source = r.1.1.0 in
    let f = flows source r.1.1.1.0 in
    subst (WellTyped C sh outermost) h ((target, source, source, from_top C sh (policy_of sh 2), f, f), tt)
  where
    flows : HasVariable sh 0 → same_policy (policy_of sh 0) (policy_of sh 2) ≡ true → FlowsTo C (policy_of sh 0) (policy_of sh 2)
    flows d k = subst (FlowsTo C (policy_of sh 0)) (same_policy_lem (policy_of sh 0) (policy_of sh 2) k) (λ s. W.reflexive _ (known_under W s (policy_of sh 0) (G.variables 0 d)))

sound_readers : SoundReaders sample_readers
sound_readers = record {
  sheets = λ C W bs sh e. reader_sound C bs sh e;
  programs = λ C W bs sh e xs c f. program_sound C W sh (reader_sound C bs sh e) xs c f;
}

pub sample_stands : SampleStands
unfolding int_wrap bytes are_bytes sheet_in answer records bit
sample_stands = record {
  sound = sound_readers;
  kind = record {
    readers = refl;
    readers' = refl;
    lawful = chain_lawful 3;
    lawful' = chain_lawful 3;
    order = record { known = λ a. refl; below = λ a b h k. refl };
    image = λ values. refl;
  };
  answers = refl;
}
